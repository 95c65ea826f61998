use Rattle.std.proofs.Common.{rules}
use Rattle.degraded.proofs.oracle.sources.RowSources.is_sound.Goals as goal

pub returns : goal.returns
returns c = search rules
