use Rattle.std.proofs.Common.{rules}
use Rattle.degraded.proofs.oracle.sources.RowSources.known_directly.Goals as goal

pub returns-in-Some : goal.returns-in-Some
returns-in-Some c = search rules
