use Rattle.std.proofs.Common.{rules}
use Rattle.recovery.proofs.stale_superblocks.is_in.Goals as goal

pub returns : goal.returns
returns c = search rules
