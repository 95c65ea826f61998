use Rattle.std.proofs.Common.{rules}
use Rattle.degraded.proofs.live.Live.is_rebuilt.Goals as goal

pub returns-else-rebuilding-member : goal.returns-else-rebuilding-member
returns-else-rebuilding-member c = search rules
