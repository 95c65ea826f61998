use Rattle.std.proofs.Common.{rules}
use Rattle.superblock.proofs.state.State.byte.Goals as goal

pub returns-in-InSync : goal.returns-in-InSync
returns-in-InSync c = search rules
