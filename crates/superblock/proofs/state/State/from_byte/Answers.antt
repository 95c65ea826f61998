use Rattle.std.proofs.Common.{rules}
use Rattle.superblock.proofs.state.State.from_byte.Goals as goal

pub returns-in-2 : goal.returns-in-2
returns-in-2 c = search rules
