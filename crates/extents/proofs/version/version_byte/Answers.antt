use Rattle.std.proofs.Common.{rules}
use Rattle.extents.specs.Versions.{version_byte}
use Rattle.extents.proofs.version.version_byte.Goals as goal

pub returns-then-tells_dirty : goal.returns-then-tells_dirty
unfolding version_byte
returns-then-tells_dirty c = search rules

pub returns-else-tells_dirty : goal.returns-else-tells_dirty
unfolding version_byte
returns-else-tells_dirty c = search rules
