use Rattle.std.proofs.Common.{arith}
use Rattle.extents.specs.VolumeTables.{most_blocks}
use Rattle.extents.proofs.extent_layout.ExtentLayout.most_blocks.Goals as goal

pub returns : goal.returns
unfolding most_blocks
returns c = omega (arith, c.min.ensures, c.from.ensures)
