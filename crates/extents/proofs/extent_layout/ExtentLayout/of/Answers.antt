use Rattle.std.proofs.Common.{refl}
use Rattle.extents.specs.SetExtents.{extents_in}
use Rattle.extents.proofs.Same.{same_layout}
use Rattle.extents.proofs.extent_layout.ExtentLayout.of.Goals as goal

pub returns : goal.returns
unfolding extents_in
returns c = same_layout _ (extents_in c.args.geometry.now) refl c.first_extent.ensures c.extent_blocks.ensures c.extents.ensures
