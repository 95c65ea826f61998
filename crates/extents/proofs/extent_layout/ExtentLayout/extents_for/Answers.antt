use Rattle.std.proofs.Common.{◌∙◌, ap}
use Rattle.extents.specs.VolumeTables.{extents_for}
use Rattle.extents.proofs.Blocks.{rounded_up_is}
use Rattle.extents.proofs.extent_layout.ExtentLayout.extents_for.Goals as goal

pub returns : goal.returns
returns c = c.div_ceil.ensures ∙ rounded_up_is c.args.self.now.blocks c.from.result c.args.self.now.limits.some
    ∙ ap (extents_for c.args.self.now.blocks) c.from.ensures
