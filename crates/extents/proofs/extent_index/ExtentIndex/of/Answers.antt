use Rattle.std.proofs.Common.{rules}
use Rattle.extents.proofs.extent_index.ExtentIndex.of.Goals as goal

pub returns : goal.returns
returns c = search rules
