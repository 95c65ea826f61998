use Rattle.std.proofs.Common.{rules}
use Rattle.extents.proofs.extent_map.ExtentMap.new.Goals as goal

pub returns : goal.returns
returns c = search rules
