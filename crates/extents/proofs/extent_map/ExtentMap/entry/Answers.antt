use Rattle.std.proofs.Common.{rules}
use Rattle.extents.proofs.extent_map.ExtentMap.entry.Goals as goal

pub returns : goal.returns
returns c = search rules
