use Rattle.std.proofs.Common.{rules}
use Rattle.layout_map.proofs.geometry.Geometry.rows.Goals as goal

pub returns : goal.returns
returns c = search rules
