use Rattle.std.proofs.Common.{rules}
use Rattle.extents.proofs.name.Name.bytes.Goals as goal

pub returns : goal.returns
returns c = search rules
