use Rattle.std.proofs.Common.{rules}
use Rattle.extents.proofs.owner_codec.is_marked.Goals as goal

pub returns : goal.returns
returns c = search rules
