use Rattle.std.proofs.Common.{rules}
use Rattle.sector_model.proofs.files.Slot.is_closed.Goals as goal

pub returns : goal.returns
returns c = search rules
