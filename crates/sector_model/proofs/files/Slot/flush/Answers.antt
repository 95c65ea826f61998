use Rattle.std.proofs.Common.{rules}
use Rattle.sector_model.proofs.files.Slot.flush.Goals as goal

pub returns-clause-safe : goal.returns-clause-safe
returns-clause-safe c = search rules
