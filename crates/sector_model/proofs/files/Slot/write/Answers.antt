use Rattle.std.proofs.Common.{rules}
use Rattle.sector_model.proofs.files.Slot.write.Goals as goal

pub returns-clause-written : goal.returns-clause-written
returns-clause-written c = search rules
