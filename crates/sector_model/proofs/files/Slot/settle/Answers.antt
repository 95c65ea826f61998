use Rattle.std.proofs.Common.{rules}
use Rattle.sector_model.proofs.files.Slot.settle.Goals as goal

pub returns-then-is_err-clause-fault : goal.returns-then-is_err-clause-fault
returns-then-is_err-clause-fault c = search rules
