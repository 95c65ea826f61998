use Rattle.std.proofs.Common.{refl}
use Rattle.sector_model.proofs.memory.MemBankBank.now.Goals as goal

pub returns : goal.returns
returns c = refl
