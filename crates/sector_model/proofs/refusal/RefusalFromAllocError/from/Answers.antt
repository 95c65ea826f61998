use Rattle.std.proofs.Common.{refl}
use Rattle.sector_model.proofs.refusal.RefusalFromAllocError.from.Goals as goal

pub returns : goal.returns
returns c = refl
