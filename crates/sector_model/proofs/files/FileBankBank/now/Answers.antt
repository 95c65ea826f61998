use Rattle.std.proofs.Common.{refl}
use Rattle.sector_model.proofs.files.FileBankBank.now.Goals as goal

pub returns : goal.returns
returns g c = refl
