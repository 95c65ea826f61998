use Rattle.std.proofs.Common.{ℕ, ◌*◌, ap}
use Rattle.sector_model.proofs.files.offset_of.Goals as goal

pub returns : goal.returns
returns c = ap (λ (n : ℕ). 512 * n) c.from.ensures
