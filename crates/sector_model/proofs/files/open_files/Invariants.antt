use Rattle.std.proofs.Common.{◌≡◌, vec_len}
use Rattle.sector_model.proofs.files.open_files.Given as goal

abbrev pub invariant-loop-number : goal.invariant-loop-number
invariant-loop-number g l = vec_len l.files ≡ l.number-counter
