use Rattle.std.proofs.Common.{◌≡◌, ◌<◌, ℕ, false}
use Rattle.array_io.specs.Steps.PuttingRows.{is_put}
use Rattle.array_io.specs.Steps.PuttingSteps.{rows_held}
use Rattle.array_io.proofs.member_rows.has_rows_on.Given as goal

abbrev pub invariant-loop-i : goal.invariant-loop-i
invariant-loop-i l = (k : ℕ) → k < l.i → is_put l.table (rows_held l.entry) l.member k ≡ false
