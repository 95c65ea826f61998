-- The masks of the rows so far fit.
use Rattle.std.specs.Prelude.{◌<◌, ℕ}
use Rattle.entry_runs.specs.Body.{has_bit}
use Rattle.stripe_journal.specs.Forms.{HoldsRow, mask_at}
use Rattle.stripe_journal.specs.Seals.{row_at}
use Rattle.stripe_journal.proofs.counting.are_masks_of.Given as goal

abbrev pub invariant-loop-i : goal.invariant-loop-i
invariant-loop-i l = (k : ℕ) → k < l.i → HoldsRow l.geometry (row_at l.rows k) (has_bit (mask_at l.masks k))
