-- The mask fits the rows so far.
use Rattle.std.specs.Prelude.{◌≤◌, ◌<◌, ℕ}
use Rattle.entry_runs.specs.Body.{has_bit}
use Rattle.stripe_journal.specs.Forms.{HoldsRow}
use Rattle.stripe_journal.proofs.counting.is_run_of.Given as goal

abbrev pub invariant-loop-row : goal.invariant-loop-row
invariant-loop-row l = (row : ℕ) → l.run.first ≤ row → row < l.row → HoldsRow l.geometry row (has_bit l.run.mask)
