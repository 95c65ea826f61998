-- The row stands at none of the places so far.
use Rattle.std.specs.Prelude.{◌≢◌, ◌<◌, ℕ}
use Rattle.stripe_journal.specs.Seals.{row_at}
use Rattle.stripe_journal.proofs.oracle.place_in.Given as goal

abbrev pub invariant-loop-place : goal.invariant-loop-place
invariant-loop-place l = (k : ℕ) → k < l.place → row_at l.rows k ≢ l.row
