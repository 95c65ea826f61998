use Rattle.std.proofs.Common.{◌≡◌, ◌↔◌, ◌≤◌, ◌<◌, ℕ, true}
use Rattle.entry_runs.specs.Body.{has_bit}
use Rattle.batch.specs.Places.{placed_at}
use Rattle.batch.specs.Rows.{IsChangedBy}
use Rattle.batch.proofs.planning.next_row.Given as goal

abbrev pub invariant-loop-i : goal.invariant-loop-i
invariant-loop-i l = record {
  here : (j : ℕ) → l.first ≤ j → j < l.i → (placed_at l.places j).row ≡ l.row;
  bits : (member : ℕ) → (has_bit l.mask member ≡ true) ↔ IsChangedBy l.geometry l.places l.i l.row member;
}
