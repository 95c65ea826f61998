use Rattle.std.proofs.Common.{◌-◌, ◌≤◌, ◌<◌, length, ℕ}
use Rattle.batch.specs.Among.{spot}
use Rattle.batch.specs.Places.{IsBefore, placed_at}
use Rattle.batch.proofs.places.number_of.Given as goal

abbrev pub invariant-loop-first : goal.invariant-loop-first
invariant-loop-first l = record {
  order : l.first ≤ l.end;
  within : l.end ≤ length l.places;
  below : (i : ℕ) → i < l.first → IsBefore (placed_at l.places i) (spot l.row l.member);
  others : (i : ℕ) → l.end ≤ i → i < length l.places → ¬ IsBefore (placed_at l.places i) (spot l.row l.member);
}

abbrev pub decreases-loop-first : goal.decreases-loop-first
decreases-loop-first l = l.end - l.first
