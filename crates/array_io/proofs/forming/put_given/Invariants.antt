use Rattle.std.proofs.Common.{◌≡◌, ℕ, ◌<◌, ◌≤◌, length}
use Rattle.batch.specs.Places.{placed_at}
use Rattle.stripe_journal.specs.Entries.{form_of, numbers_of}
use Rattle.stripe_journal.specs.Seals.{row_at}
use Rattle.array_io.specs.Steps.FormingRows.{HasPut}
use Rattle.array_io.specs.Steps.Contents.{given_of}
use Rattle.array_io.proofs.forming.put_given.Given as goal

abbrev pub invariant-loop-placed : goal.invariant-loop-placed
invariant-loop-placed l = record {
  form : form_of l.entry ≡ form_of l.initial.entry;
  before : (k j : ℕ) → k < l.i → l.placed-index ≤ j → j < length l.places → row_at (numbers_of l.initial.entry) k < (placed_at l.places j).row;
  given : HasPut (given_of l.contents) l.places l.placed-index l.entry;
}
