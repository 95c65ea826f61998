-- The rows so far are the first ones, and the next comes after them.
use Rattle.std.proofs.Common.{◌≡◌, ◌≤◌, ◌<◌, ℕ, length, take}
use Rattle.stripe_journal.specs.Entries.{end_of, numbers_of, row_mask}
use Rattle.stripe_journal.specs.Forms.{mask_at}
use Rattle.stripe_journal.specs.Seals.{row_at}
use Rattle.stripe_journal.proofs.entry.Entry.set_listed.Given as goal

abbrev pub invariant-loop-i : goal.invariant-loop-i
invariant-loop-i l = record {
  numbers : numbers_of l.self ≡ take l.i l.rows;
  count : length (numbers_of l.self) ≡ l.i;
  after : l.i < length l.rows → end_of l.self ≤ row_at l.rows l.i;
  masks : (k : ℕ) → k < l.i → row_mask l.self k ≡ mask_at l.masks k;
}
