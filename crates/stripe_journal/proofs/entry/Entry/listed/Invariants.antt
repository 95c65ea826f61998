-- The rows so far are the entry's first ones, each with its mask.
use Rattle.std.proofs.Common.{◌≡◌, ◌≤◌, ◌<◌, ℕ, length, take}
use Rattle.layout_map.specs.declared.sizes.TheConstants.{ENTRY_ROWS}
use Rattle.stripe_journal.specs.Entries.{numbers_of, row_mask}
use Rattle.stripe_journal.specs.Forms.{mask_at}
use Rattle.stripe_journal.proofs.entry.Entry.listed.Given as goal

abbrev pub invariant-loop-i : goal.invariant-loop-i
invariant-loop-i l = record {
  most : l.i ≤ length (numbers_of l.self);
  rows : l.numbers.items ≡ take l.i (numbers_of l.self);
  long : length l.masks ≡ ENTRY_ROWS;
  bytes : (k : ℕ) → mask_at l.masks k < 256;
  masks : (k : ℕ) → k < l.i → mask_at l.masks k ≡ row_mask l.self k;
  rest : (k : ℕ) → l.i ≤ k → mask_at l.masks k ≡ 0;
}
