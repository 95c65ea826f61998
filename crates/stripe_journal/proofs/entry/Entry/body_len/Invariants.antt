-- The sectors of the rows so far are counted.
use Rattle.std.proofs.Common.{◌≡◌, ◌≤◌, length}
use Rattle.stripe_journal.specs.Entries.{form_of, numbers_of}
use Rattle.stripe_journal.specs.Forms.{held_before}
use Rattle.stripe_journal.proofs.entry.Entry.body_len.Given as goal

abbrev pub invariant-loop-i : goal.invariant-loop-i
invariant-loop-i l = record {
  most : l.i ≤ length (numbers_of l.self);
  count : l.count ≡ held_before l.members (form_of l.self) l.i;
}
