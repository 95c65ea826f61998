use Rattle.std.proofs.Common.{◌≡◌, ◌*◌, ◌≤◌, not}
use Rattle.stripe_journal.specs.Entries.{row_mask}
use Rattle.stripe_journal.specs.Forms.{has_bit}
use Rattle.array_io.specs.Steps.FillingRows.{reads_below}
use Rattle.array_io.proofs.forming.prefers_read_modify_write.Given as goal

abbrev pub invariant-loop-member : goal.invariant-loop-member
invariant-loop-member l = record {
  held : l.held ≡ reads_below l.table l.row (has_bit (row_mask l.entry l.i)) l.member;
  others : l.others ≡ reads_below l.table l.row (λ member. not (has_bit (row_mask l.entry l.i) member)) l.member;
  held_most : l.held ≤ 8 * l.member;
  others_most : l.others ≤ 8 * l.member;
}
