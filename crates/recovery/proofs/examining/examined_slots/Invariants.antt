-- What each slot below has.
use Rattle.std.proofs.Common.{◌≡◌, ◌<◌, ℕ, length}
use Rattle.std.specs.Prelude.{slice_index_or}
use Rattle.recovery.specs.Examining.{IsExaminedSlot, unexamined}
use Rattle.recovery.specs.Making.{bank_view}
use Rattle.recovery.proofs.examining.examined_slots.Given as goal

abbrev pub invariant-loop-slot : goal.invariant-loop-slot
invariant-loop-slot g l = record {
  ten : length l.slots ≡ 10;
  below : (k : ℕ) → k < l.slot
      → IsExaminedSlot (g.B.Bank.honest l.bank) (bank_view (g.B.Bank.panel l.bank) (g.B.Bank.history l.bank)) l.survey.table k
      (slice_index_or l.slots k unexamined);
}
