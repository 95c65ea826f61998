use Rattle.std.proofs.Common.{◌∙◌, arith}
use Rattle.std.proofs.lemmas.List.{length-set}
use Rattle.recovery.specs.Examining.{IsExaminedSlot}
use Rattle.recovery.specs.Making.{bank_view}
use Rattle.recovery.proofs.ExaminedSlots.{one_more_examined}
use Rattle.recovery.proofs.examining.examined_slots.Goals as goal

pub loop-slot-preserved : goal.loop-slot-preserved
loop-slot-preserved g c = record {
  ten = length-set c.loop-slot.slots c.loop-slot.slot c.examined_slot.result ∙ c.loop-slot.invariant.ten;
  below = one_more_examined
      (IsExaminedSlot (g.B.Bank.honest c.args.bank.now) (bank_view (g.B.Bank.panel c.args.bank.now) (g.B.Bank.history c.args.bank.now)) c.args.survey.now.table)
      c.loop-slot.slots c.loop-slot.slot c.examined_slot.result c.loop-slot.invariant.ten
      (omega (arith, c.loop-slot-test.true, c.args.survey.now.table.geometry.limits.members_most)) c.loop-slot.invariant.below c.examined_slot.ensures;
}
