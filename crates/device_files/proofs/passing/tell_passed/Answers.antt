use Rattle.std.proofs.Common.{◌≡◌, refl, rules, subst, ℕ, List, None, Some, codes}
use Rattle.report.specs.Replies.{slot_line}
use Rattle.device_files.specs.DeviceFiles.{barred_in}
use Rattle.device_files.specs.Faults.{IsToldLine}
use Rattle.device_files.proofs.MadeSafe.{passes_next}
use Rattle.device_files.proofs.ToldLines.{told_line}
use Rattle.device_files.proofs.passing.tell_passed.Goals.{in-Some, in_default}
use Rattle.device_files.proofs.passing.tell_passed.Goals as goal

pub loop-slot-init : goal.loop-slot-init
loop-slot-init g c = refl

pub loop-slot-preserved : goal.loop-slot-preserved
loop-slot-preserved g c = elim c.match-barred-slot.branch [
  | in-Some w ↦
      let wrote = w.write_slot_line in
      let told = told_line wrote.result (slot_line (codes "without ") c.loop-slot.slot w.words_of.result.now) _ _ wrote.ensures.ok wrote.ensures.part in
      let reason_is : barred_in c.args.barred.now c.loop-slot.slot ≡ Some w.in-Some.reason = search rules in
      rw w.err-is (passes_next g.E.Write.contents c.args.barred.now c.loop-slot.slot c.args.err.now c.loop-slot.err wrote.new.writer c.loop-slot.invariant
      (rw reason_is (subst (λ (beyond : List ℕ). IsToldLine (slot_line (codes "without ") c.loop-slot.slot beyond) (g.E.Write.contents c.loop-slot.err)
      (g.E.Write.contents wrote.new.writer)) w.words_of.ensures.words told)))
  | in_default w ↦
      let none_is : barred_in c.args.barred.now c.loop-slot.slot ≡ None = search rules in
      rw w.err-is (passes_next g.E.Write.contents c.args.barred.now c.loop-slot.slot c.args.err.now c.loop-slot.err c.loop-slot.err c.loop-slot.invariant
      (rw none_is refl))
]
