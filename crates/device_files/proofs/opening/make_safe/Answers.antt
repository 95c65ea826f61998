use Rattle.std.proofs.Common.{◌<◌, ◌≤◌, ◌∙◌, IfSome, arith, subst}
use Rattle.std.proofs.lemmas.Result.{err_from_is_err_and}
use Rattle.device_files.specs.DeviceFiles.{IsMadeSafe, file_in, flag_in}
use Rattle.device_files.specs.Faults.{IsGivenUp}
use Rattle.device_files.proofs.MadeSafe.{safe_next, unsafe_at}
use Rattle.device_files.proofs.SlotBySlot.{kept_at, untouched_next}
use Rattle.device_files.proofs.opening.make_safe.Goals as goal

pub loop-slot-preserved : goal.loop-slot-preserved
loop-slot-preserved g c =
    let inv = c.loop-slot.invariant in
    let done = c.in_ok-make_slot_safe.ensures in
    let first = c.args.files.now.files.items in
    let was = c.loop-slot.files.files.items in
    let is = c.make_slot_safe.new.files.files.items in
    let slot = c.loop-slot.slot in
    let on : slot ≤ slot = omega arith in
    record {
      safe = safe_next (λ k file flag. IsMadeSafe g.G.Growing.tells g.G.Growing.told g.G.Growing.is_safe
          (IsGivenUp g.G.Growing.has_failed g.G.Growing.sync_failed) (file_in first k) file flag)
          was is c.loop-slot.files.unsynced c.make_slot_safe.new.files.unsynced slot inv.safe done.others done.other_flags
          (subst (λ file. IsMadeSafe g.G.Growing.tells g.G.Growing.told g.G.Growing.is_safe (IsGivenUp g.G.Growing.has_failed g.G.Growing.sync_failed) file
          (file_in is slot)
          (flag_in c.make_slot_safe.new.files.unsynced slot)) (inv.untouched slot on) done.safe);
      untouched = untouched_next first was is slot inv.untouched done.others;
      locked = λ all. kept_at (λ k file. k < 10 → IfSome file g.G.Growing.is_locked) was is slot (inv.locked all) done.others
          (λ under. done.locked (inv.locked all slot under));
      noted = done.noted ∙ inv.noted;
      barred = done.barred ∙ inv.barred;
    }

pub returns-in_err-make_slot_safe-clause-fault : goal.returns-in_err-make_slot_safe-clause-fault
returns-in_err-make_slot_safe-clause-fault g c =
    let from = err_from_is_err_and c.from_residual.result c.from_residual.ensures.1 in
    let on : c.loop-slot.slot ≤ c.loop-slot.slot = omega arith in
    rw (from.1, from.2) (unsafe_at _ c.args.files.now.files.items c.loop-slot.slot (file_in c.loop-slot.files.files.items c.loop-slot.slot) _
    (omega (arith, c.loop-slot-test.true)) (c.loop-slot.invariant.untouched c.loop-slot.slot on) c.in_err-make_slot_safe.ensures.fault)
