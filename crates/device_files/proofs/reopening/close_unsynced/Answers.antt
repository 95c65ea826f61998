use Rattle.std.proofs.Common.{◌≤◌, IfSome, arith, subst}
use Rattle.device_files.specs.DeviceFiles.{IsKeptOrClosed, file_in}
use Rattle.device_files.proofs.SlotBySlot.{made_after, untouched_next}
use Rattle.device_files.proofs.reopening.close_unsynced.Goals as goal

pub loop-slot-preserved : goal.loop-slot-preserved
loop-slot-preserved g c =
    let inv = c.loop-slot.invariant in
    let done = c.close_if_unsynced.ensures in
    let first = c.args.files.now in
    let was = c.loop-slot.files in
    let is = c.close_if_unsynced.new.files in
    let slot = c.loop-slot.slot in
    let on : slot ≤ slot = omega arith in
    record {
      ten = done.ten;
      safe = made_after (λ k file. IfSome file g.G.Growing.is_safe) was is slot inv.safe done.others done.safe;
      kept = made_after (λ k file. IsKeptOrClosed g.G.Growing.tells g.G.Growing.told (file_in first k) file) was is slot inv.kept done.others
          (subst (λ file. IsKeptOrClosed g.G.Growing.tells g.G.Growing.told file (file_in is slot)) (inv.untouched slot on) done.kept);
      untouched = untouched_next first was is slot inv.untouched done.others;
    }
