use Rattle.std.proofs.Common.{◌≡◌, ◌<◌, ℕ, None, arith, below_more, length, rules, slice_set}
use Rattle.std.proofs.lemmas.Grind.{common_steps}
use Rattle.std.proofs.lemmas.List.{get_or-set_same}
use Rattle.device_files.specs.DeviceFiles.{IsOpenedAs, barred_in, file_in, slot_path}
use Rattle.device_files.proofs.opening.open_all.Goals as goal

pub loop-slot-preserved : goal.loop-slot-preserved
loop-slot-preserved g c =
    let slot = c.loop-slot.slot in
    let files = c.push.new.self.items in
    let barred = slice_set c.loop-slot.barred slot c.in_ok-file.reason in
    record {
      count = grind (arith, common_steps);
      room = grind (arith, common_steps);
      opened = below_more (λ (k : ℕ). IsOpenedAs (g.D.SlotFiles.opens c.args.disk.now (slot_path c.args.folder.now k)) (file_in files k) (barred_in barred k))
          slot
          (λ k under.
          let same_file : file_in files k ≡ file_in c.loop-slot.files.items k = search rules in
          let same_reason : barred_in barred k ≡ barred_in c.loop-slot.barred k = search rules in
          rw (same_file, same_reason) (c.loop-slot.invariant.opened k under))
          (let file_is : file_in files slot ≡ c.in_ok-file.file = grind (arith, common_steps) in
          let within : slot < length c.loop-slot.barred = omega (arith, c.loop-slot-test.true, c.loop-slot.invariant.room) in
          let reason_is : barred_in barred slot ≡ c.in_ok-file.reason = get_or-set_same c.loop-slot.barred slot c.in_ok-file.reason None within in
          rw (file_is, reason_is) c.in_ok-file.ensures.opened);
      locked = grind (arith, common_steps);
    }
