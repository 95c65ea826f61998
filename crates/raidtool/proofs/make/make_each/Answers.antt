use Rattle.std.proofs.Common.{◌≡◌, ◌≢◌, ◌*◌, IsSomeAnd, sym, subst, arith, rules}
use Rattle.std.proofs.lemmas.Result.{err_from_is_err_and}
use Rattle.superblock.specs.Counted.{least_sectors}
use Rattle.device_files.specs.DeviceFiles.{Begins, IsCreated, file_in, slot_path}
use Rattle.device_files.proofs.SlotBySlot.{made_after, untouched_next}
use Rattle.raidtool.proofs.MadeFiles.{kept_next, long_next, noted_next, notes_next, stopped_at}
use Rattle.raidtool.proofs.make.make_each.Goals as goal

pub loop-slot-preserved : goal.loop-slot-preserved
loop-slot-preserved g c =
    let inv = c.loop-slot.invariant in
    let done = c.in_ok-lengthen_slot.ensures in
    let first = c.args.files.now.files.items in
    let was = c.loop-slot.files.files.items in
    let is = c.lengthen_slot.new.files.files.items in
    record {
      long = λ tells. long_next (λ k. IsCreated (g.D.SlotFiles.creates c.args.disk.now (slot_path c.args.folder.now k))) g.D.File.Growing.told
          (λ k. 512 * least_sectors c.args.geometry.now k) first was is c.loop-slot.slot c.bytes_of-bytes.result
          (inv.long tells) inv.untouched c.bytes_of-bytes.ensures done.others (done.long tells);
      kept = λ tells. kept_next (λ k. IsCreated (g.D.SlotFiles.creates c.args.disk.now (slot_path c.args.folder.now k)))
          (λ old new. Begins (g.D.File.Growing.told old) (g.D.File.Growing.told new)) first was is c.loop-slot.slot
          (inv.kept tells) inv.untouched done.others (done.kept tells);
      noted = λ tells. noted_next g.D.File.Growing.told (λ k. g.D.SlotFiles.creates c.args.disk.now (slot_path c.args.folder.now k))
          (λ k. 512 * least_sectors c.args.geometry.now k) first was is c.args.files.now.before c.loop-slot.files.before c.lengthen_slot.new.files.before
          c.loop-slot.slot c.bytes_of-bytes.result (inv.noted tells) inv.untouched inv.unnoted c.bytes_of-bytes.ensures done.others done.other_notes
          (done.noted tells);
      unnoted = notes_next c.args.files.now.before c.loop-slot.files.before c.lengthen_slot.new.files.before c.loop-slot.slot inv.unnoted done.other_notes;
      safe = made_after (λ k file. IsSomeAnd file g.D.File.Growing.is_safe) was is c.loop-slot.slot inv.safe done.others done.safe;
      untouched = untouched_next first was is c.loop-slot.slot inv.untouched done.others;
    }

pub returns-in_err-lengthen_slot-clause-made : goal.returns-in_err-lengthen_slot-clause-made
returns-in_err-lengthen_slot-clause-made g c =
    let inv = c.loop-slot.invariant in
    let done = c.lengthen_slot.ensures in
    record {
      long = search rules;
      kept = λ tells. kept_next (λ k. IsCreated (g.D.SlotFiles.creates c.args.disk.now (slot_path c.args.folder.now k)))
          (λ old new. Begins (g.D.File.Growing.told old) (g.D.File.Growing.told new)) c.args.files.now.files.items c.loop-slot.files.files.items
          c.lengthen_slot.new.files.files.items c.loop-slot.slot (inv.kept tells) inv.untouched done.others (done.kept tells);
      noted = λ tells. noted_next g.D.File.Growing.told (λ k. g.D.SlotFiles.creates c.args.disk.now (slot_path c.args.folder.now k))
          (λ k. 512 * least_sectors c.args.geometry.now k) c.args.files.now.files.items c.loop-slot.files.files.items c.lengthen_slot.new.files.files.items
          c.args.files.now.before c.loop-slot.files.before c.lengthen_slot.new.files.before c.loop-slot.slot c.bytes_of-bytes.result
          (inv.noted tells) inv.untouched inv.unnoted c.bytes_of-bytes.ensures done.others done.other_notes (done.noted tells);
      safe = search rules;
      others = λ k from. untouched_next c.args.files.now.files.items c.loop-slot.files.files.items c.lengthen_slot.new.files.files.items c.loop-slot.slot
          inv.untouched done.others k (omega (arith, from, c.loop-slot-test.true));
      blamed =
          let from = err_from_is_err_and c.from_residual.result c.from_residual.ensures.1 in
          let is = c.lengthen_slot.new.files.files.items in
          rw (from.1, from.2) (stopped_at (λ k. IsSomeAnd (file_in is k) g.D.File.Growing.is_safe)
          (λ k. file_in is k ≡ file_in c.args.files.now.files.items k) c.loop-slot.slot _ c.in_err-lengthen_slot.ensures.fault
          (λ k less.
          let apart : k ≢ c.loop-slot.slot = omega (arith, less) in
          subst (λ file. IsSomeAnd file g.D.File.Growing.is_safe) (sym (done.others k apart)) (inv.safe k less))
          (λ k more. untouched_next c.args.files.now.files.items c.loop-slot.files.files.items is c.loop-slot.slot inv.untouched done.others k
          (omega (arith, more))));
      unmade = search rules;
    }
