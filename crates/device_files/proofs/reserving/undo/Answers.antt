use Rattle.std.proofs.Common.{◌≡◌, ◌∙◌, ◌<◌, ℕ, List, [], Ok, ap, arith, length, map, refl, string_bytes, subst, sym}
use Rattle.std.proofs.lemmas.List.{get_or-map}
use Rattle.device_files.specs.DeviceFiles.{IsTakenBack, IsTakenBackOrFailed, before_in, file_in, path_in}
use Rattle.device_files.proofs.SlotBySlot.{and_ok, same_next, undone_next, untouched_next}
use Rattle.device_files.proofs.reserving.undo.Goals as goal

pub loop-slot-preserved : goal.loop-slot-preserved
loop-slot-preserved g c =
    let inv = c.loop-slot.invariant in
    let this = c.undo_slot.ensures in
    let first = c.args.files.now in
    let was = c.loop-slot.files in
    let is = c.undo_slot.new.files in
    let slot = c.loop-slot.slot in
    let paths = c.args.paths.now.paths.items in
    let below : slot < length paths = omega (arith, c.loop-slot-test.true, c.args.paths.now.ten) in
    let path_is : c.as_str-path.result.now ≡ path_in (map string_bytes paths) slot =
    c.as_str-path.ensures.value ∙ ap string_bytes c.index.ensures ∙ sym (get_or-map string_bytes paths slot c.index.result.now [] below) in
    let Removes = g.D.SlotFiles.removes c.args.disk.now in
    let told = g.D.File.Growing.told in
    let tells = g.D.File.Growing.tells in
    let failed = g.D.File.Growing.has_failed in
    let notes = c.args.log.before in
    let note = before_in notes slot in
    record {
      undone = λ fair. rw c.and-done.ensures (and_ok c.loop-slot.done c.undo_slot.result _ _ _ (inv.undone fair) (this.undone fair)
          (λ before here. undone_next (λ k note old new. IsTakenBack told (Removes (path_in (map string_bytes paths) k) (Ok tt)) note old new)
          notes notes first was is slot refl before inv.untouched this.others
          (subst (λ (path : List ℕ). IsTakenBack told (Removes path (Ok tt)) note (file_in was slot) (file_in is slot)) path_is here)));
      each = undone_next (λ k note old new. IsTakenBackOrFailed tells told failed (Removes (path_in (map string_bytes paths) k)) note old new)
          notes notes first was is slot refl inv.each inv.untouched this.others
          (subst (λ (path : List ℕ). IsTakenBackOrFailed tells told failed (Removes path) note (file_in was slot) (file_in is slot)) path_is this.each);
      same = same_next notes notes first was is slot refl inv.same inv.untouched this.others this.same;
      long = this.long ∙ inv.long;
      untouched = untouched_next first was is slot inv.untouched this.others;
    }
