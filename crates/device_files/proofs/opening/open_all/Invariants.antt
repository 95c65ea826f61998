use Rattle.std.proofs.Common.{◌≡◌, ◌<◌, ℕ, IfSome, length, vec_len}
use Rattle.device_files.specs.DeviceFiles.{IsOpenedAs, barred_in, file_in, slot_path}
use Rattle.device_files.proofs.opening.open_all.Given as goal

abbrev pub invariant-loop-slot : goal.invariant-loop-slot
invariant-loop-slot g l = record {
  count : vec_len l.files ≡ l.slot;
  room : length l.barred ≡ 10;
  opened : (k : ℕ) → k < l.slot → IsOpenedAs (g.D.SlotFiles.opens l.disk (slot_path l.folder k)) (file_in l.files.items k) (barred_in l.barred k);
  locked : (k : ℕ) → k < l.slot → IfSome (file_in l.files.items k) g.D.File.Growing.is_locked;
}
