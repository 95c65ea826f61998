use Rattle.std.proofs.Common.{◌≡◌, ◌<◌, ℕ, IfSome, Ok, vec_len}
use Rattle.device_files.specs.DeviceFiles.{file_in, slot_path}
use Rattle.device_files.proofs.inspecting.inspect_folder.Given as goal

abbrev pub invariant-loop-slot : goal.invariant-loop-slot
invariant-loop-slot g l = record {
  count : vec_len l.files ≡ l.slot;
  inspected : (k : ℕ) → k < l.slot → g.D.InspectFiles.inspects l.disk (slot_path l.folder k) (Ok (file_in l.files.items k));
  safe : (k : ℕ) → k < l.slot → IfSome (file_in l.files.items k) g.D.InspectedFile.Growing.is_safe;
}
