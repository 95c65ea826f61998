use Rattle.std.proofs.Common.{◌≡◌, ◌<◌, ℕ, length, map, string_bytes, vec_len}
use Rattle.device_files.specs.DeviceFiles.{path_in, slot_path}
use Rattle.device_files.proofs.reserving.slot_paths.Given as goal

abbrev pub invariant-loop-slot : goal.invariant-loop-slot
invariant-loop-slot l = record {
  count : vec_len l.paths ≡ l.slot;
  long : length l.paths.items ≡ l.slot;
  each : (k : ℕ) → k < l.slot → path_in (map string_bytes l.paths.items) k ≡ slot_path l.folder k;
}
