use Rattle.std.proofs.Common.{◌≡◌, ◌<◌, ℕ, None, get_or, vec_len}
use Rattle.device_files.specs.DeviceFiles.{file_in}
use Rattle.device_files.specs.HeldFiles.{IsDiskOf}
use Rattle.device_files.proofs.memory.disks_of.Given as goal

abbrev pub invariant-loop-file : goal.invariant-loop-file
invariant-loop-file l = record {
  count : vec_len l.slots ≡ l.file-index;
  each : (k : ℕ) → k < l.file-index → IsDiskOf (λ file. file.bytes.items) (file_in l.files k) (get_or l.slots.items k None);
}
