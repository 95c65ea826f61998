use Rattle.std.proofs.Common.{◌≡◌, ◌<◌, ℕ, IfSome, vec_len}
use Rattle.device_files.specs.DeviceFiles.{file_in}
use Rattle.device_files.proofs.lending.tests.files_of.Given as goal

abbrev pub invariant-loop-slot : goal.invariant-loop-slot
invariant-loop-slot l = record {
  count : vec_len l.files ≡ l.slot;
  safe : (k : ℕ) → k < l.slot → IfSome (file_in l.files.items k) (λ held. held.safe.items ≡ held.bytes.items);
}
