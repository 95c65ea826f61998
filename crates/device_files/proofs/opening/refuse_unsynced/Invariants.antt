use Rattle.std.proofs.Common.{◌≡◌, ◌<◌, ◌≤◌, ℕ, false}
use Rattle.device_files.specs.DeviceFiles.{flag_in}
use Rattle.device_files.proofs.opening.refuse_unsynced.Given as goal

abbrev pub invariant-loop-slot : goal.invariant-loop-slot
invariant-loop-slot g l = (k : ℕ) → l.first ≤ k → k < l.slot → flag_in l.files.unsynced k ≡ false
