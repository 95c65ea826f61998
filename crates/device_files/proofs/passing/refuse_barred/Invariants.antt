use Rattle.std.proofs.Common.{◌≡◌, ◌<◌, ◌≤◌, ℕ, None}
use Rattle.device_files.specs.DeviceFiles.{barred_in}
use Rattle.device_files.proofs.passing.refuse_barred.Given as goal

abbrev pub invariant-loop-slot : goal.invariant-loop-slot
invariant-loop-slot g l = (k : ℕ) → l.first ≤ k → k < l.slot → barred_in l.files.barred k ≡ None
