use Rattle.std.proofs.Common.{◌<◌, ℕ, IsSome}
use Rattle.device_files.specs.DeviceFiles.{IsMissingBy, barred_in}
use Rattle.device_files.proofs.passing.refuse_needed.Given as goal

abbrev pub invariant-loop-slot : goal.invariant-loop-slot
invariant-loop-slot l = (k : ℕ) → k < l.slot → IsSome (barred_in l.barred k) → IsMissingBy l.table k
