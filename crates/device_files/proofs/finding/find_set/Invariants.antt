use Rattle.std.proofs.Common.{◌<◌, ℕ, None}
use Rattle.device_files.specs.DeviceFiles.{file_in}
use Rattle.device_files.specs.Superblocks.{IsSetInSlot}
use Rattle.device_files.proofs.finding.find_set.Given as goal

abbrev pub invariant-loop-file : goal.invariant-loop-file
invariant-loop-file g l = (k : ℕ) → k < l.file-index → IsSetInSlot g.F.Growing.tells g.F.Growing.told g.F.Growing.has_failed (file_in l.files k) None
