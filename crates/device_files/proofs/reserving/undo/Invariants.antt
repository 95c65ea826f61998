use Rattle.std.proofs.Common.{◌≡◌, ◌<◌, ◌≤◌, ℕ, IsTrue, Ok, OnOk, length, map, string_bytes}
use Rattle.device_files.specs.declared.locked.Before.TheVariants.{Same}
use Rattle.device_files.specs.DeviceFiles.{IsTakenBack, IsTakenBackOrFailed, before_in, file_in, path_in}
use Rattle.device_files.proofs.reserving.undo.Given as goal

abbrev pub invariant-loop-slot : goal.invariant-loop-slot
invariant-loop-slot g l = record {
  undone : IsTrue g.D.File.Growing.tells → OnOk l.done ((k : ℕ) → k < l.slot
      → IsTakenBack g.D.File.Growing.told (g.D.SlotFiles.removes l.disk (path_in (map string_bytes l.paths.paths.items) k) (Ok tt))
      (before_in l.log.before k) (file_in l.initial.files k) (file_in l.files k));
  each : (k : ℕ) → k < l.slot → IsTakenBackOrFailed g.D.File.Growing.tells g.D.File.Growing.told g.D.File.Growing.has_failed
      (g.D.SlotFiles.removes l.disk (path_in (map string_bytes l.paths.paths.items) k))
      (before_in l.log.before k) (file_in l.initial.files k) (file_in l.files k);
  same : (k : ℕ) → before_in l.log.before k ≡ Same → file_in l.files k ≡ file_in l.initial.files k;
  long : length l.files ≡ length l.initial.files;
  untouched : (k : ℕ) → l.slot ≤ k → file_in l.files k ≡ file_in l.initial.files k;
}
