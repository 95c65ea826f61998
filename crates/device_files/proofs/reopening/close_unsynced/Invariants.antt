use Rattle.std.proofs.Common.{◌≡◌, ◌<◌, ◌≤◌, ℕ, IfSome, length}
use Rattle.device_files.specs.DeviceFiles.{IsKeptOrClosed, file_in}
use Rattle.device_files.proofs.reopening.close_unsynced.Given as goal

abbrev pub invariant-loop-slot : goal.invariant-loop-slot
invariant-loop-slot g l = record {
  ten : length l.files ≡ 10;
  safe : (k : ℕ) → k < l.slot → IfSome (file_in l.files k) g.G.Growing.is_safe;
  kept : (k : ℕ) → k < l.slot → IsKeptOrClosed g.G.Growing.tells g.G.Growing.told (file_in l.initial.files k) (file_in l.files k);
  untouched : (k : ℕ) → l.slot ≤ k → file_in l.files k ≡ file_in l.initial.files k;
}
