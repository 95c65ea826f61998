use Rattle.std.proofs.Common.{◌≡◌, ◌<◌, ◌≤◌, ℕ, IfSome}
use Rattle.device_files.specs.DeviceFiles.{IsMadeSafe, file_in, flag_in}
use Rattle.device_files.specs.Faults.{IsGivenUp}
use Rattle.device_files.proofs.opening.make_safe.Given as goal

abbrev pub invariant-loop-slot : goal.invariant-loop-slot
invariant-loop-slot g l = record {
  safe : (k : ℕ) → k < l.slot → IsMadeSafe g.G.Growing.tells g.G.Growing.told g.G.Growing.is_safe (IsGivenUp g.G.Growing.has_failed g.G.Growing.sync_failed)
      (file_in l.initial.files.files.items k) (file_in l.files.files.items k) (flag_in l.files.unsynced k);
  untouched : (k : ℕ) → l.slot ≤ k → file_in l.files.files.items k ≡ file_in l.initial.files.files.items k;
  locked : ((k : ℕ) → k < 10 → IfSome (file_in l.initial.files.files.items k) g.G.Growing.is_locked)
      → (k : ℕ) → k < 10 → IfSome (file_in l.files.files.items k) g.G.Growing.is_locked;
  noted : l.files.before ≡ l.initial.files.before;
  barred : l.files.barred ≡ l.initial.files.barred;
}
