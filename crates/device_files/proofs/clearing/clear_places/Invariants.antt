use Rattle.std.proofs.Common.{◌≡◌, ◌<◌, ◌≤◌, ℕ, IfSome, IsTrue, length}
use Rattle.device_files.specs.DeviceFiles.{IsStillOpen, file_in}
use Rattle.device_files.specs.Superblocks.{without_places}
use Rattle.device_files.proofs.clearing.clear_places.Given as goal

abbrev pub invariant-loop-slot : goal.invariant-loop-slot
invariant-loop-slot g l = record {
  cleared : IsTrue g.F.Growing.tells → (k : ℕ) → k < l.slot → l.first ≤ k
      → IsStillOpen (file_in l.initial.files k) (file_in l.files k) (λ old new. g.F.Growing.told new ≡ without_places (g.F.Growing.told old));
  safe : (k : ℕ) → k < l.slot → l.first ≤ k → IfSome (file_in l.files k) g.F.Growing.is_safe;
  kept : (k : ℕ) → k < l.slot → k < l.first → file_in l.files k ≡ file_in l.initial.files k;
  untouched : (k : ℕ) → l.slot ≤ k → file_in l.files k ≡ file_in l.initial.files k;
  open_still : (k : ℕ) → IsStillOpen (file_in l.initial.files k) (file_in l.files k)
      (λ old new. IsTrue g.F.Growing.tells → length (g.F.Growing.told new) ≡ length (g.F.Growing.told old));
  long : length l.files ≡ length l.initial.files;
  first : l.first ≤ l.slot;
}
