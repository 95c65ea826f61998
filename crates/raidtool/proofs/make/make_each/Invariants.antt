use Rattle.std.proofs.Common.{◌≡◌, ◌<◌, ◌≤◌, ◌*◌, ℕ, IsSomeAnd, IsTrue}
use Rattle.superblock.specs.Counted.{least_sectors}
use Rattle.device_files.specs.DeviceFiles.{Begins, HasMade, IsCreated, StaysOrMade, before_in, file_in, lengthened, slot_path}
use Rattle.raidtool.specs.FolderFiles.{IsNotedIn}
use Rattle.raidtool.proofs.make.make_each.Given as goal

abbrev pub invariant-loop-slot : goal.invariant-loop-slot
invariant-loop-slot g l = record {
  long : IsTrue g.D.File.Growing.tells → (k : ℕ) → k < l.slot → HasMade (IsCreated (g.D.SlotFiles.creates l.disk (slot_path l.folder k)))
      (file_in l.initial.files.files.items k) (file_in l.files.files.items k)
      (λ old new. g.D.File.Growing.told new ≡ lengthened (512 * least_sectors l.geometry k) (g.D.File.Growing.told old));
  kept : IsTrue g.D.File.Growing.tells → (k : ℕ) → StaysOrMade (IsCreated (g.D.SlotFiles.creates l.disk (slot_path l.folder k)))
      (file_in l.initial.files.files.items k) (file_in l.files.files.items k) (λ old new. Begins (g.D.File.Growing.told old) (g.D.File.Growing.told new));
  noted : IsTrue g.D.File.Growing.tells → (k : ℕ) → IsNotedIn g.D.File.Growing.told (g.D.SlotFiles.creates l.disk (slot_path l.folder k))
      (512 * least_sectors l.geometry k)
      (before_in l.initial.files.before k) (file_in l.initial.files.files.items k) (file_in l.files.files.items k) (before_in l.files.before k);
  unnoted : (k : ℕ) → l.slot ≤ k → before_in l.files.before k ≡ before_in l.initial.files.before k;
  safe : (k : ℕ) → k < l.slot → IsSomeAnd (file_in l.files.files.items k) g.D.File.Growing.is_safe;
  untouched : (k : ℕ) → l.slot ≤ k → file_in l.files.files.items k ≡ file_in l.initial.files.files.items k;
}
