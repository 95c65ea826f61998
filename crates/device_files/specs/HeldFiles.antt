-- The sectors that files in memory hold.
use Rattle.std.specs.Prelude.{◌≡◌, ◌/◌, ℕ, List, Option, Some, None, length, slice_index_or}
use Rattle.sector_model.specs.Files.{HoldsDisk}
use Rattle.sector_model.specs.History.{Bytes}
use Rattle.sector_model.specs.Memory.{AreSectors, Disk}

-- the sectors that fit whole into these bytes, one after the other
pub record AreSectorsOf (bytes : List ℕ) (disk : List Bytes) : Type 0 where
  pub count : length disk ≡ length bytes / 512
  pub holds : HoldsDisk (λ p. slice_index_or bytes p 0) disk
  pub whole : AreSectors disk

-- those of a file, none where there is none
abbrev pub IsDiskOf : {F : Type 0} → (told : F → List ℕ) → Option F → Option Disk → Type 0
IsDiskOf told None None = Unit {0}
IsDiskOf told (Some file) (Some disk) = AreSectorsOf (told file) disk.items
IsDiskOf told file disk = ⊥
