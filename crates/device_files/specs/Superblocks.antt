-- Which superblocks stand in device files, and files that are cleared of them.
use Rattle.std.specs.Prelude.{◌≡◌, ◌⊎◌, ℕ, ◌+◌, ◌*◌, ◌<◌, ◌≤◌, min, Bool, IsTrue, List, ◌++◌, drop, length, replicate, take, Option, Some, None}
use Rattle.superblock.specs.declared.table.Superblock.{Superblock}
use Rattle.superblock.specs.Spelling.{superblock_sector}
use Rattle.device_files.specs.DeviceFiles.{file_in}

-- these bytes reach to the end of the sector of this number, and have that one there
pub record HasSector (bytes : List ℕ) (number : ℕ) (sector : List ℕ) : Type 0 where
  pub within : 512 * number + 512 ≤ length bytes
  pub stands : take 512 (drop (512 * number) bytes) ≡ sector

-- they have a superblock of the set of this id there, whatever its format, its role and the place that it belongs to
pub record HasSuperblock (bytes : List ℕ) (number : ℕ) (id : List ℕ) : Type 0 where
  pub superblock : Superblock
  pub spelled : HasSector bytes number (superblock_sector superblock)
  pub of_set : superblock.table.id ≡ id

-- What a sector of a file was found to have, where files tell: a superblock of the set of this id, or none, or a call of the file failed.
abbrev pub IsSetAt : {F : Type 0} → (tells : Bool) (told : F → List ℕ) (HasFailed : F → Type 0) → F → (number : ℕ) → Option (List ℕ) → Type 0
IsSetAt tells told HasFailed file number (Some id) = IsTrue tells → HasSuperblock (told file) number id
IsSetAt tells told HasFailed file number None = HasFailed file ⊎ (IsTrue tells → (id : List ℕ) → ¬ HasSuperblock (told file) number id)

-- what the first two sectors of a file were found to have: the superblock in sector 1 only where none was found in sector 0
abbrev pub IsSetIn : {F : Type 0} → (tells : Bool) (told : F → List ℕ) (HasFailed : F → Type 0) → F → Option (List ℕ) → Type 0
IsSetIn tells told HasFailed file (Some id) =
    IsSetAt tells told HasFailed file 0 (Some id) ⊎ (IsSetAt tells told HasFailed file 0 None × IsSetAt tells told HasFailed file 1 (Some id))
IsSetIn tells told HasFailed file None = IsSetAt tells told HasFailed file 0 None × IsSetAt tells told HasFailed file 1 None

-- those of the file of a slot, where there is one
abbrev pub IsSetInSlot : {F : Type 0} → (tells : Bool) (told : F → List ℕ) (HasFailed : F → Type 0) → Option F → Option (List ℕ) → Type 0
IsSetInSlot tells told HasFailed None found = found ≡ None
IsSetInSlot tells told HasFailed (Some file) found = IsSetIn tells told HasFailed file found

-- A search of the files of slots for a superblock of any set: what the lowest slot has in which one is found, or none in any.
abbrev pub FindsSet : {F : Type 0} → (tells : Bool) (told : F → List ℕ) (HasFailed : F → Type 0) → List (Option F) → Option (List ℕ) → Type 0
FindsSet tells told HasFailed files (Some id) = (slot : ℕ) × IsSetInSlot tells told HasFailed (file_in files slot) (Some id)
    × ((lower : ℕ) → lower < slot → IsSetInSlot tells told HasFailed (file_in files lower) None)
FindsSet tells told HasFailed files None = (slot : ℕ) → IsSetInSlot tells told HasFailed (file_in files slot) None

-- these bytes with zeros in the two superblock places, the first 1,024 of them
abbrev pub without_places : List ℕ → List ℕ
without_places bytes = replicate (min 1024 (length bytes)) 0 ++ drop 1024 bytes
