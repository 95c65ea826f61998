-- Cells of equal width, a sector full after the other.
use Rattle.std.specs.Prelude.{◌≡◌, ℕ, ◌<◌, ◌≤◌, ◌+◌, ◌*◌, ◌/◌, ◌%◌, ◌||◌, not, nat_le, Bool, true, false, List, [], Option, Some, None, length, take, drop}
use Rattle.std.specs.Prelude.{slice_index_or}
use Rattle.byteorder.specs.Endian.{little_number}
use Rattle.extents.specs.declared.owned.Owned.{Owned}
use Rattle.extents.specs.declared.record.Record.{Record}
use Rattle.extents.specs.TableSpelling.{Entry, entry_bytes, no_entry, record_bytes}
use Rattle.layout_map.specs.declared.sizes.TheConstants.{MOST_EXTENTS}
use Rattle.extents.specs.Versions.{most_volumes, record_width, records_a_sector, record_sectors, tells_dirty}
use Rattle.extents.specs.declared.owner_codec.TheConstants.{DIRTY_MARK}
use Rattle.extents.specs.VolumeTables.{IsShort, record_of}
use Rattle.extents.specs.declared.volume_table.TheConstants.{MOST_VOLUMES}

-- the bytes of a cell, of so many bytes each and so many a sector, from this sector on
abbrev pub cell : (width per first : ℕ) → List (List ℕ) → ℕ → List ℕ
cell width per first sectors number = take width (drop (width * (number % per)) (slice_index_or sectors (first + number / per) []))

-- the cells of the records of this version spell these
abbrev pub SpellRecords : (version : ℕ) → List (List ℕ) → List (Option Record) → Type 0
SpellRecords version sectors records = (number : ℕ) → number < most_volumes version
    → cell (record_width version) (records_a_sector version) 1 sectors number ≡ record_bytes version (slice_index_or records number None)

-- the record of this number: its cell spells it, or there is none, after those of the version
pub record IsRecordAt (version : ℕ) (sectors : List (List ℕ)) (number : ℕ) (one : Option Record) : Type 0 where
  pub spelled : number < most_volumes version → cell (record_width version) (records_a_sector version) 1 sectors number ≡ record_bytes version one
  pub few : most_volumes version ≤ number → one ≡ None
  pub short : IsShort version one

-- so it is of each of the 64
abbrev pub AreRecordsAt : (version : ℕ) → List (List ℕ) → List (Option Record) → Type 0
AreRecordsAt version sectors records = (number : ℕ) → number < MOST_VOLUMES → IsRecordAt version sectors number (record_of records number)

-- the cell of an extent
abbrev pub extent_cell : (version : ℕ) → List (List ℕ) → ℕ → List ℕ
extent_cell version sectors number = cell 4 128 (1 + record_sectors version) sectors number

-- the cells of the 1,024 extents spell these
abbrev pub SpellExtents : (version : ℕ) → List (List ℕ) → List Entry → Type 0
SpellExtents version sectors entries = (number : ℕ) → number < MOST_EXTENTS
    → extent_cell version sectors number ≡ entry_bytes (slice_index_or entries number no_entry)

-- the bytes of an extent are marked
abbrev pub is_marked : List ℕ → Bool
is_marked bytes = nat_le DIRTY_MARK (little_number 2 (take 2 (drop 2 bytes)))

-- an extent has this owner and this mark by its bytes, in a version that has marks or not
pub record IsSaid (marks : Bool) (bytes : List ℕ) (owner : Option Owned) : Type 0 where
  pub spelled : bytes ≡ entry_bytes (owner, is_marked bytes)
  pub told : marks ≡ false → is_marked bytes ≡ false

-- so the cells of the 1,024 extents say of their owners
abbrev pub SayOwners : (version : ℕ) → List (List ℕ) → List (Option Owned) → Type 0
SayOwners version sectors owners = (number : ℕ) → number < MOST_EXTENTS
    → IsSaid (tells_dirty version) (extent_cell version sectors number) (slice_index_or owners number None)

-- and of which are dirty
pub record SayDirty (version : ℕ) (sectors : List (List ℕ)) (dirty : List Bool) : Type 0 where
  pub long : length dirty ≡ MOST_EXTENTS
  pub each : (number : ℕ) → number < MOST_EXTENTS → slice_index_or dirty number true ≡
      (not (tells_dirty version) || is_marked (extent_cell version sectors number))

-- the numbers of an owner fit their bytes
pub record HasRoom (owner : Owned) : Type 0 where
  pub volume : owner.volume < 256
  pub place : owner.place < DIRTY_MARK

abbrev pub OwnerHasRoom : Option Owned → Type 0
OwnerHasRoom one = (owner : Owned) → one ≡ Some owner → HasRoom owner

abbrev pub OwnersHaveRoom : List (Option Owned) → Type 0
OwnersHaveRoom extents = (number : ℕ) → OwnerHasRoom (slice_index_or extents number None)
