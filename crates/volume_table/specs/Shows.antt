-- Which volumes a logical list shows: its first sectors are a table of them, and their blocks stand in the extents that the table gives them.
use Rattle.std.specs.Prelude.{◌≡◌, ◌≢◌, ℕ, ◌+◌, ◌<◌, ◌≤◌, Bool, false, List, [], ◌∷◌, length, slice_index_or, Option, Some, None}
use Rattle.extents.specs.declared.extent_layout.ExtentLayout.{ExtentLayout}
use Rattle.extents.specs.declared.owned.Owned.{Owned}
use Rattle.extents.specs.declared.record.Record.{Record}
use Rattle.extents.specs.declared.volume_table.VolumeTable.{VolumeTable}
use Rattle.extents.specs.ExtentMaps.{is_dirty, place_of, sector_of_block}
use Rattle.extents.specs.Owners.{IsAt, owner_of}
use Rattle.extents.specs.SetExtents.{IsOfSet}
use Rattle.extents.specs.VolumeTables.{HasRecord, extents_of, record_of}
use Rattle.extents.specs.TableSpelling.{Spell}
use Rattle.volume_table.specs.Volumes.{Block, zero_block, Volume, VolumeList, VolumeMap, blocks_of, AreVolumes}

-- a volume's blocks stand in its extents, in order
abbrev pub AreBlocksIn : (extents : ExtentLayout) → List Block → List (Option Owned) → ℕ → List Block → Type 0
AreBlocksIn extents sectors owners number blocks = (j extent : ℕ) → j < length blocks → IsAt owners extent number (place_of extents j)
    → slice_index_or sectors (sector_of_block extents extent j) [] ≡ slice_index_or blocks j []

-- a used record is of a volume that has its name and its length, and whose blocks stand in its extents
pub record IsOfVolume (extents : ExtentLayout) (owners : List (Option Owned)) (sectors : List Block) (volumes : VolumeList) (number : ℕ)
    (entry : Record) : Type 0 where
  pub blocks : List Block
  pub named : blocks_of entry.name.bytes.items volumes ≡ Some blocks
  pub as_long : length blocks ≡ entry.blocks
  pub stand : AreBlocksIn extents sectors owners number blocks

-- the used records are those of the volumes
pub record AreShown (extents : ExtentLayout) (records : List (Option Record)) (owners : List (Option Owned)) (sectors : List Block)
    (volumes : VolumeList) : Type 0 where
  pub used : (number : ℕ) (entry : Record) → record_of records number ≡ Some entry → IsOfVolume extents owners sectors volumes number entry
  pub all : (name : List ℕ) (blocks : List Block) → blocks_of name volumes ≡ Some blocks → HasRecord records name

-- A clean extent has zeros where no volume has a block: all of a free one, and what is after a volume's end in one that it has.
pub record AreClean (extents : ExtentLayout) (dirty : List Bool) (records : List (Option Record)) (owners : List (Option Owned)) (sectors : List Block) : Type 0
  where
    pub free : (extent block : ℕ) → extent < extents.count → is_dirty dirty extent ≡ false → owner_of owners extent ≡ None
        → slice_index_or sectors (sector_of_block extents extent block) [] ≡ zero_block
    pub after_end : (extent number block : ℕ) (entry : Record) → is_dirty dirty extent ≡ false → IsAt owners extent number (place_of extents block)
        → record_of records number ≡ Some entry → entry.blocks ≤ block → slice_index_or sectors (sector_of_block extents extent block) [] ≡ zero_block

-- a logical list of a set with these extents shows these volumes, by a table of the set and of their version
pub record Shows (extents : ExtentLayout) (sectors : List Block) (volumes : VolumeMap) : Type 0 where
  pub limits : AreVolumes extents volumes
  pub table : VolumeTable
  pub of_version : table.version ≡ volumes.version
  pub spelled : Spell sectors table
  pub of_set : IsOfSet extents table
  pub shown : AreShown extents table.records table.extents sectors volumes.volumes
  pub clean : AreClean extents table.dirty table.records table.extents sectors

-- `left` is the list with these blocks in place of those of record `number`'s volume from `at` on
pub record HasWritten (extents : ExtentLayout) (owners : List (Option Owned)) (number at : ℕ) (written : List Block) (before left : List Block) : Type 0 where
  pub inside : (j extent : ℕ) → j < length written → IsAt owners extent number (place_of extents (at + j))
      → slice_index_or left (sector_of_block extents extent (at + j)) [] ≡ slice_index_or written j []
  pub outside : (sector : ℕ) → ((j extent : ℕ) → j < length written → IsAt owners extent number (place_of extents (at + j))
      → sector ≢ sector_of_block extents extent (at + j))
      → slice_index_or left sector [] ≡ slice_index_or before sector []

-- both lists have the same blocks of a record's volume
abbrev pub HaveSameBlocks : (extents : ExtentLayout) → List (Option Owned) → ℕ → Record → List Block → List Block → Type 0
HaveSameBlocks extents owners number entry before left = (j extent : ℕ) → j < entry.blocks → IsAt owners extent number (place_of extents j)
    → slice_index_or left (sector_of_block extents extent j) [] ≡ slice_index_or before (sector_of_block extents extent j) []

-- all records but one stay as they were, with the extents and the blocks of their volumes
pub record ChangesOneRecord (extents : ExtentLayout) (records new_records : List (Option Record)) (owners new_owners : List (Option Owned))
    (before left : List Block)
    (number : ℕ) : Type 0 where
  pub same_records : (other : ℕ) → other ≢ number → record_of new_records other ≡ record_of records other
  pub same_extents : (other extent place : ℕ) → other ≢ number → IsAt new_owners extent other place → IsAt owners extent other place
  pub same_blocks : (other : ℕ) (entry : Record) → other ≢ number → record_of records other ≡ Some entry → HaveSameBlocks extents owners other entry before left

-- a record is of this volume, whose blocks stand in its extents
pub record IsRecordOf (extents : ExtentLayout) (records : List (Option Record)) (owners : List (Option Owned)) (sectors : List Block) (number : ℕ)
    (volume : Volume) : Type 0
  where
    pub entry : Record
    pub used : record_of records number ≡ Some entry
    pub named : entry.name.bytes.items ≡ volume.name
    pub as_long : length volume.blocks ≡ entry.blocks
    pub stand : AreBlocksIn extents sectors owners number volume.blocks

-- the used record of this number has another name and as many blocks as before, and all other records are as they were
pub record ChangesName (records new_records : List (Option Record)) (number : ℕ) (before : Record) (name : List ℕ) : Type 0 where
  pub entry : Record
  pub used : record_of new_records number ≡ Some entry
  pub named : entry.name.bytes.items ≡ name
  pub as_long : entry.blocks ≡ before.blocks
  pub others : (other : ℕ) → other ≢ number → record_of new_records other ≡ record_of records other

-- how many extents the used records take
abbrev pub records_need : (each : ℕ) → List (Option Record) → ℕ
records_need each [] = 0
records_need each (entry ∷ records) = extents_of each entry + records_need each records

-- how many records are used
abbrev pub used_records : List (Option Record) → ℕ
used_records [] = 0
used_records (None ∷ records) = used_records records
used_records (Some entry ∷ records) = 1 + used_records records
