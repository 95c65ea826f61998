-- Whether a command on volumes is admitted, by the table of volumes and the map of extents that a store keeps.
use Rattle.std.specs.Prelude.{◌≡◌, ◌≢◌, ℕ, ◌+◌, ◌<◌, ◌≤◌, List, length, take, Option, Some, None, Result, Ok, Err}
use Rattle.sector_model.specs.declared.refusal.Refusal.{Refusal}
use Rattle.extents.specs.declared.extent_layout.ExtentLayout.{ExtentLayout}
use Rattle.extents.specs.SetExtents.{IsOfSet}
use Rattle.extents.specs.declared.owned.Owned.{Owned}
use Rattle.extents.specs.declared.record.Record.{Record}
use Rattle.extents.specs.declared.volume_table.VolumeTable.{VolumeTable}
use Rattle.extents.specs.ExtentMaps.{free_of}
use Rattle.extents.specs.VolumeTables.{extents_for, most_blocks, record_of}
use Rattle.volume_table.specs.Volumes.{Block, VolumeMap}
use Rattle.volume_table.specs.Shows.{Shows}
use Rattle.extents.specs.Versions.{most_name_bytes, most_volumes}
use Rattle.extents.specs.declared.volume_table.TheConstants.{MOST_VOLUMES}
use Rattle.volume_table.specs.declared.event.TheConstants.{MOST_BLOCKS_AT_ONCE}

-- by this table a logical list of a set with these extents shows these volumes
pub record ShowsBy (extents : ExtentLayout) (table : VolumeTable) (sectors : List Block) (volumes : VolumeMap) : Type 0 where
  pub shows : Shows extents sectors volumes
  pub by : shows.table ≡ table

-- what a result refuses
abbrev pub refusal_in : {A : Type 0} → Result A Refusal → Option Refusal
refusal_in (Ok value) = None
refusal_in (Err refusal) = Some refusal

-- the record of this number, one of 64, is used for the name
pub record HasRecordAt (records : List (Option Record)) (name : List ℕ) (number : ℕ) : Type 0 where
  pub of_table : number < MOST_VOLUMES
  pub entry : Record
  pub used : record_of records number ≡ Some entry
  pub named : entry.name.bytes.items ≡ name

-- the record of this number, one of those of the version, is not used, and each below it is
pub record IsFirstUnused (version : ℕ) (records : List (Option Record)) (number : ℕ) : Type 0 where
  pub of_table : number < most_volumes version
  pub unused : record_of records number ≡ None
  pub first : (other : ℕ) → other < number → record_of records other ≢ None

-- the record that is used for the name was the lowest one that was not used
pub record TakesLowest (version : ℕ) (before after : List (Option Record)) (name : List ℕ) : Type 0 where
  pub number : ℕ
  pub lowest : IsFirstUnused version before number
  pub taken : HasRecordAt after name number

-- `count` blocks from `at` on, 1 at least, are of the volume of this record, which has this name
pub record HasBlocksAt (records : List (Option Record)) (name : List ℕ) (number at count : ℕ) : Type 0 where
  pub of_table : number < MOST_VOLUMES
  pub entry : Record
  pub used : record_of records number ≡ Some entry
  pub named : entry.name.bytes.items ≡ name
  pub fits : at + count ≤ entry.blocks
  pub least : 1 ≤ count

-- `count` blocks from `at` on, 1 to 32, are of the volume of this record, which has this name
pub record IsWithinVolume (records : List (Option Record)) (name : List ℕ) (number at count : ℕ) : Type 0 where
  pub of_table : number < MOST_VOLUMES
  pub entry : Record
  pub used : record_of records number ≡ Some entry
  pub named : entry.name.bytes.items ≡ name
  pub fits : at + count ≤ entry.blocks
  pub least : 1 ≤ count
  pub most : count ≤ MOST_BLOCKS_AT_ONCE

-- the record is the one before with more blocks, or the first of its volume
abbrev pub IsGrownFrom : Option Record → (first : ℕ) → Record → Type 0
IsGrownFrom None first entry = first ≡ 0
IsGrownFrom (Some before) first entry = (before.blocks ≡ first) × (before.name.bytes.items ≡ entry.name.bytes.items)

-- The record may be put at this number, with blocks from `first` on that are new: no other record has its name, and there are free extents.
pub record MayGrowTo (extents : ExtentLayout) (version : ℕ) (records : List (Option Record)) (owners : List (Option Owned)) (number first : ℕ)
    (entry : Record) : Type 0 where
  pub of_table : number < most_volumes version
  pub short : length entry.name.bytes.items ≤ most_name_bytes version
  pub from : IsGrownFrom (record_of records number) first entry
  pub more : first < entry.blocks
  pub most : entry.blocks ≤ most_blocks extents.blocks
  pub apart : (other : ℕ) (one : Record) → record_of records other ≡ Some one → one.name.bytes.items ≡ entry.name.bytes.items → other ≡ number
  pub fits : extents_for extents.blocks entry.blocks ≤ extents_for extents.blocks first + free_of owners

-- the record is one that is used, and has as many blocks
abbrev pub IsRenamedFrom : Option Record → Record → Type 0
IsRenamedFrom None entry = ⊥
IsRenamedFrom (Some before) entry = entry.blocks ≡ before.blocks

-- The record of this number may be replaced by one with another name, which no record has, of as many blocks.
pub record MayRename (version : ℕ) (records : List (Option Record)) (number : ℕ) (entry : Record) : Type 0 where
  pub of_table : number < most_volumes version
  pub short : length entry.name.bytes.items ≤ most_name_bytes version
  pub from : IsRenamedFrom (record_of records number) entry
  pub absent : (other : ℕ) (one : Record) → record_of records other ≡ Some one → one.name.bytes.items ≢ entry.name.bytes.items

-- a store's table may be that of its set, whose extents lie so, and its map of extents is the table's
pub record AreKept (extents : ExtentLayout) (table : VolumeTable) (owners : List (Option Owned)) : Type 0 where
  pub same : owners ≡ take extents.count table.extents
  pub of_set : IsOfSet extents table
