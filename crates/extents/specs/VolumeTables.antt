-- What the table of volumes keeps.
use Rattle.std.specs.Prelude.{◌≡◌, ◌≤◌, ℕ, ◌+◌, ◌-◌, ◌*◌, ◌/◌, min, Bool, true, false, List, ◌++◌, Option, Some, None, length, replicate, slice_index_or}
use Rattle.extents.specs.declared.owned.Owned.{Owned}
use Rattle.extents.specs.declared.record.Record.{Record}
use Rattle.extents.specs.ExtentMaps.{IsExtentMap, is_dirty}
use Rattle.extents.specs.Owners.{HasPlaces, IsAt}
use Rattle.extents.specs.Versions.{IsVersion, most_name_bytes, most_volumes, tells_dirty}
use Rattle.layout_map.specs.declared.sizes.TheConstants.{MOST_EXTENTS}
use Rattle.extents.specs.declared.record.TheConstants.{MOST_BLOCKS}
use Rattle.extents.specs.declared.volume_table.TheConstants.{MOST_VOLUMES}

-- the record of this number; after the list there is none
abbrev pub record_of : List (Option Record) → ℕ → Option Record
record_of records volume = slice_index_or records volume None

-- a record is used for this name
pub record HasRecord (records : List (Option Record)) (name : List ℕ) : Type 0 where
  pub number : ℕ
  pub entry : Record
  pub used : record_of records number ≡ Some entry
  pub named : entry.name.bytes.items ≡ name

-- the record of this number is used for this name and so many blocks
pub record IsRecordFor (records : List (Option Record)) (name : List ℕ) (number blocks : ℕ) : Type 0 where
  pub entry : Record
  pub used : record_of records number ≡ Some entry
  pub named : entry.name.bytes.items ≡ name
  pub as_long : entry.blocks ≡ blocks

-- the extents that so many blocks take, of which each extent has so many
abbrev pub extents_for : (each blocks : ℕ) → ℕ
extents_for each blocks = (blocks + (each - 1)) / each

-- the most blocks of a volume in a set with so many an extent: those of 1,024 extents, and the most of any set where they would be more
unfoldable pub most_blocks : (each : ℕ) → ℕ
most_blocks each = min MOST_BLOCKS (MOST_EXTENTS * each)

-- the extents that a record takes; one that is not used takes none
abbrev pub extents_of : (each : ℕ) → Option Record → ℕ
extents_of each None = 0
extents_of each (Some one) = extents_for each one.blocks

-- no two used records have the same name
abbrev pub AreDistinct : List (Option Record) → Type 0
AreDistinct records = (i j : ℕ) (first second : Record) → record_of records i ≡ Some first → record_of records j ≡ Some second
    → first.name.bytes.items ≡ second.name.bytes.items → i ≡ j

-- a name of this version is no longer than this
abbrev pub IsShort : ℕ → Option Record → Type 0
IsShort version one = (used : Record) → one ≡ Some used → length used.name.bytes.items ≤ most_name_bytes version

-- the records of a table of this version: no more volumes and no longer names than it has
pub record AreOfVersion (version : ℕ) (records : List (Option Record)) : Type 0 where
  pub few : (volume : ℕ) → most_volumes version ≤ volume → record_of records volume ≡ None
  pub short : (volume : ℕ) → IsShort version (record_of records volume)

-- 64 records of a version, with distinct names, and a map of 1,024 extents
pub record IsVolumeTable (version : ℕ) (records : List (Option Record)) (extents : List (Option Owned)) : Type 0 where
  pub is_version : IsVersion version
  pub of_version : AreOfVersion version records
  pub all_records : length records ≡ MOST_VOLUMES
  pub all_extents : length extents ≡ MOST_EXTENTS
  pub distinct : AreDistinct records
  pub map : IsExtentMap extents

-- which of 1,024 extents are dirty: all, in a table of a version that doesn't tell them
pub record AreFlags (version : ℕ) (dirty : List Bool) : Type 0 where
  pub all_extents : length dirty ≡ MOST_EXTENTS
  pub all_dirty : tells_dirty version ≡ false → (extent : ℕ) → is_dirty dirty extent ≡ true

-- the extents of a volume are dirty, and each other is as it was
pub record IsMarked (extents : List (Option Owned)) (volume : ℕ) (before after : List Bool) : Type 0 where
  pub as_many : length after ≡ length before
  pub marked : (extent place : ℕ) → IsAt extents extent volume place → is_dirty after extent ≡ true
  pub others : (extent : ℕ) → ((place : ℕ) → IsAt extents extent volume place → ⊥) → is_dirty after extent ≡ is_dirty before extent

-- each record has exactly the extents that its blocks take, of which each extent has so many
abbrev pub HaveTheirPlaces : (each : ℕ) → List (Option Record) → List (Option Owned) → Type 0
HaveTheirPlaces each records extents = (volume : ℕ) → HasPlaces extents volume (extents_of each (record_of records volume))

-- the owners of 1,024 extents, those of a map first: the others are free
unfoldable pub owners_padded : List (Option Owned) → List (Option Owned)
owners_padded owners = owners ++ replicate (MOST_EXTENTS - length owners) None
