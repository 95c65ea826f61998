-- What a logical list shows.
use Rattle.std.specs.Prelude.{◌≡◌, ◌≢◌, ◌↔◌, ℕ, ◌+◌, ◌<◌, ◌≤◌, IsTrue, List, [], ◌++◌, length, take, slice_index_or, All, Option, Some, None}
use Rattle.layout_map.specs.declared.format.Format.{Format}
use Rattle.extents.specs.declared.extent_layout.ExtentLayout.{ExtentLayout}
use Rattle.extents.specs.SetExtents.{IsOfSet}
use Rattle.extents.specs.declared.owned.Owned.{Owned}
use Rattle.extents.specs.declared.record.Record.{Record}
use Rattle.extents.specs.declared.volume_table.VolumeTable.{VolumeTable}
use Rattle.extents.specs.ExtentMaps.{IsExtentMap, free_of, place_of, sector_of_block}
use Rattle.extents.specs.Names.{IsGoodName}
use Rattle.extents.specs.Owners.{owner_of, IsAt}
use Rattle.extents.specs.TableSpelling.{Spell}
use Rattle.extents.specs.Versions.{most_name_bytes, table_length, upgraded_version}
use Rattle.extents.specs.VolumeTables.{record_of, HaveTheirPlaces, IsVolumeTable}
use Rattle.volume_table.specs.Names.{is_good_name}
use Rattle.volume_table.specs.Volumes.{Block, IsBlock, VolumeMap, no_volumes, blocks_of, need, AreVolumes}
use Rattle.volume_table.specs.VolumeStep.{Create, Extend, Remove, Read, Rename, Write, Upgrade, Done, Blocks, zero_blocks, blocks_in, reply_to, volumes_after}
use Rattle.volume_table.specs.Law.{HasLength}
use Rattle.volume_table.specs.Shows.{AreClean, AreShown, Shows, HasWritten, HaveSameBlocks, ChangesName, ChangesOneRecord, IsRecordOf, records_need}
use Rattle.volume_table.specs.Shows.{used_records}
use Rattle.extents.specs.TableLaw.{IsEmpty, IsOfFormat}

-- the test of a name is the table's rule
abbrev pub GoodNamesAreTheTables : Type 0
GoodNamesAreTheTables = (version : ℕ) (name : List ℕ) → IsTrue (is_good_name version name) ↔ (IsGoodName name × (length name ≤ most_name_bytes version))

-- by one table a list shows one map of volumes
abbrev pub ShownAreOne : Type 0
ShownAreOne = (extents : ExtentLayout) (records : List (Option Record)) (owners : List (Option Owned)) (sectors : List Block) (version : ℕ)
    (first second : VolumeMap)
    → ∥ HaveTheirPlaces extents.blocks records owners ∥₁ → first.version ≡ version → second.version ≡ version
    → AreVolumes extents first → AreVolumes extents second → AreShown extents records owners sectors first.volumes
    → AreShown extents records owners sectors second.volumes → first ≡ second

-- a list that has the blocks of a write, and is else as it was, shows the volumes after the write
abbrev pub WriteIsShown : Type 0
WriteIsShown = (extents : ExtentLayout) (before left : List Block) (volumes : VolumeMap) (number : ℕ) (entry : Record) (at : ℕ) (written : List Block)
    (shows : Shows extents before volumes)
    → record_of shows.table.records number ≡ Some entry → All IsBlock written → reply_to extents (Write entry.name.bytes.items at written) volumes ≡ Done
    → length left ≡ length before → HasWritten extents shows.table.extents number at written before left
    → Shows extents left (volumes_after extents (Write entry.name.bytes.items at written) volumes)

-- a list that has another block only where no volume has one, and zeros there in clean extents, shows the same volumes
abbrev pub UnusedMayChange : Type 0
UnusedMayChange = (extents : ExtentLayout) (before left : List Block) (volumes : VolumeMap) (shows : Shows extents before volumes)
    → take (table_length volumes.version) left ≡ take (table_length volumes.version) before
    → ((number : ℕ) (entry : Record) → record_of shows.table.records number ≡ Some entry
    → HaveSameBlocks extents shows.table.extents number entry before left)
    → AreClean extents shows.table.dirty shows.table.records shows.table.extents left → Shows extents left volumes

-- where a create is done, a list whose new table has a record of the volume, and zeros in its extents, shows the volumes after it
abbrev pub CreateIsShown : Type 0
CreateIsShown = (extents : ExtentLayout) (before left : List Block) (volumes : VolumeMap) (name : List ℕ) (count : ℕ) (table : VolumeTable) (number : ℕ)
    (shows : Shows extents before volumes)
    → reply_to extents (Create name count) volumes ≡ Done
    → Spell left table → table.version ≡ volumes.version → IsOfSet extents table
    → ChangesOneRecord extents shows.table.records table.records shows.table.extents table.extents before left number
    → IsRecordOf extents table.records table.extents left number (record { name = name; blocks = zero_blocks count })
    → record_of shows.table.records number ≡ None → AreClean extents table.dirty table.records table.extents left
    → Shows extents left (volumes_after extents (Create name count) volumes)

-- the same of an extend, whose record was used before
abbrev pub ExtendIsShown : Type 0
ExtendIsShown = (extents : ExtentLayout) (before left : List Block) (volumes : VolumeMap) (growth : ℕ) (table : VolumeTable) (number : ℕ) (entry : Record)
    (shows : Shows extents before volumes)
    → record_of shows.table.records number ≡ Some entry
    → reply_to extents (Extend entry.name.bytes.items growth) volumes ≡ Done
    → Spell left table → table.version ≡ volumes.version → IsOfSet extents table
    → ChangesOneRecord extents shows.table.records table.records shows.table.extents table.extents before left number
    → IsRecordOf extents table.records table.extents left number
    (record { name = entry.name.bytes.items; blocks = blocks_in entry.name.bytes.items volumes.volumes ++ zero_blocks growth })
    → AreClean extents table.dirty table.records table.extents left
    → Shows extents left (volumes_after extents (Extend entry.name.bytes.items growth) volumes)

-- the same of a removal, whose record is not used any more
abbrev pub RemoveIsShown : Type 0
RemoveIsShown = (extents : ExtentLayout) (before left : List Block) (volumes : VolumeMap) (table : VolumeTable) (number : ℕ) (entry : Record)
    (shows : Shows extents before volumes)
    → record_of shows.table.records number ≡ Some entry
    → reply_to extents (Remove entry.name.bytes.items) volumes ≡ Done
    → Spell left table → table.version ≡ volumes.version → IsOfSet extents table
    → ChangesOneRecord extents shows.table.records table.records shows.table.extents table.extents before left number
    → record_of table.records number ≡ None → AreClean extents table.dirty table.records table.extents left
    → Shows extents left (volumes_after extents (Remove entry.name.bytes.items) volumes)

-- a list whose new table has another name in one used record, and is else as it was, shows the volumes after the rename
abbrev pub RenameIsShown : Type 0
RenameIsShown = (extents : ExtentLayout) (before left : List Block) (volumes : VolumeMap) (name : List ℕ) (table : VolumeTable) (number : ℕ) (entry : Record)
    (shows : Shows extents before volumes)
    → record_of shows.table.records number ≡ Some entry
    → reply_to extents (Rename entry.name.bytes.items name) volumes ≡ Done
    → Spell left table → table.version ≡ volumes.version → ChangesName shows.table.records table.records number entry name
    → ((extent : ℕ) → owner_of table.extents extent ≡ owner_of shows.table.extents extent) → table.dirty ≡ shows.table.dirty
    → ((sector : ℕ) → table_length volumes.version ≤ sector → slice_index_or left sector [] ≡ slice_index_or before sector [])
    → Shows extents left (volumes_after extents (Rename entry.name.bytes.items name) volumes)

-- as many volumes are shown as records are used, and they need the extents that the records take
abbrev pub RecordsAreCounted : Type 0
RecordsAreCounted = (extents : ExtentLayout) (sectors : List Block) (volumes : VolumeMap) (shows : Shows extents sectors volumes)
    → (length volumes.volumes ≡ used_records shows.table.records)
    × (need extents.blocks volumes.volumes ≡ records_need extents.blocks shows.table.records)

-- the owners in a table are a map of the set's extents
abbrev pub TableIsExtentMap : Type 0
TableIsExtentMap = (extents : ExtentLayout) (version : ℕ) (records : List (Option Record)) (owners : List (Option Owned))
    → IsVolumeTable version records owners
    → ((extent : ℕ) → extents.count ≤ extent → owner_of owners extent ≡ None) → IsExtentMap (take extents.count owners)

-- the free extents are those that the volumes do not need
abbrev pub FreeIsNotNeeded : Type 0
FreeIsNotNeeded = (extents : ExtentLayout) (sectors : List Block) (volumes : VolumeMap) (shows : Shows extents sectors volumes)
    → free_of (take extents.count shows.table.extents) + need extents.blocks volumes.volumes ≡ extents.count

-- in a set of a format no sectors begin with the spellings of two tables
abbrev pub TablesHaveOneSpelling : Type 0
TablesHaveOneSpelling = (format : Format) (sectors : List Block) (first second : VolumeTable) → IsOfFormat format first → IsOfFormat format second
    → Spell sectors first → Spell sectors second → first ≡ second

-- then a list shows one map of volumes
abbrev pub ListShowsOne : Type 0
ListShowsOne = TablesHaveOneSpelling → (extents : ExtentLayout) (sectors : List Block) (first second : VolumeMap) → Shows extents sectors first
    → Shows extents sectors second → first ≡ second

-- a name that no record has is the name of no volume
abbrev pub AbsentIsShown : Type 0
AbsentIsShown = (extents : ExtentLayout) (sectors : List Block) (volumes : VolumeMap) (name : List ℕ) (shows : Shows extents sectors volumes)
    → ((number : ℕ) (entry : Record) → record_of shows.table.records number ≡ Some entry → entry.name.bytes.items ≢ name)
    → blocks_of name volumes.volumes ≡ None

-- a volume has as many blocks as its record says
abbrev pub LengthIsShown : Type 0
LengthIsShown = (extents : ExtentLayout) (sectors : List Block) (volumes : VolumeMap) (number : ℕ) (entry : Record) (shows : Shows extents sectors volumes)
    → record_of shows.table.records number ≡ Some entry → HasLength entry.name.bytes.items entry.blocks volumes.volumes

-- the blocks that a read answers are those that stand in the volume's extents
abbrev pub ReadIsShown : Type 0
ReadIsShown = (extents : ExtentLayout) (sectors : List Block) (volumes : VolumeMap) (number : ℕ) (entry : Record) (at count : ℕ) (blocks : List Block)
    (shows : Shows extents sectors volumes)
    → record_of shows.table.records number ≡ Some entry → reply_to extents (Read entry.name.bytes.items at count) volumes ≡ Blocks blocks
    → (length blocks ≡ count)
    × ((j extent : ℕ) → j < count → IsAt shows.table.extents extent number (place_of extents (at + j))
    → slice_index_or blocks j [] ≡ slice_index_or sectors (sector_of_block extents extent (at + j)) [])

-- a list whose table is replaced by an upgraded one with the same records and extents shows the same volumes after the upgrade
abbrev pub UpgradeIsShown : Type 0
UpgradeIsShown = (extents : ExtentLayout) (before left : List Block) (volumes : VolumeMap) (table : VolumeTable) (shows : Shows extents before volumes)
    → Spell left table → table.version ≡ upgraded_version shows.table.version → table.records ≡ shows.table.records → table.extents ≡ shows.table.extents
    → table.dirty ≡ shows.table.dirty
    → ((sector : ℕ) → table_length table.version ≤ sector → slice_index_or left sector [] ≡ slice_index_or before sector [])
    → Shows extents left (volumes_after extents Upgrade volumes)

-- a list whose table is the empty one of the set's format, and whose clean extents are zero, shows no volume
abbrev pub EmptyIsShown : Type 0
EmptyIsShown = (extents : ExtentLayout) (sectors : List Block) (table : VolumeTable) → Spell sectors table → IsEmpty extents.format table
    → AreClean extents table.dirty table.records table.extents sectors → Shows extents sectors (no_volumes extents.format)
