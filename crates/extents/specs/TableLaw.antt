-- What holds of the spelling of every table of volumes.
use Rattle.std.specs.Prelude.{◌≡◌, ◌↔◌, ℕ, ◌<◌, true, List, [], None, length, replicate, slice_index_or}
use Rattle.extents.specs.declared.volume_table.VolumeTable.{VolumeTable}
use Rattle.extents.specs.Owners.{owner_of}
use Rattle.extents.specs.VolumeTables.{record_of}
use Rattle.extents.specs.TableSpelling.{zeros, table_sectors, Spell}
use Rattle.extents.specs.Checks.{AreCleanBeyond}
use Rattle.extents.specs.Versions.{fresh_version, is_version_of, table_length}
use Rattle.layout_map.specs.declared.format.Format.{Format}

-- a table fills the sectors of its version
abbrev pub FillsItsSectors : Type 0
FillsItsSectors = (table : VolumeTable) → (length (table_sectors table) ≡ table_length table.version)
    × ((number : ℕ) → number < table_length table.version → length (slice_index_or (table_sectors table) number []) ≡ 512)

-- a table may be that of a set of this format
abbrev pub IsOfFormat : Format → VolumeTable → Type 0
IsOfFormat format table = is_version_of format table.version ≡ true

-- in a set of a format, sectors begin with the spelling of one table at most, of whichever version
abbrev pub SpellsOneTable : Type 0
SpellsOneTable = (format : Format) (sectors : List (List ℕ)) (first second : VolumeTable) → IsOfFormat format first → IsOfFormat format second
    → Spell sectors first → Spell sectors second → first ≡ second

-- the table of a set of this format that was just made: of its version, with no record, no extent in use, and none that is told to be dirty
pub record IsEmpty (format : Format) (table : VolumeTable) : Type 0 where
  pub fresh : table.version ≡ fresh_version format
  pub no_record : (volume : ℕ) → record_of table.records volume ≡ None
  pub all_free : (extent : ℕ) → owner_of table.extents extent ≡ None
  pub all_clean : AreCleanBeyond table.version table.dirty 0

-- its sectors are all zero, and these are of no other table of a set of the format
abbrev pub EmptyTableIsZeros : Type 0
EmptyTableIsZeros = (format : Format) (table : VolumeTable) → IsOfFormat format table
    → IsEmpty format table ↔ (table_sectors table ≡ replicate (table_length (fresh_version format)) (zeros 512))

-- there is an empty table
abbrev pub EmptyTableExists : Type 0
EmptyTableExists = (format : Format) → ∥ ((table : VolumeTable) × IsEmpty format table) ∥₁
