-- What an upgrade and a rename leave of the table: records keep their numbers, and extents their owners; and each is one entry.
use Rattle.std.specs.Prelude.{◌≡◌, ◌≢◌, ℕ, ◌+◌, List, Some}
use Rattle.extents.specs.declared.record.Record.{Record}
use Rattle.extents.specs.Owners.{owner_of}
use Rattle.extents.specs.VolumeTables.{record_of}
use Rattle.volume_table.specs.Shows.{ChangesName}
use Rattle.volume_table.specs.Stands.{StoreView}
use Rattle.extents.specs.Versions.{upgraded_version}

-- one entry was written
abbrev pub IsOneEntry : (old new : StoreView) → Type 0
IsOneEntry old new = new.array.number ≡ old.array.number + 1

-- the table has the version of an upgraded one, with the same records and extents; that of a set that has it already is not written
pub record UpgradesKept (old new : StoreView) : Type 0 where
  pub version : new.keeps.version ≡ upgraded_version old.keeps.version
  pub records : new.keeps.records ≡ old.keeps.records
  pub extents : new.keeps.extents ≡ old.keeps.extents
  pub dirty : new.keeps.dirty ≡ old.keeps.dirty
  pub one_entry : upgraded_version old.keeps.version ≢ old.keeps.version → IsOneEntry old new
  pub nothing : upgraded_version old.keeps.version ≡ old.keeps.version → new ≡ old

-- the record of the old name has the new one, at its number; all else of the table is as it was
pub record RenamesKept (name name_after : List ℕ) (old new : StoreView) : Type 0 where
  pub version : new.keeps.version ≡ old.keeps.version
  pub number : ℕ
  pub before : Record
  pub used : record_of old.keeps.records number ≡ Some before
  pub named : before.name.bytes.items ≡ name
  pub changes : ChangesName old.keeps.records new.keeps.records number before name_after
  pub extents : (extent : ℕ) → owner_of new.keeps.extents extent ≡ owner_of old.keeps.extents extent
  pub dirty : new.keeps.dirty ≡ old.keeps.dirty
  pub one_entry : IsOneEntry old new
