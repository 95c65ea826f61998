-- Which volumes a case stands for, and on which volumes a store is settled.
use Rattle.std.specs.Prelude.{◌≡◌, ℕ, List, [], ◌∷◌, Contains, Option, None}
use Rattle.sector_model.specs.declared.refusal.Refusal.{Refusal}
use Rattle.sector_model.specs.History.{Bytes, History, MayLeave, Slots}
use Rattle.sector_model.specs.Moments.{Throughout}
use Rattle.layout_map.specs.declared.geometry.Geometry.{Geometry}
use Rattle.superblock.specs.declared.table.Table.{Table}
use Rattle.superblock.specs.Cases.{Case, IsLostAfter, Lost}
use Rattle.superblock.specs.Counted.{IsChosen}
use Rattle.superblock.specs.Losses.{IsLostAt}
use Rattle.superblock.specs.NextTables.{slots_of}
use Rattle.array_io.specs.Believed.Holds.{Holds}
use Rattle.array_io.specs.Laws.Starts.{Starts}
use Rattle.array_io.specs.Believed.Fresh.{IsFresh, zeros_of}
use Rattle.array_io.specs.Believed.Views.{ArrayView, RestsOn}
use Rattle.extents.specs.SetExtents.{extents_in}
use Rattle.extents.specs.declared.volume_table.VolumeTable.{VolumeTable}
use Rattle.extents.specs.TableLaw.{IsOfFormat}
use Rattle.extents.specs.TableSpelling.{Spell}
use Rattle.volume_table.specs.Volumes.{VolumeMap, no_volumes}
use Rattle.volume_table.specs.Shows.{Shows}

-- a logical list shows one of these maps of volumes
pub record ShowsOneOf (geometry : Geometry) (maps : List VolumeMap) (logical : List Bytes) : Type 0 where
  pub volumes : VolumeMap
  pub among : Contains maps volumes
  pub shown : Shows (extents_in geometry) logical volumes

-- A case stands for some maps of volumes: it holds for logical lists each of which shows one of them.
pub record Stands (base : Table) (devices : ℕ) (case : Case) (maps : List VolumeMap) : Type 0 where
  pub lists : List (List Bytes)
  pub holds : Holds base devices case lists
  pub shown : (logical : List Bytes) → Contains lists logical → ShowsOneOf base.geometry maps logical

-- every case that a crash now may leave stands for these maps
abbrev pub StandsNow : (base : Table) (devices : ℕ) (before : Option Lost) → List VolumeMap → History → Type 0
StandsNow base devices before maps h = (after : Option Lost) (image : Slots) → IsLostAt (slots_of base) before h after
    → MayLeave h image → Stands base devices record { image = image; lost = after } maps

-- so it is at each moment since
abbrev pub StandsThroughout : (base : Table) (devices : ℕ) (before : Option Lost) → List VolumeMap → (old new : History) → Type 0
StandsThroughout base devices before maps old new = Throughout (StandsNow base devices before maps) old new

-- an open store: its array, the table of volumes that it keeps in memory, and the refusal that ended it, if one did
pub record StoreView : Type 0 where
  pub array : ArrayView
  pub keeps : VolumeTable
  pub ended : Option Refusal

-- a store, by its parts
abbrev pub store_of : ArrayView → VolumeTable → Option Refusal → StoreView
store_of array keeps ended = record { array = array; keeps = keeps; ended = ended }

-- A store is settled on a map of volumes: its array is settled on a logical list that shows it, whose first sectors spell the table
-- that the store keeps, which is of the format of its set, and no refusal ended it.
pub record IsSettledOn (store : StoreView) (lost : Option Lost) (volumes : VolumeMap) : Type 0 where
  pub logical : List Bytes
  pub rests : RestsOn store.array lost logical
  pub shown : Shows (extents_in store.array.table.geometry) logical volumes
  pub spelled : Spell logical store.keeps
  pub of_format : IsOfFormat (extents_in store.array.table.geometry).format store.keeps
  pub going : store.ended ≡ None

-- after a call the store is settled on these volumes, with the slot lost that its table then lacks
pub record IsSettledAfter (before : Option Lost) (store : StoreView) (volumes : VolumeMap) : Type 0 where
  pub lost : Option Lost
  pub is_lost : IsLostAfter before store.array.table lost
  pub settled : IsSettledOn store lost volumes

-- what a case stands for when a run crashes it stands for when the next begins
abbrev pub StandsAfterAStart : Type 0
StandsAfterAStart = (base : Table) (devices : ℕ) (table : Table) (old new : Case) (maps : List VolumeMap)
    → Stands base devices old maps → IsChosen base.id devices old.image table → Starts devices table old new
    → Stands base devices new maps

-- a set that was just made shows no volume
abbrev pub FreshSetShowsNone : Type 0
FreshSetShowsNone = (geometry : Geometry) → ∥ Shows (extents_in geometry) (zeros_of geometry) (no_volumes geometry.format) ∥₁

-- and stands for none
abbrev pub FreshSetStandsForNone : Type 0
FreshSetStandsForNone = (devices : ℕ) (table : Table) (image : Slots) → IsFresh devices table image
    → ∥ Stands table devices record { image = image; lost = None } (no_volumes table.geometry.format ∷ []) ∥₁
