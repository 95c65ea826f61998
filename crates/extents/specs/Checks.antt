-- What the checks of a table find out.
use Rattle.std.specs.Prelude.{◌≡◌, ℕ, ◌<◌, ◌≤◌, Bool, true, false, List, Option, Some, None}
use Rattle.extents.specs.declared.owned.Owned.{Owned}
use Rattle.extents.specs.declared.record.Record.{Record}
use Rattle.extents.specs.Owners.{owner_of, IsAt}
use Rattle.extents.specs.VolumeTables.{record_of, extents_of}
use Rattle.extents.specs.ExtentMaps.{is_dirty}
use Rattle.extents.specs.Versions.{tells_dirty}
use Rattle.layout_map.specs.declared.sizes.TheConstants.{MOST_EXTENTS}
use Rattle.extents.specs.declared.volume_table.TheConstants.{MOST_VOLUMES}

-- the record of this number is used and has this name
abbrev pub IsNamed : List (Option Record) → ℕ → List ℕ → Type 0
IsNamed records number bytes = (one : Record) × (record_of records number ≡ Some one) × (one.name.bytes.items ≡ bytes)

-- the first record of a name
pub record IsFirstNamed (records : List (Option Record)) (bytes : List ℕ) (number : ℕ) : Type 0 where
  pub named : IsNamed records number bytes
  pub first : (other : ℕ) → IsNamed records other bytes → number ≤ other

-- the first extent of a volume at a place
pub record IsFirstAt (extents : List (Option Owned)) (volume place extent : ℕ) : Type 0 where
  pub at : IsAt extents extent volume place
  pub first : (other : ℕ) → IsAt extents other volume place → extent ≤ other

-- an owner's place is one that its volume's length takes by so many blocks an extent, and the owner has no extent before this one
pub record Fits (each : ℕ) (records : List (Option Record)) (extents : List (Option Owned)) (extent : ℕ) (owner : Owned) : Type 0 where
  pub within : owner.place < extents_of each (record_of records owner.volume)
  pub first : (other : ℕ) → owner_of extents other ≡ Some owner → extent ≤ other

-- each extent's owner does
abbrev pub OwnersFit : (each : ℕ) → List (Option Record) → List (Option Owned) → Type 0
OwnersFit each records extents = (extent : ℕ) (owner : Owned) → owner_of extents extent ≡ Some owner → Fits each records extents extent owner

-- a volume's first n places occur
abbrev pub PlacesOccur : List (Option Owned) → (volume n : ℕ) → Type 0
PlacesOccur extents volume n = (place : ℕ) → place < n → (extent : ℕ) × IsAt extents extent volume place

-- the places of each of the 64 records occur
abbrev pub AllPlacesOccur : (each : ℕ) → List (Option Record) → List (Option Owned) → Type 0
AllPlacesOccur each records extents = (volume : ℕ) → volume < MOST_VOLUMES → PlacesOccur extents volume (extents_of each (record_of records volume))

-- each extent from this one on is free
abbrev pub AreFreeFrom : List (Option Owned) → ℕ → Type 0
AreFreeFrom extents first = (extent : ℕ) → first ≤ extent → owner_of extents extent ≡ None

-- each extent from this one on is clean
abbrev pub AreCleanFrom : List Bool → ℕ → Type 0
AreCleanFrom dirty first = (extent : ℕ) → first ≤ extent → extent < MOST_EXTENTS → is_dirty dirty extent ≡ false

-- where the version tells them
abbrev pub AreCleanBeyond : (version : ℕ) → List Bool → ℕ → Type 0
AreCleanBeyond version dirty first = tells_dirty version ≡ true → AreCleanFrom dirty first
