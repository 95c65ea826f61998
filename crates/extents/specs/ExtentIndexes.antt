-- The extents of a volume in order of place, and the index that a map keeps of them.
use Rattle.std.specs.Prelude.{◌≡◌, ℕ, ◌+◌, ◌<◌, ◌≤◌, List, Option, length, slice_index}
use Rattle.extents.specs.declared.extent_index.ExtentIndex.{ExtentIndex}
use Rattle.extents.specs.declared.owned.Owned.{Owned}
use Rattle.extents.specs.Owners.{IsAt}
use Rattle.extents.specs.ExtentMaps.{IsExtentMap, count_of}
use Rattle.extents.specs.ExtentLaws.{counted_below}
use Rattle.layout_map.specs.declared.sizes.TheConstants.{MOST_EXTENTS}
use Rattle.extents.specs.declared.volume_table.TheConstants.{MOST_VOLUMES}

-- the extents of a volume in order of place
pub record AreExtentsOf (owners : List (Option Owned)) (volume : ℕ) (extents : List ℕ) : Type 0 where
  -- there are as many as the volume has
  pub count : length extents ≡ count_of owners volume
  -- each is the volume's at its place in the list
  pub each : (place : ℕ) → place < length extents → IsAt owners (slice_index extents place) volume place
  -- each extent of the volume is in the list, at its place
  pub all : (extent place : ℕ) → IsAt owners extent volume place → (place < length extents) × (slice_index extents place ≡ extent)

-- how many extents the volumes below each one have, and last how many all 64 have
pub record AreStarts (owners : List (Option Owned)) (starts : List ℕ) : Type 0 where
  pub long : length starts ≡ MOST_VOLUMES + 1
  pub each : (volume : ℕ) → volume ≤ MOST_VOLUMES → slice_index starts volume ≡ counted_below owners volume

-- the extents of volume 0 in order of place, then those of volume 1, and so on
pub record ArePacked (owners : List (Option Owned)) (packed : List ℕ) : Type 0 where
  pub long : length packed ≡ MOST_EXTENTS
  pub each : (extent volume place : ℕ) → IsAt owners extent volume place → slice_index packed (counted_below owners volume + place) ≡ extent

-- the index of the extents with these owners
pub record IsIndex (owners : List (Option Owned)) (index : ExtentIndex) : Type 0 where
  pub starts : AreStarts owners index.starts
  pub packed : ArePacked owners index.packed

-- a map of extents with its index
pub record IsIndexedMap (owners : List (Option Owned)) (index : ExtentIndex) : Type 0 where
  pub map : IsExtentMap owners
  pub indexed : IsIndex owners index
