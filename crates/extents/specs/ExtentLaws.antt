-- What holds of every map of extents, and what the taking and the giving back of extents do to it.
use Rattle.std.specs.Prelude.{◌≡◌, ◌≢◌, ◌↔◌, ℕ, zero, suc, ◌+◌, ◌*◌, ◌<◌, ◌≤◌, Bool, true, List, Option, None, length}
use Rattle.extents.specs.declared.extent_layout.ExtentLayout.{ExtentLayout}
use Rattle.extents.specs.declared.owned.Owned.{Owned}
use Rattle.extents.specs.Owners.{owner_of, IsAt, HasPlaces}
use Rattle.extents.specs.ExtentMaps.{IsExtentMap, free_of, count_of, comes_before, IsTaken, IsGivenBack, HasPlace, IsWhere, place_of}
use Rattle.extents.specs.declared.volume_table.TheConstants.{MOST_VOLUMES}

-- how many extents the volumes below this one have
unfoldable pub counted_below : List (Option Owned) → ℕ → ℕ
counted_below owners zero = 0
counted_below owners (suc volume) = counted_below owners volume + count_of owners volume

-- each extent is free or counted for one of the volumes 0 to 63, and a volume's places are as many as its extents
pub record IsCounted (owners : List (Option Owned)) : Type 0 where
  pub places : (volume : ℕ) → HasPlaces owners volume (count_of owners volume)
  pub all : free_of owners + counted_below owners MOST_VOLUMES ≡ length owners

abbrev pub EachExtentIsCounted : Type 0
EachExtentIsCounted = (owners : List (Option Owned)) → IsExtentMap owners → IsCounted owners

-- what extents that are taken do to a map
pub record TakingKeeps (dirty : List Bool) (old new : List (Option Owned)) (volume n : ℕ) : Type 0 where
  -- it is a map again
  pub map : IsExtentMap new
  -- the volume has n more places
  pub places : HasPlaces new volume (count_of old volume + n)
  -- the other volumes have the extents that they had
  pub others : (extent other place : ℕ) → other ≢ volume → IsAt new extent other place ↔ IsAt old extent other place
  -- n extents fewer are free
  pub free : free_of new + n ≡ free_of old
  -- a free extent that was taken comes before each one that is left: it is clean and that one dirty, or they are of a kind and it lies below
  pub lowest : (extent place other : ℕ) → owner_of old extent ≡ None → IsAt new extent volume place → other < length new → owner_of new other ≡ None
      → comes_before dirty extent other ≡ true
  -- of two that were taken the one that comes before the other has the lower place
  pub rising : (extent other place place' : ℕ) → comes_before dirty extent other ≡ true → owner_of old extent ≡ None → owner_of old other ≡ None
      → IsAt new extent volume place → IsAt new other volume place' → place < place'
  -- no other owners come of it
  pub only : (other : List (Option Owned)) → IsTaken dirty old other volume n → other ≡ new

abbrev pub TakingKeepsMaps : Type 0
TakingKeepsMaps = (dirty : List Bool) (old new : List (Option Owned)) (volume n : ℕ) → IsExtentMap old → volume < MOST_VOLUMES → n ≤ free_of old
    → IsTaken dirty old new volume n
    → TakingKeeps dirty old new volume n

-- what extents that are given back do to a map
pub record GivingBackKeeps (old new : List (Option Owned)) (volume : ℕ) : Type 0 where
  -- it is a map again
  pub map : IsExtentMap new
  -- the volume has no place
  pub places : HasPlaces new volume 0
  -- the other volumes have the extents that they had
  pub others : (extent other place : ℕ) → other ≢ volume → IsAt new extent other place ↔ IsAt old extent other place
  -- as many extents more are free as the volume had
  pub free : free_of new ≡ free_of old + count_of old volume
  -- no other owners come of it
  pub only : (other : List (Option Owned)) → IsGivenBack old other volume → other ≡ new

abbrev pub GivingBackKeepsMaps : Type 0
GivingBackKeepsMaps = (old new : List (Option Owned)) (volume : ℕ) → IsExtentMap old → IsGivenBack old new volume → GivingBackKeeps old new volume

-- a block of a volume lies in one of the extents, wherever these lie
abbrev pub BlocksAreWithin : Type 0
BlocksAreWithin = (extents : ExtentLayout) (owners : List (Option Owned)) (volume block sector : ℕ) → HasPlace owners volume (place_of extents block)
    → IsWhere extents owners volume block sector
    → (extents.first ≤ sector) × (sector < extents.first + length owners * extents.blocks)

-- no two blocks, of one volume or of two, lie in one logical sector
abbrev pub NoSectorIsShared : Type 0
NoSectorIsShared = (extents : ExtentLayout) (owners : List (Option Owned)) (volume block other block' sector : ℕ)
    → HasPlace owners volume (place_of extents block) → HasPlace owners other (place_of extents block')
    → IsWhere extents owners volume block sector → IsWhere extents owners other block' sector → (volume ≡ other) × (block ≡ block')
