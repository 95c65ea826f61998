-- Which volume has which extents, and how they are taken and given back.
use Rattle.std.specs.Prelude.{◌≡◌, ◌≢◌, ◌==◌, ◌&&◌, ◌||◌, not, nat_lt, if◌then◌else◌, ℕ, zero, suc, ◌+◌, ◌*◌, ◌/◌, ◌%◌, ◌<◌, ◌≤◌, Bool, true, false, List}
use Rattle.std.specs.Prelude.{Option, Some, None, is_none, length, count_by, slice_index_or}
use Rattle.extents.specs.declared.extent_layout.ExtentLayout.{ExtentLayout}
use Rattle.extents.specs.declared.owned.Owned.{Owned}
use Rattle.extents.specs.Owners.{owner_of, IsAt, HasPlaces}
use Rattle.layout_map.specs.declared.sizes.TheConstants.{MOST_EXTENTS}
use Rattle.extents.specs.declared.volume_table.TheConstants.{MOST_VOLUMES}

-- the owners of at most 1,024 extents, where each volume is below 64 and has its places from 0 on, without gap or repeat
pub record IsExtentMap (owners : List (Option Owned)) : Type 0 where
  pub at_most : length owners ≤ MOST_EXTENTS
  pub volumes : (extent volume place : ℕ) → IsAt owners extent volume place → volume < MOST_VOLUMES
  pub places : (volume : ℕ) → (n : ℕ) × HasPlaces owners volume n

-- how many extents are free
abbrev pub free_of : List (Option Owned) → ℕ
free_of owners = count_by is_none owners

-- An extent is dirty where its flag says so, and where it has none: sectors of it that no volume uses may be other than zeros. Those of a clean one are zeros.
abbrev pub is_dirty : List Bool → (extent : ℕ) → Bool
is_dirty dirty extent = slice_index_or dirty extent true

-- one extent is taken before another: a clean one before each dirty one, and of two of a kind the lower one first
abbrev pub comes_before : List Bool → (extent other : ℕ) → Bool
comes_before dirty extent other = if is_dirty dirty extent then is_dirty dirty other && nat_lt extent other else is_dirty dirty other || nat_lt extent other

-- how many of the extents below this one are free and of those that count
unfoldable pub free_below : (counts : ℕ → Bool) → List (Option Owned) → (extent : ℕ) → ℕ
free_below counts owners zero = 0
free_below counts owners (suc extent) = free_below counts owners extent + (if is_none (owner_of owners extent) && counts extent then 1 else 0)

-- how many of the free extents are taken before this one
abbrev pub free_before : List Bool → List (Option Owned) → (extent : ℕ) → ℕ
free_before dirty owners extent = free_below (λ other. comes_before dirty other extent) owners (length owners)

-- an extent with this owner is the volume's
abbrev pub is_of : ℕ → Option Owned → Bool
is_of volume None = false
is_of volume (Some owned) = owned.volume == volume

-- how many extents a volume has
abbrev pub count_of : List (Option Owned) → ℕ → ℕ
count_of owners volume = count_by (is_of volume) owners

-- The n free extents that are taken first go to a volume, in the order in which they are taken, at the places after its last.
pub record IsTaken (dirty : List Bool) (old new : List (Option Owned)) (volume n : ℕ) : Type 0 where
  -- no extent is more or less
  pub extents : length new ≡ length old
  -- an extent that has an owner keeps it
  pub kept : (extent other place : ℕ) → IsAt old extent other place → IsAt new extent other place
  -- a free extent goes to the volume where fewer than n free ones are taken before it, and as many places are between the volume's last and its place
  pub taken : (extent : ℕ) → extent < length old → owner_of old extent ≡ None → free_before dirty old extent < n
      → IsAt new extent volume (count_of old volume + free_before dirty old extent)
  -- the other free extents stay free
  pub left : (extent : ℕ) → owner_of old extent ≡ None → n ≤ free_before dirty old extent → owner_of new extent ≡ None

-- an extent is one of those that are wanted: all, or the clean ones
abbrev pub is_wanted : (all : Bool) → List Bool → (extent : ℕ) → Bool
is_wanted all dirty extent = all || not (is_dirty dirty extent)

-- The n lowest of the free extents that are wanted go to a volume, in rising order, at the places from `first` on.
pub record AreAppended (wanted : ℕ → Bool) (old new : List (Option Owned)) (volume first n : ℕ) : Type 0 where
  -- no extent is more or less
  pub extents : length new ≡ length old
  -- an extent that has an owner keeps it
  pub kept : (extent other place : ℕ) → IsAt old extent other place → IsAt new extent other place
  -- one that is wanted goes to the volume where fewer than n such lie below it, and as many places are between `first` and its place
  pub taken : (extent : ℕ) → extent < length old → owner_of old extent ≡ None → wanted extent ≡ true → free_below wanted old extent < n
      → IsAt new extent volume (first + free_below wanted old extent)
  -- one with n such below it stays free
  pub left : (extent : ℕ) → owner_of old extent ≡ None → n ≤ free_below wanted old extent → owner_of new extent ≡ None
  -- and so does one that is not wanted
  pub passed : (extent : ℕ) → owner_of old extent ≡ None → wanted extent ≡ false → owner_of new extent ≡ None

-- the extents of a volume are free again
pub record IsGivenBack (old new : List (Option Owned)) (volume : ℕ) : Type 0 where
  -- no extent is more or less
  pub extents : length new ≡ length old
  -- each extent of the volume is free
  pub freed : (extent place : ℕ) → IsAt old extent volume place → owner_of new extent ≡ None
  -- the extents of the other volumes stay
  pub kept : (extent other place : ℕ) → other ≢ volume → IsAt old extent other place → IsAt new extent other place
  -- a free extent stays free
  pub left : (extent : ℕ) → owner_of old extent ≡ None → owner_of new extent ≡ None

-- the volume has an extent at this place
abbrev pub HasPlace : List (Option Owned) → (volume place : ℕ) → Type 0
HasPlace owners volume place = (extent : ℕ) × IsAt owners extent volume place

-- the place of a volume's extent that has a block: each has so many
abbrev pub place_of : ExtentLayout → (block : ℕ) → ℕ
place_of extents block = block / extents.blocks

-- the logical sector of a block in an extent that is at its place: extents lie one after another, and each begins with the first of its blocks
abbrev pub sector_of_block : ExtentLayout → (extent block : ℕ) → ℕ
sector_of_block extents extent block = extents.first + extent * extents.blocks + block % extents.blocks

-- the logical sector of a block of a volume
abbrev pub IsWhere : ExtentLayout → List (Option Owned) → (volume block sector : ℕ) → Type 0
IsWhere extents owners volume block sector = (extent : ℕ) → IsAt owners extent volume (place_of extents block) → sector ≡ sector_of_block extents extent block
