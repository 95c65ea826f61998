-- How the commands of a store change the logical list, by its table of volumes and its map of extents.
use Rattle.std.specs.Prelude.{◌≡◌, ◌≢◌, ◌⊎◌, ℕ, ◌+◌, ◌<◌, ◌≤◌, Bool, true, List, [], length, slice_index_or, Option}
use Rattle.extents.specs.declared.extent_layout.ExtentLayout.{ExtentLayout}
use Rattle.extents.specs.declared.owned.Owned.{Owned}
use Rattle.extents.specs.declared.volume_table.VolumeTable.{VolumeTable}
use Rattle.extents.specs.ExtentMaps.{HasPlace, IsWhere, is_dirty, place_of, sector_of_block}
use Rattle.extents.specs.Owners.{IsAt}
use Rattle.extents.specs.TableSpelling.{Spell}
use Rattle.extents.specs.Versions.{table_length}
use Rattle.volume_table.specs.Volumes.{Block, zero_block}
use Rattle.volume_table.specs.Shows.{HasWritten}
use Rattle.volume_table.specs.ListChanges.{Change, IsSameOr}

-- the sector has one of the blocks `first` to `last` - 1 of a record's volume
pub record IsOfBlocks (extents : ExtentLayout) (owners : List (Option Owned)) (number first last sector : ℕ) : Type 0 where
  pub block : ℕ
  pub extent : ℕ
  pub least : first ≤ block
  pub most : block < last
  pub at : IsAt owners extent number (place_of extents block)
  pub is : sector ≡ sector_of_block extents extent block

-- each of so many blocks of a record's volume has an extent
abbrev pub AllPlaced : (extents : ExtentLayout) → List (Option Owned) → (number first last : ℕ) → Type 0
AllPlaced extents owners number first last = (block : ℕ) → first ≤ block → block < last → HasPlace owners number (place_of extents block)

-- these blocks stand in place of those of a record's volume from `at` on, and nothing else is changed
pub record IsWrittenAt (extents : ExtentLayout) (owners : List (Option Owned)) (number at : ℕ) (blocks : List Block) (before now : List Block) : Type 0 where
  pub as_long : length now ≡ length before
  pub written : HasWritten extents owners number at blocks before now

-- some of the blocks `first` to `last` - 1 of a record's volume are zero, and nothing else is changed
pub record IsPartlyZero (extents : ExtentLayout) (owners : List (Option Owned)) (number first last : ℕ) (before now : List Block) : Type 0 where
  pub as_long : length now ≡ length before
  pub each : (sector : ℕ) → (slice_index_or now sector [] ≡ slice_index_or before sector [])
      ⊎ ((slice_index_or now sector [] ≡ zero_block) × IsOfBlocks extents owners number first last sector)

-- all of them that lie in dirty extents are zero
pub record IsZeroed (extents : ExtentLayout) (dirty : List Bool) (owners : List (Option Owned)) (number first last : ℕ) (before now : List Block) : Type 0 where
  pub partly : IsPartlyZero extents owners number first last before now
  pub zero : (sector : ℕ) (is : IsOfBlocks extents owners number first last sector) → is_dirty dirty is.extent ≡ true
      → slice_index_or now sector [] ≡ zero_block

-- the first sectors spell this table, and no other sector is changed
pub record HasTable (table : VolumeTable) (before now : List Block) : Type 0 where
  pub as_long : length now ≡ length before
  pub spelled : Spell now table
  pub beyond : (sector : ℕ) → table_length table.version ≤ sector → slice_index_or now sector [] ≡ slice_index_or before sector []

-- from a list that begins with the spelling of a table
abbrev pub From : VolumeTable → Change → Change
From first change before now = Spell before first → change before now

-- a table is put in place of another
abbrev pub PutsTable : (first : VolumeTable) → VolumeTable → Change
PutsTable first table = From first (HasTable table)

-- or not
abbrev pub MayPutTable : (first : VolumeTable) → VolumeTable → Change
MayPutTable first table = From first (IsSameOr (HasTable table))

-- a list with a new table, and with zeros in the blocks `first` to `last` - 1 of one volume that lie in dirty extents
pub record IsGrown (extents : ExtentLayout) (table : VolumeTable) (number first last : ℕ) (before now : List Block) : Type 0 where
  pub mid : List Block
  pub zeroed : IsZeroed extents table.dirty table.extents number first last before mid
  pub put : HasTable table mid now

-- what may be on the way there: some of these blocks are zero, or all, and the new table is there
abbrev pub MayGrow : ExtentLayout → (old : VolumeTable) → VolumeTable → (number first last : ℕ) → Change
MayGrow extents old table number first last = From old (λ before now. IsPartlyZero extents table.extents number first last before now
    ⊎ IsGrown extents table number first last before now)

abbrev pub Grows : ExtentLayout → (old : VolumeTable) → VolumeTable → (number first last : ℕ) → Change
Grows extents old table number first last = From old (IsGrown extents table number first last)

-- the blocks that were read from a record's volume, from block `at` on
abbrev pub AreReadFrom : (extents : ExtentLayout) → List (Option Owned) → (number at : ℕ) → (blocks sectors : List Block) → Type 0
AreReadFrom extents owners number at blocks sectors = (j extent : ℕ) → j < length blocks → IsAt owners extent number (place_of extents (at + j))
    → slice_index_or blocks j [] ≡ slice_index_or sectors (sector_of_block extents extent (at + j)) []

-- a logical sector of a commit that has none
abbrev pub no_sector : ℕ × Block
no_sector = (0, [])

-- blocks of a record's volume, from block `at` on, each with the logical sector in which it lies
pub record ArePlaced (extents : ExtentLayout) (owners : List (Option Owned)) (number at : ℕ) (blocks : List Block) (sectors : List (ℕ × Block)) : Type 0 where
  pub as_many : length sectors ≡ length blocks
  pub at_sector : (j : ℕ) → j < length blocks → IsWhere extents owners number (at + j) (slice_index_or sectors j no_sector).0
  pub bytes : (j : ℕ) → j < length blocks → (slice_index_or sectors j no_sector).1 ≡ slice_index_or blocks j []

-- of the first n sectors those that differ from the ones before, with their numbers, which rise
pub record AreChangedBelow (n : ℕ) (before after : List Block) (sectors : List (ℕ × Block)) : Type 0 where
  pub most : length sectors ≤ n
  pub below : (i : ℕ) → i < length sectors → (slice_index_or sectors i no_sector).0 < n
  pub rising : (i j : ℕ) → i < j → j < length sectors → (slice_index_or sectors i no_sector).0 < (slice_index_or sectors j no_sector).0
  pub new : (i : ℕ) → i < length sectors → (slice_index_or sectors i no_sector).1 ≡ slice_index_or after (slice_index_or sectors i no_sector).0 []
  pub all : (number : ℕ) → number < n → ((i : ℕ) × (i < length sectors) × ((slice_index_or sectors i no_sector).0 ≡ number))
      ⊎ ((slice_index_or after number [] ≡ slice_index_or before number []) × ((i : ℕ) → i < length sectors → (slice_index_or sectors i no_sector).0 ≢ number))

-- of the sectors of a table of this version those that differ
abbrev pub AreTheChanged : (version : ℕ) (before after : List Block) → List (ℕ × Block) → Type 0
AreTheChanged version before after sectors = AreChangedBelow (table_length version) before after sectors

-- all sectors of a table of this version, with their numbers
pub record AreAll (version : ℕ) (after : List Block) (sectors : List (ℕ × Block)) : Type 0 where
  pub changed : (before : List Block) → AreTheChanged version before after sectors
  pub each : (number : ℕ) → number < table_length version → (i : ℕ) × (i < length sectors) × ((slice_index_or sectors i no_sector).0 ≡ number)
