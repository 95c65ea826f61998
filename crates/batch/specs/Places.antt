-- Where logical sectors that are written together lie, and the rows that change.
use Rattle.std.specs.Prelude.{◌≡◌, ◌≢◌, ◌⊎◌, ◌↔◌, ℕ, ◌<◌, ◌≤◌, true, List, [], length, slice_index_or}
use Rattle.std.specs.List.Sorted.{IsStrictlyIncreasing}
use Rattle.sector_model.specs.History.{Bytes}
use Rattle.layout_map.specs.declared.geometry.Geometry.{Geometry}
use Rattle.layout_map.specs.Placement.{IsParityOf, IsPlace, data_sectors_of}
use Rattle.entry_runs.specs.Body.{has_bit}
use Rattle.batch.specs.declared.placed.Placed.{Placed}

-- logical sectors that are written, each with its bytes
abbrev pub Given : Type 0
Given = List (ℕ × Bytes)

-- the number of one of them, and its bytes
abbrev pub logical_at : Given → ℕ → ℕ
logical_at sectors k = (slice_index_or sectors k (0, [])).0

abbrev pub bytes_at : Given → ℕ → Bytes
bytes_at sectors k = (slice_index_or sectors k (0, [])).1

-- no logical sector is given twice
abbrev pub AreApart : Given → Type 0
AreApart sectors = (i j : ℕ) → i < j → j < length sectors → logical_at sectors i ≢ logical_at sectors j

-- the given sectors are of the set
abbrev pub AreOfSet : Geometry → Given → Type 0
AreOfSet geometry sectors = (k : ℕ) → k < length sectors → logical_at sectors k < data_sectors_of geometry.members geometry.chunk geometry.stripes

-- the logical sector lies on this member in this row
abbrev pub LiesAt : Geometry → (logical row member : ℕ) → Type 0
LiesAt geometry logical row member = IsPlace geometry.members geometry.chunk logical member row

-- the row's parity is on this member
abbrev pub HasParityOn : Geometry → (row member : ℕ) → Type 0
HasParityOn geometry row member = IsParityOf geometry.members geometry.chunk row member

-- one of some places
abbrev pub placed_at : List Placed → ℕ → Placed
placed_at places j = slice_index_or places j (record { row = 0; member = 0; at = 0 })

-- a place comes before another in a body: by row, and in a row by member
abbrev pub IsBefore : Placed → Placed → Type 0
IsBefore place other = (place.row < other.row) ⊎ ((place.row ≡ other.row) × (place.member < other.member))

-- each place comes before the next
abbrev pub AreRising : List Placed → Type 0
AreRising places = (i j : ℕ) → i < j → j < length places → IsBefore (placed_at places i) (placed_at places j)

-- one of the places is that of the given sector k
pub record HasPlaceOf (places : List Placed) (k : ℕ) : Type 0 where
  pub place : ℕ
  pub within : place < length places
  pub is : (placed_at places place).at ≡ k

-- The places of given sectors, in the order in which a body has them. Each given sector has one.
pub record ArePlacesOf (geometry : Geometry) (sectors : Given) (places : List Placed) : Type 0 where
  pub as_many : length places ≡ length sectors
  pub rising : AreRising places
  pub within : (j : ℕ) → j < length places → (placed_at places j).at < length sectors
  pub lies : (j : ℕ) → j < length places → LiesAt geometry (logical_at sectors (placed_at places j).at) (placed_at places j).row (placed_at places j).member
  pub each : (k : ℕ) → k < length sectors → HasPlaceOf places k

-- a data sector of the set lies there
pub record IsDataPlace (geometry : Geometry) (row member : ℕ) : Type 0 where
  pub logical : ℕ
  pub below : logical < data_sectors_of geometry.members geometry.chunk geometry.stripes
  pub lies : LiesAt geometry logical row member

-- so it is at each of some places
abbrev pub AreDataPlaces : Geometry → List Placed → Type 0
AreDataPlaces geometry places = (j : ℕ) → j < length places → IsDataPlace geometry (placed_at places j).row (placed_at places j).member

-- the i-th of some rows, and of their masks
abbrev pub row_of : List ℕ → ℕ → ℕ
row_of rows i = slice_index_or rows i 0

-- the row is one of these
pub record HasRow (rows : List ℕ) (row : ℕ) : Type 0 where
  pub place : ℕ
  pub within : place < length rows
  pub is : row_of rows place ≡ row

-- one of the places is in this row
pub record IsTouched (places : List Placed) (row : ℕ) : Type 0 where
  pub place : ℕ
  pub within : place < length places
  pub is : (placed_at places place).row ≡ row

-- one of the places is this member's in this row
pub record IsPlaced (places : List Placed) (row member : ℕ) : Type 0 where
  pub place : ℕ
  pub within : place < length places
  pub in_row : (placed_at places place).row ≡ row
  pub on_member : (placed_at places place).member ≡ member

-- The rows of places, rising, and the masks of what a commit of them changes there: the members that have a place, and that of the row's parity.
pub record ArePlanned (geometry : Geometry) (places : List Placed) (rows masks : List ℕ) : Type 0 where
  pub rising : IsStrictlyIncreasing rows
  pub as_many : length masks ≡ length rows
  pub few : length rows ≤ length places
  pub each : (j : ℕ) → j < length places → HasRow rows (placed_at places j).row
  pub only : (i : ℕ) → i < length rows → IsTouched places (row_of rows i)
  pub bits : (i member : ℕ) → i < length rows
      → (has_bit (slice_index_or masks i 0) member ≡ true) ↔ (IsPlaced places (row_of rows i) member ⊎ HasParityOn geometry (row_of rows i) member)
