-- What stands in an entry once the rows of given logical sectors are formed in it.
use Rattle.std.specs.Prelude.{◌≡◌, ◌↔◌, ℕ, ◌<◌, ◌≤◌, true, if◌then◌else◌, List, [], length, map, slice_index_or}
use Rattle.std.specs.List.{range_with_len}
use Rattle.std.specs.List.Sorted.{IsStrictlyIncreasing}
use Rattle.sector_model.specs.History.{Bytes}
use Rattle.layout_map.specs.declared.geometry.Geometry.{Geometry}
use Rattle.layout_map.specs.Placement.{data_sectors_of, rows_of}
use Rattle.layout_map.specs.declared.sizes.TheConstants.{MOST_MEMBERS}
use Rattle.parity.specs.Xor.{IsSoundRow}
use Rattle.entry_runs.specs.declared.run.Run.{Run}
use Rattle.entry_runs.specs.WrittenOut.{masks_of_runs, rows_of_runs}
use Rattle.batch.specs.declared.placed.Placed.{Placed}
use Rattle.batch.specs.Changes.{IsChanged, IsGiven}
use Rattle.batch.specs.Places.{AreApart, AreOfSet, ArePlacesOf, ArePlanned, AreRising, Given, HasParityOn, HasRow, LiesAt, bytes_at, logical_at, placed_at}
use Rattle.stripe_journal.specs.declared.entry.Entry.{Entry}
use Rattle.stripe_journal.specs.Entries.{numbers_of, row_mask, sector_at}
use Rattle.stripe_journal.specs.Forms.{has_bit}
use Rattle.stripe_journal.specs.Seals.{row_at}
pub use Rattle.batch.specs.Places.{AreApart, AreOfSet, Given, HasParityOn, HasRow, LiesAt, bytes_at, logical_at}
pub use Rattle.batch.specs.Changes.{IsChanged, IsGiven}

-- each of the given sectors lies in one of the rows
abbrev pub HaveRows : Geometry → Given → List ℕ → Type 0
HaveRows geometry sectors rows = (k row member : ℕ) → k < length sectors → LiesAt geometry (logical_at sectors k) row member → HasRow rows row

-- one of the given sectors lies in the row
pub record IsTouched (geometry : Geometry) (sectors : Given) (row : ℕ) : Type 0 where
  pub member : ℕ
  pub given : IsGiven geometry sectors row member

-- the logical sector is one of those given
pub record HasLogical (sectors : Given) (logical : ℕ) : Type 0 where
  pub which : ℕ
  pub within : which < length sectors
  pub is : logical_at sectors which ≡ logical

-- The entry holds of each of its rows the sectors that change, and no other.
abbrev pub HoldsChanged : Geometry → Given → Entry → Type 0
HoldsChanged geometry sectors entry = (i member : ℕ) → i < length (numbers_of entry)
    → (has_bit (row_mask entry i) member ≡ true) ↔ IsChanged geometry sectors (row_at (numbers_of entry) i) member

-- the rows are of the set
abbrev pub AreRowsOfSet : Geometry → List ℕ → Type 0
AreRowsOfSet geometry rows = (i : ℕ) → i < length rows → row_at rows i < rows_of geometry.chunk geometry.stripes

-- The rows of the given sectors: rows of the set, each below the next; those in which a given sector lies, and no other.
pub record AreRowsOf (geometry : Geometry) (sectors : Given) (rows : List ℕ) : Type 0 where
  pub least : 1 ≤ length rows
  pub few : length rows ≤ length sectors
  pub rising : IsStrictlyIncreasing rows
  pub of_set : AreRowsOfSet geometry rows
  pub each : HaveRows geometry sectors rows
  pub only : (i : ℕ) → i < length rows → IsTouched geometry sectors (row_at rows i)

-- The given sectors have these places, and the rows that a commit of them changes are those of these runs.
pub record IsPlanned (geometry : Geometry) (sectors : Given) (places : List Placed) (runs : List Run) : Type 0 where
  pub placed : ArePlacesOf geometry sectors places
  pub planned : ArePlanned geometry places (rows_of_runs runs) (masks_of_runs runs)

-- The entry holds a sector at each of these places, and each is that of one of the given sectors.
pub record HasRoomFor (sectors : Given) (places : List Placed) (entry : Entry) : Type 0 where
  pub rising : AreRising places
  pub within : (j : ℕ) → j < length places → (placed_at places j).at < length sectors
  pub members : (j : ℕ) → j < length places → (placed_at places j).member < MOST_MEMBERS
  pub rows : IsStrictlyIncreasing (numbers_of entry)
  pub each : (j : ℕ) → j < length places → HasRow (numbers_of entry) (placed_at places j).row
  pub held : (i j : ℕ) → i < length (numbers_of entry) → j < length places → row_at (numbers_of entry) i ≡ (placed_at places j).row
      → has_bit (row_mask entry i) (placed_at places j).member ≡ true

-- The entry has the given sector at each of the first so many places.
abbrev pub HasPut : (sectors : Given) (places : List Placed) (count : ℕ) → Entry → Type 0
HasPut sectors places count entry = (i j : ℕ) → i < length (numbers_of entry) → j < count → row_at (numbers_of entry) i ≡ (placed_at places j).row
    → sector_at entry i (placed_at places j).member ≡ bytes_at sectors (placed_at places j).at

-- one of the rows from the i-th on is this one
pub record HasRowFrom (rows : List ℕ) (i row : ℕ) : Type 0 where
  pub place : ℕ
  pub from : i ≤ place
  pub within : place < length rows
  pub is : row_at rows place ≡ row

-- Each given sector stands at its place in the entry.
abbrev pub HoldsGiven : Geometry → Given → Entry → Type 0
HoldsGiven geometry sectors entry = (k i member : ℕ) → k < length sectors → i < length (numbers_of entry)
    → LiesAt geometry (logical_at sectors k) (row_at (numbers_of entry) i) member → sector_at entry i member ≡ bytes_at sectors k

-- The sectors of all members in a row are those of a list: each data sector is the logical sector that lies there, and the row is sound.
pub record IsListedRow (geometry : Geometry) (logical : List Bytes) (row : ℕ) (values : List Bytes) : Type 0 where
  pub long : length values ≡ geometry.members
  pub whole : (member : ℕ) → member < geometry.members → length (slice_index_or values member []) ≡ 512
  pub data_listed : (k member : ℕ) → k < data_sectors_of geometry.members geometry.chunk geometry.stripes → LiesAt geometry k row member
      → slice_index_or values member [] ≡ slice_index_or logical k []
  pub sound : IsSoundRow values

-- A member's sector in a row is the list's: that of the logical sector that lies there, or the parity of those of the row.
abbrev pub IsListed : Geometry → (logical : List Bytes) → (row member : ℕ) → Bytes → Type 0
IsListed geometry logical row member value = (values : List Bytes) → IsListedRow geometry logical row values → value ≡ slice_index_or values member []

-- a member's sector of the i-th row as the entry holds it, and where it doesn't, that of these
abbrev pub sector_with : Entry → (i : ℕ) → (values : List Bytes) → (member : ℕ) → Bytes
sector_with entry i values member = if has_bit (row_mask entry i) member then sector_at entry i member else slice_index_or values member []

-- the i-th row with what the entry holds of it, and these sectors elsewhere
abbrev pub row_with : (members : ℕ) → Entry → (i : ℕ) → (values : List Bytes) → List Bytes
row_with members entry i values = map (sector_with entry i values) (range_with_len 0 members)

-- the i-th row with what the entry holds of it, and the list's sectors elsewhere, is sound
abbrev pub HasSoundRow : Geometry → (logical : List Bytes) → Entry → (i row : ℕ) → Type 0
HasSoundRow geometry logical entry i row = (values : List Bytes) → IsListedRow geometry logical row values
    → IsSoundRow (row_with geometry.members entry i values)

-- The rows of the given sectors are formed in the entry from a list: it holds the new data and the parity, and with the other data as the list has it each row
-- is sound.
pub record FormsListed (geometry : Geometry) (sectors : Given) (logical : List Bytes) (entry : Entry) : Type 0 where
  pub rows : AreRowsOf geometry sectors (numbers_of entry)
  pub held : HoldsChanged geometry sectors entry
  pub given : HoldsGiven geometry sectors entry
  pub sound : (i : ℕ) → i < length (numbers_of entry) → HasSoundRow geometry logical entry i (row_at (numbers_of entry) i)
