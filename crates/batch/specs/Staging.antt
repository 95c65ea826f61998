-- What a batch keeps, and what staging sectors does.
use Rattle.std.specs.Prelude.{◌≡◌, ◌≢◌, ◌⊎◌, ℕ, ◌+◌, ◌<◌, ◌≤◌, ◌==◌, ◌&&◌, Bool, true, false, List, [], length, take, slice_index_or}
use Rattle.std.specs.List.{list_any}
use Rattle.std.specs.List.Sorted.{IsStrictlyIncreasing}
use Rattle.sector_model.specs.History.{Bytes}
use Rattle.layout_map.specs.declared.format.Format.{Format}
use Rattle.layout_map.specs.declared.format.Format.TheVariants.{One, Two}
use Rattle.layout_map.specs.declared.geometry.Geometry.{Geometry}
use Rattle.layout_map.specs.Placement.{data_sectors_of}
use Rattle.entry_runs.specs.declared.run.Run.{Run}
use Rattle.entry_runs.specs.Body.{has_bit}
use Rattle.entry_runs.specs.Runs.{FitEntry}
use Rattle.entry_runs.specs.WrittenOut.{masks_of_runs, rows_of_runs}
use Rattle.batch.specs.declared.placed.Placed.{Placed}
use Rattle.batch.specs.declared.places.TheConstants.{MOST_PLACES}
use Rattle.batch.specs.Places.{AreApart, AreOfSet, ArePlacesOf, ArePlanned, Given, HasParityOn, LiesAt, bytes_at, logical_at, placed_at, row_of}

-- the most sectors of an entry of a set of this format
abbrev pub most_of : Format → ℕ
most_of One = 32
most_of Two = MOST_PLACES

-- one of some sectors, with its bytes
abbrev pub sector_at : Given → ℕ → ℕ × Bytes
sector_at sectors k = slice_index_or sectors k (0, [])

-- the first of some sectors, as many as have a place
abbrev pub first_of : List Placed → Given → Given
first_of places all = take (length places) all

-- The first of some sectors are of the set, none twice, and these are their places.
pub record AreHeld (geometry : Geometry) (all : Given) (places : List Placed) : Type 0 where
  pub placed : ArePlacesOf geometry (first_of places all) places
  pub of_set : AreOfSet geometry (first_of places all)
  pub apart : AreApart (first_of places all)

-- the logical sector is one of the first so many of these
pub record HasLogical (sectors : Given) (count logical : ℕ) : Type 0 where
  pub which : ℕ
  pub within : which < count
  pub is : logical_at sectors which ≡ logical

-- this sector, with its bytes, is one of these
pub record HasSector (sectors : Given) (sector : ℕ × Bytes) : Type 0 where
  pub which : ℕ
  pub within : which < length sectors
  pub is : sector_at sectors which ≡ sector

-- Sectors are staged: those that waited have their numbers still, each with the bytes that are given for it, or its own where none are; after them come those
-- that are given and did not wait. None is there twice.
pub record IsStaged (old given new : Given) : Type 0 where
  pub least : length old ≤ length new
  pub most : length new ≤ length old + length given
  pub kept : (k : ℕ) → k < length old → logical_at new k ≡ logical_at old k
  pub taken : (i : ℕ) → i < length given → HasSector new (sector_at given i)
  pub only : (k : ℕ) → k < length new → (k < length old) ⊎ HasLogical given (length given) (logical_at new k)
  pub others : (k : ℕ) → k < length old → ¬ HasLogical given (length given) (logical_at old k) → bytes_at new k ≡ bytes_at old k
  pub apart : AreApart new

-- One more sector has a place after those that have one, unless it has one already. Where the answer is false, as many as may have one did.
pub record IsAdded (geometry : Geometry) (limit : ℕ) (sector : ℕ × Bytes) (old new : Given) (places more : List Placed) (result : Bool) : Type 0 where
  pub held : AreHeld geometry new more
  pub least : length places ≤ length more
  pub most : length more ≤ length places + 1
  pub within : length places ≤ limit → length more ≤ limit
  pub kept : (k : ℕ) → k < length places → sector_at new k ≡ sector_at old k
  pub has : result ≡ true → HasLogical new (length more) sector.0
  pub only : (k : ℕ) → length places ≤ k → k < length more → logical_at new k ≡ sector.0
  pub full : result ≡ false → limit ≤ length places
  pub none : result ≡ false → ¬ HasLogical old (length places) sector.0

-- The first so many given sectors have places after those that have one, where they had none.
pub record AreAdded (geometry : Geometry) (limit : ℕ) (given : Given) (count : ℕ) (old new : Given) (places more : List Placed) : Type 0 where
  pub held : AreHeld geometry new more
  pub least : length places ≤ length more
  pub most : length more ≤ length places + count
  pub within : length places ≤ limit → length more ≤ limit
  pub kept : (k : ℕ) → k < length places → sector_at new k ≡ sector_at old k
  pub has : (i : ℕ) → i < count → HasLogical new (length more) (logical_at given i)
  pub only : (k : ℕ) → length places ≤ k → k < length more → HasLogical given count (logical_at new k)

-- There is no room for one of the given sectors, which does not wait yet: with those before it as many have a place as may have one.
pub record IsFull (geometry : Geometry) (limit : ℕ) (given old : Given) (places : List Placed) : Type 0 where
  pub count : ℕ
  pub inside : count < length given
  pub mid : Given
  pub more : List Placed
  pub added : AreAdded geometry limit given count old mid places more
  pub full : limit ≤ length more
  pub none : ¬ HasLogical mid (length more) (logical_at given count)

-- No entry of the set could have all that would wait.
abbrev pub NoneFits : Geometry → (old given : Given) → Type 0
NoneFits geometry old given = (new : Given) (places : List Placed) (fit : List Run) → IsStaged old given new → length new ≤ most_of geometry.format
    → ArePlacesOf geometry new places → FitEntry fit → ¬ ArePlanned geometry places (rows_of_runs fit) (masks_of_runs fit)

-- Where one of so many sectors that wait is this one, its bytes are put there.
pub record IsPut (sector : ℕ × Bytes) (count : ℕ) (old new : Given) : Type 0 where
  pub same : (k : ℕ) → k < count → logical_at new k ≡ logical_at old k
  pub put : (k : ℕ) → k < count → logical_at old k ≡ sector.0 → bytes_at new k ≡ sector.1
  pub others : (k : ℕ) → k < count → logical_at old k ≢ sector.0 → bytes_at new k ≡ bytes_at old k

-- So are the bytes of the first so many given sectors.
pub record ArePut (given : Given) (first count : ℕ) (old new : Given) : Type 0 where
  pub same : (k : ℕ) → k < count → logical_at new k ≡ logical_at old k
  pub put : (i k : ℕ) → i < first → k < count → logical_at old k ≡ logical_at given i → bytes_at new k ≡ bytes_at given i
  pub others : (k : ℕ) → k < count → ((i : ℕ) → i < first → logical_at old k ≢ logical_at given i) → bytes_at new k ≡ bytes_at old k

-- tests of places and rows, so that a batch has one proof of what it keeps

abbrev pub has_place : List Placed → (k : ℕ) → Bool
has_place places k = list_any (λ place. place.at == k) places

abbrev pub has_row : List ℕ → (row : ℕ) → Bool
has_row rows row = list_any (λ other. other == row) rows

abbrev pub is_touched : List Placed → (row : ℕ) → Bool
is_touched places row = list_any (λ place. place.row == row) places

abbrev pub is_placed : List Placed → (row member : ℕ) → Bool
is_placed places row member = list_any (λ place. (place.row == row) && (place.member == member)) places

-- the places of the first of some sectors, which rise, are those of `AreHeld`
pub record KeepsPlaces (geometry : Geometry) (all : Given) (places : List Placed) : Type 0 where
  pub long : length all ≡ MOST_PLACES
  pub as_many : length places ≤ most_of geometry.format
  pub within : (j : ℕ) → j < length places → (placed_at places j).at < length places
  pub lies : (j : ℕ) → j < length places → LiesAt geometry (logical_at all (placed_at places j).at) (placed_at places j).row (placed_at places j).member
  pub each : (k : ℕ) → k < length places → has_place places k ≡ true
  pub of_set : (k : ℕ) → k < length places → logical_at all k < data_sectors_of geometry.members geometry.chunk geometry.stripes
  pub apart : (i j : ℕ) → i < j → j < length places → logical_at all i ≢ logical_at all j

-- rows and masks are those of `ArePlanned`
pub record KeepsPlan (geometry : Geometry) (places : List Placed) (rows masks : List ℕ) : Type 0 where
  pub rising : IsStrictlyIncreasing rows
  pub as_many : length masks ≡ length rows
  pub few : length rows ≤ length places
  pub each : (j : ℕ) → j < length places → has_row rows (placed_at places j).row ≡ true
  pub only : (i : ℕ) → i < length rows → is_touched places (row_of rows i) ≡ true
  pub data_bit : (i member : ℕ) → i < length rows → is_placed places (row_of rows i) member ≡ true → has_bit (slice_index_or masks i 0) member ≡ true
  pub parity_bit : (i member : ℕ) → i < length rows → HasParityOn geometry (row_of rows i) member → has_bit (slice_index_or masks i 0) member ≡ true
  pub no_bit : (i member : ℕ) → i < length rows → has_bit (slice_index_or masks i 0) member ≡ true → is_placed places (row_of rows i) member ≡ false
      → HasParityOn geometry (row_of rows i) member
