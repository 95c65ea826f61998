-- The rows that a commit forms.
use Rattle.std.specs.Prelude.{◌≡◌, ℕ, ◌<◌, List, [], length, slice_index_or}
use Rattle.std.specs.List.Sorted.{IsStrictlyIncreasing}
use Rattle.sector_model.specs.History.{Bytes}
use Rattle.layout_map.specs.declared.geometry.Geometry.{Geometry}
use Rattle.layout_map.specs.Placement.{rows_of, data_sectors_of, IsPlace}
use Rattle.parity.specs.Xor.{IsSoundRow}
use Rattle.stripe_journal.specs.Seals.{row_at}
use Rattle.degraded.specs.RowValue.{Rows, logical_list}
use Rattle.array_io.specs.Believed.ArrayCalls.{written}
use Rattle.array_io.specs.Believed.ZeroRows.{row_of_logical}
pub use Rattle.array_io.specs.Believed.ZeroRows.{row_of_logical}

-- the row is one of these
pub record IsAmong (rows : List ℕ) (row : ℕ) : Type 0 where
  pub place : ℕ
  pub within : place < length rows
  pub is : row_at rows place ≡ row

-- The rows of the sectors, each below the next, and for each row the new sectors of all members: the data sectors are those of the
-- logical list with the sectors written, and the rows are sound.
pub record IsFormed (geometry : Geometry) (base : Rows) (sectors : List (ℕ × Bytes)) (rows : List ℕ) (values : List (List Bytes)) : Type 0 where
  pub long : length values ≡ length rows
  pub rising : IsStrictlyIncreasing rows
  pub below : (i : ℕ) → i < length rows → row_at rows i < rows_of geometry.chunk geometry.stripes
  pub wide : (i : ℕ) → i < length rows → length (slice_index_or values i []) ≡ geometry.members
  pub data_sectors : (i member logical : ℕ) → i < length rows → logical < data_sectors_of geometry.members geometry.chunk geometry.stripes
      → IsPlace geometry.members geometry.chunk logical member (row_at rows i)
      → slice_index_or (slice_index_or values i []) member [] ≡ slice_index_or (written (logical_list geometry base) sectors) logical []
  pub sound : (i : ℕ) → i < length rows → IsSoundRow (slice_index_or values i [])
  pub among : (k : ℕ) → k < length sectors → IsAmong rows (row_of_logical geometry (slice_index_or sectors k (0, [])).0)
