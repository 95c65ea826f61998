-- Whole rows of a set that one entry makes zero.
use Rattle.std.specs.Prelude.{◌≡◌, ℕ, zero, suc, ◌+◌, ◌*◌, ◌/◌, ◌%◌, ◌<◌, ◌≤◌, ◌==◌, ◌||◌, Bool, false, if◌then◌else◌, List, [], ◌∷◌, length, slice_index_or}
use Rattle.sector_model.specs.History.{Bytes}
use Rattle.layout_map.specs.declared.format.Format.TheVariants.{Two}
use Rattle.layout_map.specs.declared.geometry.Geometry.{Geometry}
use Rattle.layout_map.specs.Placement.{data_sectors_of, rows_of, stripe_of_chunk}
use Rattle.parity.specs.Xor.{zero_sector}
use Rattle.entry_runs.specs.declared.run.Run.{Run}
use Rattle.entry_runs.specs.WrittenOut.{masks_of_runs, rows_of_runs}
use Rattle.superblock.specs.declared.table.Table.{Table}

-- the row of a logical sector's place
abbrev pub row_of_logical : Geometry → (logical : ℕ) → ℕ
row_of_logical geometry logical = stripe_of_chunk geometry.members (logical / geometry.chunk) * geometry.chunk + logical % geometry.chunk

-- the row is one of these
abbrev pub is_row : List ℕ → (row : ℕ) → Bool
is_row [] row = false
is_row (first ∷ rows) row = (first == row) || is_row rows row

-- of the first so many logical sectors those in these rows, each with zeros
unfoldable pub zeros_below : Geometry → (rows : List ℕ) → (count : ℕ) → List (ℕ × Bytes)
zeros_below geometry rows zero = []
zeros_below geometry rows (suc logical) =
    if is_row rows (row_of_logical geometry logical) then (logical, zero_sector) ∷ zeros_below geometry rows logical else zeros_below geometry rows logical

-- all data sectors of these rows, each with zeros
abbrev pub zeros_in : Geometry → (rows : List ℕ) → List (ℕ × Bytes)
zeros_in geometry rows = zeros_below geometry rows (data_sectors_of geometry.members geometry.chunk geometry.stripes)

-- the condition of `commit_zeros`: runs of zeros, with one row at least, of a set of format 2
pub record MayZero (table : Table) (runs : List Run) : Type 0 where
  pub of_format : table.geometry.format ≡ Two
  pub some : 1 ≤ length (rows_of_runs runs)
  pub zeros : (i : ℕ) → i < length (rows_of_runs runs) → slice_index_or (masks_of_runs runs) i 0 ≡ 0
  pub of_set : (i : ℕ) → i < length (rows_of_runs runs) → slice_index_or (rows_of_runs runs) i 0 < rows_of table.geometry.chunk table.geometry.stripes
