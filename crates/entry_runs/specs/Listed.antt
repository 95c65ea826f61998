-- One of the rows that are written out.
use Rattle.std.specs.Prelude.{◌≡◌, ℕ, ◌+◌, ◌≤◌, List, take, slice_index_or, count_ones}
use Rattle.entry_runs.specs.declared.listed.ListedRow.{ListedRow}
use Rattle.entry_runs.specs.declared.run.Run.{Run}
use Rattle.entry_runs.specs.declared.sizes.TheConstants.{MOST_HELD}
use Rattle.entry_runs.specs.WrittenOut.{bits_in, masks_of_runs, rows_of_runs}

-- The i-th row of runs, with its mask, and how many sectors of a body the rows before it have. Its own are within the body.
pub record IsListed (runs : List Run) (i : ℕ) (listed : ListedRow) : Type 0 where
  pub row : listed.row ≡ slice_index_or (rows_of_runs runs) i 0
  pub mask : listed.mask ≡ slice_index_or (masks_of_runs runs) i 0
  pub before : listed.before ≡ bits_in (take i (masks_of_runs runs))
  pub within : listed.before + count_ones listed.mask ≤ MOST_HELD
