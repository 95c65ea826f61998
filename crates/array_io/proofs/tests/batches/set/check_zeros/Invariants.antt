-- The rows so far are rows of zeros, and of the set.
use Rattle.std.proofs.Common.{◌≡◌, ◌<◌, ℕ, slice_index_or}
use Rattle.layout_map.specs.Placement.{rows_of}
use Rattle.entry_runs.specs.Built.{runs_in}
use Rattle.entry_runs.specs.WrittenOut.{masks_of_runs, rows_of_runs}
use Rattle.array_io.proofs.tests.batches.set.check_zeros.Given as goal

abbrev pub invariant-loop-i : goal.invariant-loop-i
invariant-loop-i g l = record {
  zeros : (k : ℕ) → k < l.i → slice_index_or (masks_of_runs (runs_in l.rows)) k 0 ≡ 0;
  of_set : (k : ℕ) → k < l.i → slice_index_or (rows_of_runs (runs_in l.rows)) k 0 < rows_of l.table.geometry.chunk l.table.geometry.stripes;
}
