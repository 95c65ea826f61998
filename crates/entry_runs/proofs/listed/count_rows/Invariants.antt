-- The rows of all runs are those so far and those of the runs that are left.
use Rattle.std.proofs.Common.{◌≡◌, ◌+◌, ◌*◌, ◌≤◌, length, drop}
use Rattle.entry_runs.specs.WrittenOut.{rows_of_runs}
use Rattle.entry_runs.proofs.listed.count_rows.Given as goal

abbrev pub invariant-loop-run : goal.invariant-loop-run
invariant-loop-run l = record {
  sum : length (rows_of_runs l.runs) ≡ l.count + length (rows_of_runs (drop l.run-index l.runs));
  most : l.count ≤ 65535 * l.run-index;
}
