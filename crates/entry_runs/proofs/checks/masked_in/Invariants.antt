-- The rows of all runs are those so far and those of the runs that are left.
use Rattle.std.proofs.Common.{◌≡◌, ◌+◌, ◌*◌, ◌≤◌, drop}
use Rattle.entry_runs.specs.Runs.{masked_in}
use Rattle.entry_runs.proofs.checks.masked_in.Given as goal

abbrev pub invariant-loop-run : goal.invariant-loop-run
invariant-loop-run l = record {
  sum : masked_in l.runs ≡ l.rows + masked_in (drop l.run-index l.runs);
  most : l.rows ≤ 65536 * l.run-index;
}
