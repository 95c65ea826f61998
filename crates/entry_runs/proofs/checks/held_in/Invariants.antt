-- The sectors of all runs are those so far and those of the runs that are left.
use Rattle.std.proofs.Common.{◌≡◌, ◌+◌, ◌*◌, ◌≤◌, drop}
use Rattle.entry_runs.specs.Runs.{held_in}
use Rattle.entry_runs.proofs.checks.held_in.Given as goal

abbrev pub invariant-loop-run : goal.invariant-loop-run
invariant-loop-run l = record {
  sum : held_in l.runs ≡ l.sectors + held_in (drop l.run-index l.runs);
  most : l.sectors ≤ 524288 * l.run-index;
}
