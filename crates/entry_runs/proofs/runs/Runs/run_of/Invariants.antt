-- The row is in no run so far.
use Rattle.std.proofs.Common.{◌≡◌, drop}
use Rattle.entry_runs.specs.Body.{run_of}
use Rattle.entry_runs.proofs.runs.Runs.run_of.Given as goal

abbrev pub invariant-loop-run : goal.invariant-loop-run
invariant-loop-run l = run_of l.runs l.row ≡ run_of (drop l.run-index l.runs) l.row
