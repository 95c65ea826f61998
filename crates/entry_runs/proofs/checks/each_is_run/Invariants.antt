-- Each so far is a run.
use Rattle.std.proofs.Common.{ℕ, ◌<◌}
use Rattle.entry_runs.specs.Runs.{IsRun, run_at}
use Rattle.entry_runs.proofs.checks.each_is_run.Given as goal

abbrev pub invariant-loop-run : goal.invariant-loop-run
invariant-loop-run l = (k : ℕ) → k < l.run-index → IsRun (run_at l.runs k)
