-- Each so far follows the one before.
use Rattle.std.proofs.Common.{ℕ, suc, ◌<◌}
use Rattle.entry_runs.specs.Runs.{Follows, run_at}
use Rattle.entry_runs.proofs.checks.each_follows.Given as goal

abbrev pub invariant-loop-next : goal.invariant-loop-next
invariant-loop-next l = (k : ℕ) → suc k < l.next → Follows (run_at l.runs k) (run_at l.runs (suc k))
