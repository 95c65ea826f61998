-- The row is one of the runs that are left.
use Rattle.std.proofs.Common.{drop}
use Rattle.entry_runs.proofs.Listings.{IsAmong}
use Rattle.entry_runs.proofs.listed.listed_in.Given as goal

abbrev pub invariant-loop-run : goal.invariant-loop-run
invariant-loop-run l = IsAmong l.runs (drop l.run-index l.runs) l.i l.left l.before
