-- The row is in no run so far, and what those hold is counted.
use Rattle.std.proofs.Common.{◌≡◌, ◌+◌, drop}
use Rattle.entry_runs.specs.Body.{in_body, rank}
use Rattle.entry_runs.specs.Runs.{held_in}
use Rattle.entry_runs.proofs.runs.Runs.place_in_body.Given as goal

abbrev pub invariant-loop-run : goal.invariant-loop-run
invariant-loop-run l = record {
  left : in_body l.runs l.row l.member ≡ in_body (drop l.run-index l.runs) l.row l.member;
  place : rank l.runs l.row l.member ≡ l.before + rank (drop l.run-index l.runs) l.row l.member;
  sum : held_in l.runs ≡ l.before + held_in (drop l.run-index l.runs);
}
