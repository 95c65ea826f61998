-- Which of the members so far the table doesn't call missing.
use Rattle.array_io.specs.Steps.LiveByTable.{AreThere}
use Rattle.array_io.proofs.liveness.members_there.Given as goal

abbrev pub invariant-loop-member : goal.invariant-loop-member
invariant-loop-member l = AreThere l.table l.member l.live
