use Rattle.device_files.specs.Faults.{PassesBelow}
use Rattle.device_files.proofs.passing.tell_passed.Given as goal

abbrev pub invariant-loop-slot : goal.invariant-loop-slot
invariant-loop-slot g l = PassesBelow g.E.Write.contents l.barred l.slot l.initial.err l.err
