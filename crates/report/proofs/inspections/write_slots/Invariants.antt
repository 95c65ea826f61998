-- the lines of the slots so far were appended
use Rattle.std.proofs.Common.{◌≡◌, ◌++◌, string_bytes}
use Rattle.report.specs.Inspections.{examined_lines}
use Rattle.report.proofs.inspections.write_slots.Given as goal

abbrev pub invariant-loop-slot : goal.invariant-loop-slot
invariant-loop-slot l = string_bytes l.text ≡ string_bytes l.initial.text ++ examined_lines l.examined l.slot
