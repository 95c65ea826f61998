-- the objects of the slots so far
use Rattle.std.proofs.Common.{◌≡◌, map}
use Rattle.serde_json.specs.View.{view}
use Rattle.report.specs.Inspections.{inspection_slots_json}
use Rattle.report.proofs.inspection_values.slot_values.Given as goal

abbrev pub invariant-loop-slot : goal.invariant-loop-slot
invariant-loop-slot l = map view l.values.items ≡ inspection_slots_json l.examined l.slot
