use Rattle.std.proofs.Common.{◌++◌, List, ℕ, string_bytes, ap, ◌∙◌, add-one}
use Rattle.std.proofs.lemmas.List.{append_assoc}
use Rattle.report.specs.Inspections.{examined_line, examined_lines}
use Rattle.report.proofs.inspections.write_slots.Goals as goal

pub loop-slot-preserved : goal.loop-slot-preserved
loop-slot-preserved c =
    let its = c.args.examined.now in
    rw add-one (c.in_ok-write_slot.ensures ∙ ap (λ (text : List ℕ). text ++ examined_line its c.loop-slot.slot) c.loop-slot.invariant
    ∙ append_assoc (string_bytes c.args.text.now) (examined_lines its c.loop-slot.slot) (examined_line its c.loop-slot.slot))
