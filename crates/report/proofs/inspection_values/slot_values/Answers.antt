use Rattle.std.proofs.Common.{◌++◌, ◌∷◌, [], List, map, ap, ◌∙◌, add-one}
use Rattle.std.proofs.lemmas.List.{map-append}
use Rattle.serde_json.specs.Data.{Data}
use Rattle.serde_json.specs.View.{view}
use Rattle.report.specs.Inspections.{inspection_slot_json}
use Rattle.report.proofs.inspection_values.slot_values.Goals as goal

pub loop-slot-preserved : goal.loop-slot-preserved
loop-slot-preserved c =
    let its = c.args.examined.now in
    let one : List Data = inspection_slot_json its c.loop-slot.slot ∷ [] in
    rw add-one (ap (map view) c.in_ok-push.ensures.items
    ∙ map-append view c.loop-slot.values.items (c.in_ok-slot_value.field-0 ∷ [])
    ∙ ap (λ (value : Data). map view c.loop-slot.values.items ++ value ∷ []) c.in_ok-slot_value.ensures
    ∙ ap (λ (values : List Data). values ++ one) c.loop-slot.invariant)
