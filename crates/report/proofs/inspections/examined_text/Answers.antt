use Rattle.std.proofs.Common.{◌+◌, ◌++◌, List, ℕ, codes, ap, ◌∙◌}
use Rattle.report.specs.Inspections.{examined_lines, outlook_text}
use Rattle.report.proofs.InspectionLemmas.{same_lines}
use Rattle.report.proofs.inspections.examined_text.Goals as goal

pub returns-clause-text : goal.returns-clause-text
returns-clause-text c = λ status is.
    let its = c.args.examined.now in
    c.in_ok-push_str.ensures.bytes
    ∙ ap (λ (text : List ℕ). text ++ codes "\n") (c.in_ok-write_outlook.ensures
    ∙ ap (λ (text : List ℕ). text ++ outlook_text its.outlook) (c.in_ok-write_slots.ensures
    ∙ ap (λ (text : List ℕ). text ++ examined_lines its (its.table.geometry.members + 2))
    (c.in_ok-text.ensures ∙ same_lines its.table c.status_of-status.result status c.status_of-status.ensures is)))
