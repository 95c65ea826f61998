use Rattle.std.proofs.Common.{◌∙◌}
use Rattle.report.proofs.InspectionLemmas.{same_json}
use Rattle.report.proofs.inspection_values.examined_to_json.Goals as goal

pub returns-clause-value : goal.returns-clause-value
returns-clause-value c = λ status is.
    c.in_ok-value.ensures ∙ same_json c.args.examined.now.table c.status_of-status.result status c.status_of-status.ensures is c.args.examined.now
