use Rattle.std.proofs.Common.{rules, refl}
use Rattle.report.proofs.parse.parse_create.Goals as goal

pub returns-in_err-name-clause-unsaid : goal.returns-in_err-name-clause-unsaid
returns-in_err-name-clause-unsaid c = λ _. c.in_err-name.ensures.unsaid refl

pub returns-clause-said : goal.returns-clause-said
returns-clause-said c = search rules
