use Rattle.std.proofs.Common.{refl}
use Rattle.report.proofs.parse.parse_read.Goals as goal

pub returns-in_err-name-clause-unsaid : goal.returns-in_err-name-clause-unsaid
returns-in_err-name-clause-unsaid c = λ _ name at count h. c.in_err-name.ensures.unsaid refl name at count h
