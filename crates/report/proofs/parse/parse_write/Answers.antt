use Rattle.std.proofs.Common.{refl}
use Rattle.report.proofs.parse.parse_write.Goals as goal

pub returns-in_err-name-clause-unsaid : goal.returns-in_err-name-clause-unsaid
returns-in_err-name-clause-unsaid c = λ _ name at all h.
    c.in_err-name.ensures.unsaid refl name at _ h.place
