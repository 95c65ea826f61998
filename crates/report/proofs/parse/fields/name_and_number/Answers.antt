use Rattle.std.proofs.Common.{refl}
use Rattle.report.proofs.parse.fields.name_and_number.Goals as goal

pub returns-in_err-sized-clause-unsaid : goal.returns-in_err-sized-clause-unsaid
returns-in_err-sized-clause-unsaid c = λ _ name count h.
    c.in_err-sized.ensures.unsaid refl name count _ h
