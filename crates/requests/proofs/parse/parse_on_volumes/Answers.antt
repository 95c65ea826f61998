use Rattle.std.proofs.Common.{refl}
use Rattle.requests.proofs.parse.parse_on_volumes.Goals as goal

pub returns-in_err-name-in-Create-clause-unsaid : goal.returns-in_err-name-in-Create-clause-unsaid
returns-in_err-name-in-Create-clause-unsaid c = λ _ demand are.
    let h = rw c.in-Create.is at are in
    c.in_err-name-in-Create.ensures.unsaid refl h.0 h.1 h.2

pub returns-in_err-name-in-Extend-clause-unsaid : goal.returns-in_err-name-in-Extend-clause-unsaid
returns-in_err-name-in-Extend-clause-unsaid c = λ _ demand are.
    let h = rw c.in-Extend.is at are in
    c.in_err-name-in-Extend.ensures.unsaid refl h.0 h.1 h.2
