use Rattle.std.proofs.Common.{refl}
use Rattle.requests.proofs.parse.parse_on_set.Goals as goal

pub returns-in_err-one_number-in-Fail-clause-unsaid : goal.returns-in_err-one_number-in-Fail-clause-unsaid
returns-in_err-one_number-in-Fail-clause-unsaid c = λ _ demand are.
    let h = rw c.in-Fail.is at are in
    c.in_err-one_number-in-Fail.ensures.unsaid refl h.0 h.1

pub returns-in_err-one_number-in-Replace-clause-unsaid : goal.returns-in_err-one_number-in-Replace-clause-unsaid
returns-in_err-one_number-in-Replace-clause-unsaid c = λ _ demand are.
    let h = rw c.in-Replace.is at are in
    c.in_err-one_number-in-Replace.ensures.unsaid refl h.0 h.1

pub returns-in_err-one_number-in-Rebuild-clause-unsaid : goal.returns-in_err-one_number-in-Rebuild-clause-unsaid
returns-in_err-one_number-in-Rebuild-clause-unsaid c = λ _ demand are.
    let h = rw c.in-Rebuild.is at are in
    c.in_err-one_number-in-Rebuild.ensures.unsaid refl h.0 h.1

pub returns-in_err-one_number-in-Scrub-clause-unsaid : goal.returns-in_err-one_number-in-Scrub-clause-unsaid
returns-in_err-one_number-in-Scrub-clause-unsaid c = λ _ demand are.
    let h = rw c.in-Scrub.is at are in
    c.in_err-one_number-in-Scrub.ensures.unsaid refl h.0 h.1
