use Rattle.std.proofs.Common.{refl}
use Rattle.requests.proofs.parse.parse_on_blocks.Goals as goal

pub returns-in_err-parse_stretch-in-Read-clause-unsaid : goal.returns-in_err-parse_stretch-in-Read-clause-unsaid
returns-in_err-parse_stretch-in-Read-clause-unsaid c = λ _ demand are.
    let h = rw c.in-Read.is at are in
    c.in_err-parse_stretch-in-Read.ensures.unsaid refl h.0 h.1 h.2 h.3

pub returns-in_err-parse_stretch-in-Write-clause-unsaid : goal.returns-in_err-parse_stretch-in-Write-clause-unsaid
returns-in_err-parse_stretch-in-Write-clause-unsaid c = λ _ demand are.
    let h = rw c.in-Write.is at are in
    c.in_err-parse_stretch-in-Write.ensures.unsaid refl h.0 h.1 h.2 h.3

pub returns-in_err-parse_stretch-in-Zero-clause-unsaid : goal.returns-in_err-parse_stretch-in-Zero-clause-unsaid
returns-in_err-parse_stretch-in-Zero-clause-unsaid c = λ _ demand are.
    let h = rw c.in-Zero.is at are in
    c.in_err-parse_stretch-in-Zero.ensures.unsaid refl h.0 h.1 h.2 h.3

pub returns-in_err-one_number-in-Together-clause-unsaid : goal.returns-in_err-one_number-in-Together-clause-unsaid
returns-in_err-one_number-in-Together-clause-unsaid c = λ _ demand are.
    let h = rw c.in-Together.is at are in
    c.in_err-one_number-in-Together.ensures.unsaid refl h.0 h.1
