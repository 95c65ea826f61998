use Rattle.std.proofs.Common.{◌≡◌, ◌≢◌, rules, Ok}
use Rattle.device_files.proofs.opening.leads_to.Goals as goal

pub returns-in_default-clause-apart : goal.returns-in_default-clause-apart
returns-in_default-clause-apart g c = λ _. (c.place_at.result, c.place_of.result, c.place_at.ensures, c.place_of.ensures, λ place there here. cc)

pub returns-in_default-2-clause-apart : goal.returns-in_default-2-clause-apart
returns-in_default-2-clause-apart g c = λ _. (c.place_at.result, c.place_of.result, c.place_at.ensures, c.place_of.ensures, λ place there here. cc)

pub returns-clause-same : goal.returns-clause-same
returns-clause-same g c = λ yes.
    let one : c.in-Ok-Ok.there ≡ c.in-Ok-Ok.here = search rules in
    (c.in-Ok-Ok.there, c.in-Ok-Ok.ensures, rw one c.in-Ok-Ok.ensures')

pub returns-clause-apart : goal.returns-clause-apart
returns-clause-apart g c = λ no.
    let differ : c.in-Ok-Ok.there ≢ c.in-Ok-Ok.here = search rules in
    (Ok c.in-Ok-Ok.there, Ok c.in-Ok-Ok.here, c.in-Ok-Ok.ensures, c.in-Ok-Ok.ensures', λ place there here. differ cc)
