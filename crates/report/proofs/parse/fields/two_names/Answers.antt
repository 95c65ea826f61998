use Rattle.std.proofs.Common.{List, ℕ, [], ◌∷◌, refl, sym, ap, ◌∙◌}
use Rattle.report.proofs.parse.fields.two_names.Goals as goal

pub returns-in_err-first-clause-unsaid : goal.returns-in_err-first-clause-unsaid
returns-in_err-first-clause-unsaid c = λ _ first second h. c.in_err-first.ensures.unsaid refl first _ h.place

pub returns-in_err-second-clause-unsaid : goal.returns-in_err-second-clause-unsaid
returns-in_err-second-clause-unsaid c = λ _ first second h.
    let both = sym c.in_ok-first.ensures.said.spelled ∙ h.place.spelled in
    c.in_err-second.ensures.unsaid refl second [] (record { spelled = cc; is_name = h.is_name })

pub returns-in-None-clause-said : goal.returns-in-None-clause-said
returns-in-None-clause-said c =
    let one = c.in_ok-first.ensures.said in
    let other = c.in_ok-second.ensures.said in
    let first = c.in_ok-first.first.now in
    let second = c.in_ok-second.second.now in
    record {
      place = record {
        spelled = one.spelled ∙ ap (λ (rest : List (List ℕ)). first ∷ rest)
            (other.spelled ∙ ap (λ (rest : List (List ℕ)). second ∷ rest) c.in-None.ensures.steps.0);
        is_name = one.is_name;
      };
      is_name = other.is_name;
    }
