use Rattle.std.proofs.Common.{◌≡◌, List, ℕ, [], ◌∷◌, refl, ap, ◌∙◌}
use Rattle.report.specs.Fields.{fields_left}
use Rattle.report.proofs.parse.fields.name_and_two_numbers.Goals as goal

pub returns-in_err-name-clause-unsaid : goal.returns-in_err-name-clause-unsaid
returns-in_err-name-clause-unsaid c = λ _ name at count h.
    c.in_err-name.ensures.unsaid refl name at _ h.place

pub returns-in-None-clause-said : goal.returns-in-None-clause-said
returns-in-None-clause-said c =
    let field = c.in_ok-next.field-0.now in
    let last : fields_left c.next_number.new.fields ≡ field ∷ [] =
    c.in_ok-next.ensures.steps ∙ ap (λ (rest : List (List ℕ)). field ∷ rest) c.in-None.ensures.steps.0 in
    record { count_field = field; place = rw last at c.in_ok-name.ensures.said; is_count = c.in_ok-count.ensures.said }
