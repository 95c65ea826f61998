use Rattle.std.proofs.Common.{◌≡◌, ℕ, zero, suc, Bool, true, false, ◌||◌, List, [], ◌∷◌, Option, None, Some, get_or, refl, ap}
use Rattle.sector_model.specs.declared.plan.TheConstants.Plan.{NONE}
use Rattle.sector_model.specs.Plans.{has_come}
use Rattle.sector_model.proofs.plan.Plan.none.Goals as goal

abbrev are_none : List (Option ℕ) → Bool
are_none [] = true
are_none (None ∷ moments) = are_none moments
are_none (Some first ∷ moments) = false

none_at : (moments : List (Option ℕ)) → are_none moments ≡ true → (d : ℕ) → get_or moments d None ≡ None
none_at [] none d = refl
none_at (None ∷ moments) none zero = refl
none_at (None ∷ moments) none (suc d) = none_at moments none d
none_at (Some first ∷ moments) none d = absurd (cc)

pub returns-clause-same : goal.returns-clause-same
returns-clause-same c = refl

pub returns-clause-stop : goal.returns-clause-stop
returns-clause-stop c = refl

pub returns-clause-never : goal.returns-clause-never
returns-clause-never c = λ dev call. ap (λ (moment : Option ℕ). has_come moment call || has_come None call) (none_at NONE.down refl dev)
