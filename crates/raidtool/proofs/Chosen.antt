-- The ids of the sets of a folder, one after another.
use Rattle.std.proofs.Common.{◌≡◌, ◌≢◌, ◌∙◌, inl, inr, refl, sym, ap, arith, ℕ, zero, suc, ◌-◌, List, [], ◌∷◌, ◌++◌, Option, Some, None, Ok}
use Rattle.std.specs.Prelude.{Result}
use Rattle.std.proofs.lemmas.List.{append_assoc, append-nil}
use Rattle.sector_model.specs.declared.refusal.Refusal.{Refusal}
use Rattle.recovery.specs.Making.{BankView}
use Rattle.recovery.specs.SetIds.{FindsIdAbove}
use Rattle.raidtool.specs.Choosing.{AppendsIds, FindsIdsAbove}

-- ---- said under a stronger premise

module _ (honest still : Type 0) (goes_on : honest → still) where
  finds_still : (above : Option (List ℕ)) (old new : BankView) (answer : Result (Option (List ℕ)) Refusal) → FindsIdAbove still above old new answer
      → FindsIdAbove honest above old new answer
  finds_still above old new answer is = record {
    later = is.later;
    reads = λ fair. is.reads (goes_on fair);
    one = λ fair. is.one (goes_on fair);
    kept = is.kept;
    least = λ fair. is.least (goes_on fair);
    cause = is.cause;
  }

  pub ids_still : (most : ℕ) (above : Option (List ℕ)) (old new : BankView) (ids : List (List ℕ)) → FindsIdsAbove still most above old new ids
      → FindsIdsAbove honest most above old new ids
  ids_still zero above old new ids is = is
  ids_still (suc most) above old new ids (inl (finds, none)) = inl (finds_still above old new (Ok None) finds, none)
  ids_still (suc most) above old new ids (inr is) = inr (record {
    id = is.id;
    found = is.found;
    rest = is.rest;
    finds = finds_still above old is.found (Ok (Some is.id)) is.finds;
    goes_on = ids_still most (Some is.id) is.found new is.rest is.goes_on;
    are = is.are;
  })

-- ---- one after another

module _ (honest : Type 0) where
  none_left : (most : ℕ) (above : Option (List ℕ)) (bank : BankView) → most ≡ 0 → FindsIdsAbove honest most above bank bank []
  none_left zero above bank is = (refl, refl)
  none_left (suc most) above bank is = absurd (omega (arith, is))

  none_above : (most : ℕ) (above : Option (List ℕ)) (old new : BankView) → most ≢ 0 → FindsIdAbove honest above old new (Ok None)
      → FindsIdsAbove honest most above old new []
  none_above zero above old new some finds = absurd (some refl)
  none_above (suc most) above old new some finds = inl (finds, refl)

  one_more : (most less : ℕ) (above : Option (List ℕ)) (id : List ℕ) (old found new : BankView) (rest : List (List ℕ)) → most ≢ 0 → less ≡ most - 1
      → FindsIdAbove honest above old found (Ok (Some id)) → FindsIdsAbove honest less (Some id) found new rest
      → FindsIdsAbove honest most above old new (id ∷ rest)
  one_more zero less above id old found new rest some is finds goes_on = absurd (some refl)
  one_more (suc most) less above id old found new rest some is finds goes_on = inr (record {
    id = id;
    found = found;
    rest = rest;
    finds = finds;
    goes_on = let same : less ≡ most = omega (arith, is) in rw (sym same) goes_on;
    are = refl;
  })

  -- nothing was appended
  pub appends_none_left : (most : ℕ) (above : Option (List ℕ)) (bank : BankView) (ids : List (List ℕ)) → most ≡ 0
      → AppendsIds ids ids (FindsIdsAbove honest most above bank bank)
  appends_none_left most above bank ids is = record { part = []; appended = sym (append-nil ids); are = none_left most above bank is }

  pub appends_none_above : (most : ℕ) (above : Option (List ℕ)) (old new : BankView) (ids : List (List ℕ)) → most ≢ 0
      → FindsIdAbove honest above old new (Ok None) → AppendsIds ids ids (FindsIdsAbove honest most above old new)
  appends_none_above most above old new ids some finds =
      record { part = []; appended = sym (append-nil ids); are = none_above most above old new some finds }

  -- one was, and then those above it
  pub appends_one_more : (still : Type 0) → (honest → still) → (most less : ℕ) (above : Option (List ℕ)) (id : List ℕ) (old found new : BankView)
      (first mid last : List (List ℕ)) → most ≢ 0 → less ≡ most - 1 → FindsIdAbove honest above old found (Ok (Some id)) → mid ≡ first ++ id ∷ []
      → AppendsIds mid last (FindsIdsAbove still less (Some id) found new) → AppendsIds first last (FindsIdsAbove honest most above old new)
  appends_one_more still on most less above id old found new first mid last some is finds one rest = record {
    part = id ∷ rest.part;
    appended = rest.appended ∙ ap (λ (ids : List (List ℕ)). ids ++ rest.part) one ∙ append_assoc first (id ∷ []) rest.part;
    are = one_more most less above id old found new rest.part some is finds (ids_still honest still on less (Some id) found new rest.part rest.are);
  }

-- what was appended to nothing is all that there is
pub appended_all : (old new : List (List ℕ)) (Are : List (List ℕ) → Type 0) → old ≡ [] → AppendsIds old new Are → Are new
appended_all old new Are empty is =
    let all : new ≡ is.part = is.appended ∙ ap (λ (ids : List (List ℕ)). ids ++ is.part) empty in
    rw all is.are
