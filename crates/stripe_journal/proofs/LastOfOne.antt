-- A journal has one last seal.
use Rattle.std.proofs.Common.{◌≡◌, ℕ, List, length, sym, subst, ap, ◌∙◌, arith, ◌%◌, Option, Some, None, refl}
use Rattle.layout_map.specs.declared.sizes.TheConstants.{HALVES}
use Rattle.layout_map.specs.declared.geometry.Geometry.{Geometry}
use Rattle.sector_model.specs.History.{Bytes}
use Rattle.stripe_journal.specs.declared.seal.Seal.{Seal}
use Rattle.stripe_journal.specs.LastEntry.{Counts, IsGreatest, IsLastSealed}
use Rattle.stripe_journal.proofs.CountedSeals.{one_counted}

-- two greatest counted seals of one journal are one
pub greatest_is_one : (id : List ℕ) (geometry : Geometry) (content : Option (List Bytes)) (a b : Seal) → length id ≡ 16
    → IsGreatest id geometry content a → IsGreatest id geometry content b → a ≡ b
greatest_is_one id geometry content a b long a_is b_is =
    let number : b.number ≡ a.number = omega (arith, a_is.greatest b_is.place b b_is.counted, b_is.greatest a_is.place a a_is.counted) in
    let place : b_is.place ≡ a_is.place = sym b_is.counted.belongs.own_place ∙ ap (λ (n : ℕ). n % HALVES) number ∙ a_is.counted.belongs.own_place in
    one_counted id geometry content a_is.place a b long a_is.counted (subst (λ (p : ℕ). Counts id geometry content p b) place b_is.counted)

-- where no seal counts there is no greatest
pub none_is_greatest : (id : List ℕ) (geometry : Geometry) (content : Option (List Bytes)) (seal : Seal) → IsLastSealed id geometry content None
    → ¬ IsGreatest id geometry content seal
none_is_greatest id geometry content seal none is = none is.place seal is.counted

-- a journal has one last seal, or none
pub last_is_one : (id : List ℕ) (geometry : Geometry) (content : Option (List Bytes)) (a b : Option Seal) → length id ≡ 16
    → IsLastSealed id geometry content a → IsLastSealed id geometry content b → a ≡ b
last_is_one id geometry content None None long a_is b_is = refl
last_is_one id geometry content None (Some b) long a_is b_is = absurd (none_is_greatest id geometry content b a_is b_is)
last_is_one id geometry content (Some a) None long a_is b_is = absurd (none_is_greatest id geometry content a b_is a_is)
last_is_one id geometry content (Some a) (Some b) long a_is b_is = ap Some (greatest_is_one id geometry content a b long a_is b_is)
