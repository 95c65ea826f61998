-- The later of two seals that belong to their places.
use Rattle.std.proofs.Common.{◌≡◌, ℕ, ◌%◌, Bool, true, false, cond, List, Option, Some, None, refl, sym, subst}
use Rattle.std.specs.Prelude.{IfSome, nat_lt}
use Rattle.layout_map.specs.declared.sizes.TheConstants.{HALVES}
use Rattle.layout_map.specs.declared.geometry.Geometry.{Geometry}
use Rattle.sector_model.specs.History.{Bytes}
use Rattle.stripe_journal.specs.declared.seal.Seal.{Seal}
use Rattle.stripe_journal.specs.LastEntry.{later_of}
use Rattle.stripe_journal.specs.LastSealed.{Belongs}
use Rattle.stripe_journal.specs.Spelling.{seal_sector}

own_place : (id : List ℕ) (geometry : Geometry) (place : ℕ) (seal : Seal) → Belongs id geometry place seal → Belongs id geometry (seal.number % HALVES) seal
own_place id geometry place seal is = record { of_set = is.of_set; of_format = is.of_format; own_place = refl; below = is.below; held = is.held }

either_belongs : (id : List ℕ) (geometry : Geometry) (b : Bool) (first second : Seal) → Belongs id geometry (first.number % HALVES) first
    → Belongs id geometry (second.number % HALVES) second
    → IfSome (cond b (Some second) (Some first)) (λ seal. Belongs id geometry (seal.number % HALVES) seal)
either_belongs id geometry true first second is_first is_second = is_second
either_belongs id geometry false first second is_first is_second = is_first

pub later_belongs : (id : List ℕ) (geometry : Geometry) (one other : Bytes) (even odd found : Option Seal)
    → IfSome even (λ seal. (one ≡ seal_sector seal) × Belongs id geometry 0 seal) → IfSome odd (λ seal. (other ≡ seal_sector seal) × Belongs id geometry 1 seal)
    → found ≡ later_of even odd → IfSome found (λ seal. Belongs id geometry (seal.number % HALVES) seal)
later_belongs id geometry one other even odd found is_even is_odd is =
    subst (λ (o : Option Seal). IfSome o (λ seal. Belongs id geometry (seal.number % HALVES) seal)) (sym is) (by_case even odd is_even is_odd)
  where
    by_case : (even odd : Option Seal) → IfSome even (λ seal. (one ≡ seal_sector seal) × Belongs id geometry 0 seal)
        → IfSome odd (λ seal. (other ≡ seal_sector seal) × Belongs id geometry 1 seal)
        → IfSome (later_of even odd) (λ seal. Belongs id geometry (seal.number % HALVES) seal)
    by_case None None is_even is_odd = tt
    by_case None (Some second) is_even is_odd = own_place id geometry 1 second is_odd.1
    by_case (Some first) None is_even is_odd = own_place id geometry 0 first is_even.1
    by_case (Some first) (Some second) is_even is_odd =
        either_belongs id geometry (nat_lt first.number second.number) first second (own_place id geometry 0 first is_even.1)
        (own_place id geometry 1 second is_odd.1)
