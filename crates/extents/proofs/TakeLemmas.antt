-- The extents that are taken, one after another.
use Rattle.std.proofs.Common.{◌≡◌, inl, inr, ℕ, ◌+◌, ◌<◌, ◌≤◌, min, Bool, true, false, List, length, Option, Some, None, is_some, refl, sym, ◌∙◌, ap, arith}
use Rattle.std.proofs.lemmas.Bool.{cases_eq, true≢false}
use Rattle.std.proofs.Math.ListN.{set, length-set}
use Rattle.std.proofs.lemmas.List.{get_or-set_same, get_or-set_other}
use Rattle.extents.specs.declared.owned.Owned.{Owned}
use Rattle.extents.specs.Owners.{owner_of, IsAt}
use Rattle.extents.specs.ExtentMaps.{free_below}
use Rattle.extents.proofs.OwnerLemmas.{free_or_owned, owned_is_not_free}
use Rattle.extents.proofs.FreeExtents.{free_below_none, free_below_grows, free_below_free, free_below_apart, free_below_owned}

-- what `AreAppended` says, as far as the extents below this one are done
pub record AreAppendedBelow (wanted : ℕ → Bool) (old new : List (Option Owned)) (volume first n given extent : ℕ) : Type 0 where
  pub given_is : given ≡ min n (free_below wanted old extent)
  pub extents : length new ≡ length old
  pub kept : (e other place : ℕ) → IsAt old e other place → IsAt new e other place
  pub taken : (e : ℕ) → e < extent → owner_of old e ≡ None → wanted e ≡ true → free_below wanted old e < n
      → IsAt new e volume (first + free_below wanted old e)
  pub left : (e : ℕ) → owner_of old e ≡ None → n ≤ free_below wanted old e → owner_of new e ≡ None
  pub passed : (e : ℕ) → owner_of old e ≡ None → wanted e ≡ false → owner_of new e ≡ None
  pub rest : (e : ℕ) → extent ≤ e → owner_of new e ≡ owner_of old e

-- before the first nothing is given
pub append_begins : (wanted : ℕ → Bool) (old : List (Option Owned)) (volume first n : ℕ) → AreAppendedBelow wanted old old volume first n 0 0
append_begins wanted old volume first n = record {
  given_is = omega (arith, free_below_none wanted old);
  extents = refl;
  kept = λ e other place at. at;
  taken = λ e below free wants few. absurd (omega arith);
  left = λ e free many. free;
  passed = λ e free unwanted. free;
  rest = λ e above. refl;
}

free_by_test : (owner : Option Owned) → is_some owner ≡ false → owner ≡ None
free_by_test None no_owner = refl
free_by_test (Some owned) no_owner = absurd (cc)

owned_by_test : (owner : Option Owned) → is_some owner ≡ true → owner ≡ None → ⊥
owned_by_test None has_owner free = cc
owned_by_test (Some owned) has_owner free = cc

module _ (wanted : ℕ → Bool) (old new : List (Option Owned)) (volume first n given extent : ℕ)
    (so_far : AreAppendedBelow wanted old new volume first n given extent) (within : extent < length new) where
  -- an extent that is some volume's is passed over
  pub append_passes_owned : is_some (owner_of new extent) ≡ true → AreAppendedBelow wanted old new volume first n given (extent + 1)
  append_passes_owned has_owner =
      let old_not_free : owner_of old extent ≡ None → ⊥ = λ free. owned_by_test (owner_of new extent) has_owner (so_far.rest extent (omega arith) ∙ free) in
      record {
        given_is = elim (free_or_owned old extent) [
          | inl free ↦ absurd (old_not_free free)
          | inr owned ↦ omega (arith, so_far.given_is, free_below_owned wanted old extent owned)
        ];
        extents = so_far.extents;
        kept = so_far.kept;
        taken = λ e below free wants few. elim (cases_eq e extent) [
          | inl same ↦ absurd (old_not_free (ap (λ x. owner_of old x) (sym same) ∙ free))
          | inr other ↦ so_far.taken e (omega arith) free wants few
        ];
        left = so_far.left;
        passed = so_far.passed;
        rest = λ e above. so_far.rest e (omega arith);
      }

  -- one that is not wanted too
  pub append_passes_unwanted : wanted extent ≡ false → AreAppendedBelow wanted old new volume first n given (extent + 1)
  append_passes_unwanted unwanted = record {
    given_is = omega (arith, so_far.given_is, free_below_apart wanted old extent unwanted);
    extents = so_far.extents;
    kept = so_far.kept;
    taken = λ e below free wants few. elim (cases_eq e extent) [
      | inl same ↦ absurd (true≢false (sym wants ∙ ap wanted same ∙ unwanted))
      | inr other ↦ so_far.taken e (omega arith) free wants few
    ];
    left = so_far.left;
    passed = so_far.passed;
    rest = λ e above. so_far.rest e (omega arith);
  }

  -- once n are given, all are passed over
  pub append_passes_rest : n ≤ given → AreAppendedBelow wanted old new volume first n given (extent + 1)
  append_passes_rest all = record {
    given_is = omega (arith, so_far.given_is, free_below_grows wanted old extent);
    extents = so_far.extents;
    kept = so_far.kept;
    taken = λ e below free wants few. elim (cases_eq e extent) [
      | inl same ↦ absurd (omega (arith, so_far.given_is, ap (λ x. free_below wanted old x) same))
      | inr other ↦ so_far.taken e (omega arith) free wants few
    ];
    left = so_far.left;
    passed = so_far.passed;
    rest = λ e above. so_far.rest e (omega arith);
  }

  -- a free extent that is wanted is given
  pub append_gives : is_some (owner_of new extent) ≡ false → wanted extent ≡ true → given < n
      → AreAppendedBelow wanted old (set new extent (Some record { volume = volume; place = first + given })) volume first n (given + 1) (extent + 1)
  append_gives no_owner wants few =
      let owner : Option Owned = Some record { volume = volume; place = first + given } in
      let was_free : owner_of old extent ≡ None = sym (so_far.rest extent (omega arith)) ∙ free_by_test (owner_of new extent) no_owner in
      let as_many : given ≡ free_below wanted old extent = omega (arith, so_far.given_is) in
      record {
        given_is = omega (arith, so_far.given_is, free_below_free wanted old extent was_free wants);
        extents = length-set new extent owner ∙ so_far.extents;
        kept = λ e other place at. get_or-set_other new extent e owner None
            (λ same. owned_is_not_free old e other place at (ap (λ x. owner_of old x) same ∙ was_free)) ∙ so_far.kept e other place at;
        taken = λ e below old_free wants fewer. elim (cases_eq e extent) [
          | inl same ↦ ap (λ x. owner_of (set new extent owner) x) same ∙ get_or-set_same new extent owner None within
              ∙ ap (λ (p : ℕ). Some record { volume = volume; place = first + p }) (as_many ∙ ap (λ x. free_below wanted old x) (sym same))
          | inr other ↦ get_or-set_other new extent e owner None other ∙ so_far.taken e (omega arith) old_free wants fewer
        ];
        left = λ e old_free many. get_or-set_other new extent e owner None (λ same. absurd (omega (arith, ap (λ x. free_below wanted old x) same)))
            ∙ so_far.left e old_free many;
        passed = λ e old_free unwanted. get_or-set_other new extent e owner None (λ same. true≢false (sym wants ∙ ap wanted (sym same) ∙ unwanted))
            ∙ so_far.passed e old_free unwanted;
        rest = λ e above. get_or-set_other new extent e owner None (λ same. omega arith) ∙ so_far.rest e (omega arith);
      }
