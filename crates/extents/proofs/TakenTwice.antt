-- The clean extents are taken first, and then of all that are left.
use Rattle.std.proofs.Common.{◌≡◌, inl, inr, ℕ, zero, suc, ◌+◌, ◌-◌, ◌<◌, ◌≤◌, not, min, Bool, true, false, List, length, Option, None, refl}
use Rattle.std.proofs.Common.{sym, ◌∙◌, ap, subst, arith}
use Rattle.std.proofs.lemmas.Bool.{cases_Bool, cases_lt}
use Rattle.std.proofs.lemmas.List.{get_or_past}
use Rattle.extents.specs.declared.owned.Owned.{Owned}
use Rattle.extents.specs.Owners.{owner_of, IsAt}
use Rattle.extents.specs.ExtentMaps.{free_below, free_before, is_dirty, is_wanted, count_of, AreAppended, IsTaken}
use Rattle.extents.proofs.OwnerLemmas.{HasOwner, free_or_owned}
use Rattle.extents.proofs.FreeExtents.{free_below_none, free_below_free, free_below_apart, free_below_owned, free_below_up_to}
use Rattle.extents.proofs.TakeOrder.{clean_below, dirty_below, before_clean, before_dirty}

module _ (dirty : List Bool) (old middle : List (Option Owned)) (volume first n : ℕ)
    (cleans : AreAppended (is_wanted false dirty) old middle volume first n) where
  -- after the clean ones were taken the dirty ones are free, and the clean ones that are too many
  left_below : (extent : ℕ) → extent ≤ length old
      → free_below (is_wanted true dirty) middle extent + min n (clean_below dirty old extent) ≡ clean_below dirty old extent + dirty_below dirty old extent
  left_below zero within =
      omega (
        arith,
        free_below_none (is_wanted true dirty) middle,
        free_below_none (is_wanted false dirty) old,
        free_below_none (is_dirty dirty) old,
      )
  left_below (suc extent) within =
      let next : suc extent ≡ extent + 1 = omega arith in
      let so_far = left_below extent (omega arith) in
      let same = ap (free_below (is_wanted true dirty) middle) next in
      let same_clean = ap (clean_below dirty old) next in
      let same_dirty = ap (dirty_below dirty old) next in
      elim (free_or_owned old extent) [
        | inr owned ↦
            let stays : HasOwner middle extent = record {
              volume = owned.volume;
              place = owned.place;
              at = cleans.kept extent owned.volume owned.place owned.at;
            } in
            omega (
              arith,
              so_far,
              same,
              same_clean,
              same_dirty,
              free_below_owned (is_wanted true dirty) middle extent stays,
              free_below_owned (is_wanted false dirty) old extent owned,
              free_below_owned (is_dirty dirty) old extent owned,
            )
        | inl free ↦ elim (cases_Bool (is_dirty dirty extent)) [
          | inl is ↦
              omega (
                arith,
                so_far,
                same,
                same_clean,
                same_dirty,
                free_below_free (is_wanted true dirty) middle extent (cleans.passed extent free (ap not is)) refl,
                free_below_apart (is_wanted false dirty) old extent (ap not is),
                free_below_free (is_dirty dirty) old extent free is,
              )
          | inr clean ↦
              let one_more = free_below_free (is_wanted false dirty) old extent free (ap not clean) in
              let as_many = free_below_apart (is_dirty dirty) old extent clean in
              elim (cases_lt (clean_below dirty old extent) n) [
                | inl few ↦
                    let given : HasOwner middle extent = record {
                      volume = volume;
                      place = first + clean_below dirty old extent;
                      at = cleans.taken extent (omega arith) free (ap not clean) few;
                    } in
                    omega (
                      arith,
                      so_far,
                      same,
                      same_clean,
                      same_dirty,
                      one_more,
                      as_many,
                      free_below_owned (is_wanted true dirty) middle extent given,
                    )
                | inr many ↦
                    omega (
                      arith,
                      so_far,
                      same,
                      same_clean,
                      same_dirty,
                      one_more,
                      as_many,
                      free_below_free (is_wanted true dirty) middle extent (cleans.left extent free many) refl,
                    )
              ]
        ]
      ]

  module _ (new : List (Option Owned)) (given : ℕ) (given_is : given ≡ min n (clean_below dirty old (length old)))
      (rest : AreAppended (is_wanted true dirty) middle new volume (first + given) (n - given)) where
    -- no fewer clean ones are free in all than below an extent
    clean_in_all : (extent : ℕ) → extent ≤ length old → clean_below dirty old extent ≤ clean_below dirty old (length old)
    clean_in_all extent within = free_below_up_to (is_wanted false dirty) old extent (length old) within

    twice_kept : (extent other place : ℕ) → IsAt old extent other place → IsAt new extent other place
    twice_kept extent other place at = rest.kept extent other place (cleans.kept extent other place at)

    twice_taken : (extent : ℕ) → extent < length old → owner_of old extent ≡ None → free_before dirty old extent < n
        → IsAt new extent volume (first + free_before dirty old extent)
    twice_taken extent within free few = elim (cases_Bool (is_dirty dirty extent)) [
      | inl is ↦
          let before = before_dirty dirty old extent (omega arith) is in
          let all_clean = clean_in_all extent (omega arith) in
          let as_many : free_below (is_wanted true dirty) middle extent ≡ dirty_below dirty old extent =
          omega (arith, left_below extent (omega arith), before, all_clean) in
          let place : first + given + free_below (is_wanted true dirty) middle extent ≡ first + free_before dirty old extent =
          omega (arith, as_many, before, given_is) in
          subst (λ p. IsAt new extent volume p) place
          (rest.taken extent (omega (arith, cleans.extents)) (cleans.passed extent free (ap not is)) refl (omega (arith, as_many, before, given_is)))
      | inr clean ↦
          let before = before_clean dirty old extent (omega arith) clean in
          subst (λ p. IsAt new extent volume (first + p)) (sym before)
          (rest.kept extent volume (first + clean_below dirty old extent) (cleans.taken extent within free (ap not clean) (omega (arith, before))))
    ]

    twice_left : (extent : ℕ) → owner_of old extent ≡ None → n ≤ free_before dirty old extent → owner_of new extent ≡ None
    twice_left extent free many = elim (cases_lt extent (length old)) [
      | inr beyond ↦ get_or_past new extent None (omega (arith, rest.extents, cleans.extents))
      | inl within ↦
          let below = left_below extent (omega arith) in
          let all_clean = clean_in_all extent (omega arith) in
          elim (cases_Bool (is_dirty dirty extent)) [
            | inl is ↦ rest.left extent (cleans.passed extent free (ap not is))
                (omega (arith, below, all_clean, given_is, before_dirty dirty old extent (omega arith) is))
            | inr clean ↦
                let before = before_clean dirty old extent (omega arith) clean in
                rest.left extent (cleans.left extent free (omega (arith, before))) (omega (arith, all_clean, given_is, before))
          ]
    ]

    -- so the free ones that come first are taken
    pub twice_is_taken : first ≡ count_of old volume → IsTaken dirty old new volume n
    twice_is_taken first_is = record {
      extents = rest.extents ∙ cleans.extents;
      kept = twice_kept;
      taken = λ extent within free few. subst (λ f. IsAt new extent volume (f + free_before dirty old extent)) first_is (twice_taken extent within free few);
      left = twice_left;
    }
