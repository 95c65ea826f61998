-- How many of the extents below one are free, and how many of those count.
use Rattle.std.proofs.Common.{◌≡◌, inl, inr, ℕ, zero, suc, ◌+◌, ◌-◌, ◌<◌, ◌≤◌, ◌&&◌, cond, Bool, true, false, List, length, take, Option, None, is_none}
use Rattle.std.proofs.Common.{refl, sym, ◌∙◌, ap, add-zero, arith}
use Rattle.std.proofs.lemmas.Bool.{cases_Bool, cases_eq}
use Rattle.std.proofs.lemmas.List.{take_all}
use Rattle.std.proofs.lemmas.List.Sums.{count_by_more_yes, count_by_more_no}
use Rattle.extents.specs.declared.owned.Owned.{Owned}
use Rattle.extents.specs.Owners.{owner_of}
use Rattle.extents.specs.ExtentMaps.{free_of, free_below}
use Rattle.extents.proofs.OwnerLemmas.{HasOwner, free_or_owned, owned_is_within}

-- how many of the extents below this one are free, of whatever kind
abbrev pub all_below : List (Option Owned) → ℕ → ℕ
all_below owners extent = free_of (take extent owners)

-- one more extent is free below the next where this one is free
pub all_below_free : (owners : List (Option Owned)) (extent : ℕ) → extent < length owners → owner_of owners extent ≡ None
    → all_below owners (extent + 1) ≡ all_below owners extent + 1
all_below_free owners extent within free = count_by_more_yes is_none owners extent None within (ap (λ (o : Option Owned). is_none o) free)

-- and as many as below this one where it is some volume's
pub all_below_owned : (owners : List (Option Owned)) (extent : ℕ) → HasOwner owners extent → all_below owners (extent + 1) ≡ all_below owners extent
all_below_owned owners extent owned =
    count_by_more_no is_none owners extent None (owned_is_within owners extent owned.volume owned.place owned.at)
    (ap (λ (o : Option Owned). is_none o) owned.at)

-- ---- those that count

free_below_suc : (counts : ℕ → Bool) (owners : List (Option Owned)) (extent : ℕ)
    → free_below counts owners (suc extent) ≡ free_below counts owners extent + cond (is_none (owner_of owners extent) && counts extent) 1 0
unfolding free_below
free_below_suc counts owners extent = refl

free_below_next : (counts : ℕ → Bool) (owners : List (Option Owned)) (extent : ℕ)
    → free_below counts owners (extent + 1) ≡ free_below counts owners extent + cond (is_none (owner_of owners extent) && counts extent) 1 0
free_below_next counts owners extent = ap (free_below counts owners) (next extent) ∙ free_below_suc counts owners extent
  where
    next : (e : ℕ) → e + 1 ≡ suc e
    next e = omega arith

-- none lies below extent 0
pub free_below_none : (counts : ℕ → Bool) (owners : List (Option Owned)) → free_below counts owners 0 ≡ 0
unfolding free_below
free_below_none counts owners = refl

-- one more lies below the next where this one is free and counts
pub free_below_free : (counts : ℕ → Bool) (owners : List (Option Owned)) (extent : ℕ) → owner_of owners extent ≡ None → counts extent ≡ true
    → free_below counts owners (extent + 1) ≡ free_below counts owners extent + 1
free_below_free counts owners extent free counted =
    free_below_next counts owners extent
    ∙ ap (λ (o : Option Owned). free_below counts owners extent + cond {A = ℕ} (is_none o && counts extent) 1 0) free
    ∙ ap (λ (b : Bool). free_below counts owners extent + cond {A = ℕ} b 1 0) counted

-- as many as below this one where it does not count
pub free_below_apart : (counts : ℕ → Bool) (owners : List (Option Owned)) (extent : ℕ) → counts extent ≡ false
    → free_below counts owners (extent + 1) ≡ free_below counts owners extent
free_below_apart counts owners extent uncounted =
    omega (arith, free_below_next counts owners extent, adds_none (is_none (owner_of owners extent)) (counts extent) uncounted)
  where
    adds_none : (a b : Bool) → b ≡ false → cond {A = ℕ} (a && b) 1 0 ≡ 0
    adds_none true b is = ap (λ (c : Bool). cond {A = ℕ} c 1 0) is
    adds_none false b is = refl

-- and where it is some volume's
pub free_below_owned : (counts : ℕ → Bool) (owners : List (Option Owned)) (extent : ℕ) → HasOwner owners extent
    → free_below counts owners (extent + 1) ≡ free_below counts owners extent
free_below_owned counts owners extent owned =
    omega (
      arith,
      free_below_next counts owners extent,
      ap (λ (o : Option Owned). cond {A = ℕ} (is_none o && counts extent) 1 0) owned.at,
    )

-- no fewer lie below the next
pub free_below_grows : (counts : ℕ → Bool) (owners : List (Option Owned)) (extent : ℕ) → free_below counts owners extent ≤ free_below counts owners (extent + 1)
free_below_grows counts owners extent = omega (arith, free_below_next counts owners extent)

-- nor below those after it
pub free_below_later : (counts : ℕ → Bool) (owners : List (Option Owned)) (extent more : ℕ)
    → free_below counts owners extent ≤ free_below counts owners (extent + more)
free_below_later counts owners extent zero = omega (arith, ap (free_below counts owners) (add-zero extent))
free_below_later counts owners extent (suc more) =
    omega (
      arith,
      free_below_later counts owners extent more,
      free_below_grows counts owners (extent + more),
      ap (free_below counts owners) (next extent more),
    )
  where
    next : (a b : ℕ) → a + suc b ≡ a + b + 1
    next a b = omega arith

pub free_below_up_to : (counts : ℕ → Bool) (owners : List (Option Owned)) (first second : ℕ) → first ≤ second
    → free_below counts owners first ≤ free_below counts owners second
free_below_up_to counts owners first second before =
    let apart : first + (second - first) ≡ second = omega arith in
    omega (arith, free_below_later counts owners first (second - first), ap (free_below counts owners) apart)

-- below a later extent more lie than below one that is free and counts
pub free_below_rises : (counts : ℕ → Bool) (owners : List (Option Owned)) (first second : ℕ) → first < second → owner_of owners first ≡ None
    → counts first ≡ true → free_below counts owners first < free_below counts owners second
free_below_rises counts owners first second before free counted =
    omega (arith, free_below_free counts owners first free counted, free_below_up_to counts owners (first + 1) second (omega arith))

-- a free extent that counts, with k such below it
pub record IsFreeAfter (counts : ℕ → Bool) (owners : List (Option Owned)) (k extent : ℕ) : Type 0 where
  pub within : extent < length owners
  pub free : owner_of owners extent ≡ None
  pub counted : counts extent ≡ true
  pub below : free_below counts owners extent ≡ k

find_free_below : (counts : ℕ → Bool) (owners : List (Option Owned)) (k extent : ℕ) → extent ≤ length owners → k < free_below counts owners extent
    → (e : ℕ) × IsFreeAfter counts owners k e
find_free_below counts owners k zero within few = absurd (omega (arith, free_below_none counts owners))
find_free_below counts owners k (suc extent) within few =
    let next : suc extent ≡ extent + 1 = omega arith in
    elim (free_or_owned owners extent) [
      | inl free ↦ elim (cases_Bool (counts extent)) [
        | inl counted ↦ elim (cases_eq k (free_below counts owners extent)) [
          | inl same ↦ (extent, record { within = omega arith; free = free; counted = counted; below = sym same })
          | inr other ↦ find_free_below counts owners k extent (omega arith)
              (omega (arith, free_below_free counts owners extent free counted, ap (free_below counts owners) next))
        ]
        | inr uncounted ↦ find_free_below counts owners k extent (omega arith)
            (omega (arith, free_below_apart counts owners extent uncounted, ap (free_below counts owners) next))
      ]
      | inr owned ↦ find_free_below counts owners k extent (omega arith)
          (omega (arith, free_below_owned counts owners extent owned, ap (free_below counts owners) next))
    ]

-- where more than k are free and count, one of them has k such below it
pub find_free : (counts : ℕ → Bool) (owners : List (Option Owned)) (k : ℕ) → k < free_below counts owners (length owners)
    → (e : ℕ) × IsFreeAfter counts owners k e
find_free counts owners k few = find_free_below counts owners k (length owners) (omega arith) few

-- tests that agree at each extent below one let as many count
pub free_below_same : (counts others : ℕ → Bool) (owners : List (Option Owned)) (extent : ℕ) → ((e : ℕ) → e < extent → counts e ≡ others e)
    → free_below counts owners extent ≡ free_below others owners extent
free_below_same counts others owners zero agree = free_below_none counts owners ∙ sym (free_below_none others owners)
free_below_same counts others owners (suc extent) agree =
    omega (
      arith,
      free_below_same counts others owners extent (λ e below. agree e (omega arith)),
      free_below_suc counts owners extent,
      free_below_suc others owners extent,
      ap (λ (b : Bool). cond {A = ℕ} (is_none (owner_of owners extent) && b) 1 0) (agree extent (omega arith)),
    )

-- where none counts from an extent on, none is counted there
free_below_past : (counts : ℕ → Bool) (owners : List (Option Owned)) (extent more : ℕ) → ((e : ℕ) → extent ≤ e → counts e ≡ false)
    → free_below counts owners (extent + more) ≡ free_below counts owners extent
free_below_past counts owners extent zero none = ap (free_below counts owners) (add-zero extent)
free_below_past counts owners extent (suc more) none =
    ap (free_below counts owners) (next extent more) ∙ free_below_apart counts owners (extent + more) (none (extent + more) (omega arith))
    ∙ free_below_past counts owners extent more none
  where
    next : (a b : ℕ) → a + suc b ≡ a + b + 1
    next a b = omega arith

pub free_below_stays : (counts : ℕ → Bool) (owners : List (Option Owned)) (extent end : ℕ) → extent ≤ end → ((e : ℕ) → extent ≤ e → counts e ≡ false)
    → free_below counts owners end ≡ free_below counts owners extent
free_below_stays counts owners extent end before none =
    let apart : extent + (end - extent) ≡ end = omega arith in
    ap (free_below counts owners) (sym apart) ∙ free_below_past counts owners extent (end - extent) none

-- a test that is either of two others, and never both, lets as many count as both
pub free_below_parts : (either one two : ℕ → Bool) (owners : List (Option Owned)) (extent : ℕ)
    → ((e : ℕ) → cond (either e) 1 0 ≡ cond (one e) 1 0 + cond (two e) 1 0)
    → free_below either owners extent ≡ free_below one owners extent + free_below two owners extent
free_below_parts either one two owners zero parts = omega (arith, free_below_none either owners, free_below_none one owners, free_below_none two owners)
free_below_parts either one two owners (suc extent) parts =
    omega (
      arith,
      free_below_parts either one two owners extent parts,
      free_below_suc either owners extent,
      free_below_suc one owners extent,
      free_below_suc two owners extent,
      of_free (is_none (owner_of owners extent)) (either extent) (one extent) (two extent) (parts extent),
    )
  where
    of_free : (a b c d : Bool) → cond {A = ℕ} b 1 0 ≡ cond c 1 0 + cond d 1 0 → cond {A = ℕ} (a && b) 1 0 ≡ cond (a && c) 1 0 + cond (a && d) 1 0
    of_free true b c d is = is
    of_free false b c d is = refl

-- each free extent counts
abbrev pub every : ℕ → Bool
every extent = true

pub all_is_every : (owners : List (Option Owned)) (extent : ℕ) → extent ≤ length owners → all_below owners extent ≡ free_below every owners extent
all_is_every owners zero within = omega (arith, free_below_none every owners)
all_is_every owners (suc extent) within =
    let next : suc extent ≡ extent + 1 = omega arith in
    let so_far = all_is_every owners extent (omega arith) in
    elim (free_or_owned owners extent) [
      | inl free ↦
          omega (
            arith,
            so_far,
            ap (all_below owners) next,
            ap (free_below every owners) next,
            all_below_free owners extent (omega arith) free,
            free_below_free every owners extent free refl,
          )
      | inr owned ↦
          omega (
            arith,
            so_far,
            ap (all_below owners) next,
            ap (free_below every owners) next,
            all_below_owned owners extent owned,
            free_below_owned every owners extent owned,
          )
    ]

-- so many are free in all
pub free_of_every : (owners : List (Option Owned)) → free_of owners ≡ free_below every owners (length owners)
free_of_every owners =
    omega (arith, all_is_every owners (length owners) (omega arith), ap free_of (take_all (length owners) owners (omega arith)))
