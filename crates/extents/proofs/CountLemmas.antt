-- How many extents are free, and how many a volume has.
use Rattle.std.proofs.Common.{◌≡◌, ◌≢◌, inl, inr, ℕ, zero, suc, ◌+◌, ◌<◌, ◌≤◌, ◌==◌, ◌&&◌, nat_lt, Bool, true, false, cond, List, [], ◌∷◌, length, Option, Some}
use Rattle.std.proofs.Common.{None, get_or, count_by, zero-add, refl, sym, ◌∙◌, ap, arith}
use Rattle.std.proofs.lemmas.Bool.{cases_eq}
use Rattle.std.proofs.lemmas.Bool.Decides.{nat_tests}
use Rattle.std.proofs.lemmas.List.Sums.{sum_by-cons}
use Rattle.extents.specs.declared.owned.Owned.{Owned}
use Rattle.extents.specs.Owners.{HasPlaces}
use Rattle.extents.specs.ExtentMaps.{is_of, count_of}
use Rattle.extents.proofs.OwnerLemmas.{owned_is_within, owner_is}

-- the count of a list, one element at a time
pub count_cons : {X : Type 0} (test : X → Bool) (x : X) (xs : List X) → count_by test (x ∷ xs) ≡ cond (test x) 1 0 + count_by test xs
count_cons test x xs = sum_by-cons (λ y. cond (test y) 1 0) x xs

-- an element that passes is counted
count_yes : {X : Type 0} (test : X → Bool) (x : X) (xs : List X) → test x ≡ true → count_by test (x ∷ xs) ≡ 1 + count_by test xs
count_yes test x xs passes = count_cons test x xs ∙ ap (λ (b : Bool). cond {A = ℕ} b 1 0 + count_by test xs) passes

-- an element that fails is not
count_no : {X : Type 0} (test : X → Bool) (x : X) (xs : List X) → test x ≡ false → count_by test (x ∷ xs) ≡ count_by test xs
count_no test x xs fails = count_cons test x xs ∙ ap (λ (b : Bool). cond {A = ℕ} b 1 0 + count_by test xs) fails ∙ zero-add (count_by test xs)

-- tests that agree at each element count the same
pub count_same : {X : Type 0} (one two : X → Bool) (xs : List X) (blank : X) → ((k : ℕ) → k < length xs → one (get_or xs k blank) ≡ two (get_or xs k blank))
    → count_by one xs ≡ count_by two xs
count_same one two [] blank same = refl
count_same one two (x ∷ xs) blank same =
    let here : one x ≡ two x = same 0 (omega arith) in
    let rest : count_by one xs ≡ count_by two xs = count_same one two xs blank (λ k below. same (suc k) (omega arith)) in
    count_cons one x xs ∙ ap (λ (b : Bool). cond {A = ℕ} b 1 0 + count_by one xs) here ∙ ap (λ n. cond (two x) 1 0 + n) rest ∙ sym (count_cons two x xs)

-- where none passes, the count is 0
pub count_none : {X : Type 0} (test : X → Bool) (xs : List X) (blank : X) → ((k : ℕ) → k < length xs → test (get_or xs k blank) ≡ false) → count_by test xs ≡ 0
count_none test [] blank none = refl
count_none test (x ∷ xs) blank none = count_no test x xs (none 0 (omega arith)) ∙ count_none test xs blank (λ k below. none (suc k) (omega arith))

-- a test that is either of two others, and never both, counts as many as both
pub count_parts : {X : Type 0} (either one two : X → Bool) → ((x : X) → cond (either x) 1 0 ≡ cond (one x) 1 0 + cond (two x) 1 0) → (xs : List X)
    → count_by either xs ≡ count_by one xs + count_by two xs
count_parts either one two parts [] = refl
count_parts either one two parts (x ∷ xs) =
    omega (arith, parts x, count_parts either one two parts xs, count_cons either x xs, count_cons one x xs, count_cons two x xs)

-- where one element passes and no other, the count is 1
count_one : {X : Type 0} (test : X → Bool) (xs : List X) (at : ℕ) (blank : X) → at < length xs → test (get_or xs at blank) ≡ true
    → ((k : ℕ) → k < length xs → k ≢ at → test (get_or xs k blank) ≡ false) → count_by test xs ≡ 1
count_one test [] at blank within passes others = absurd (omega arith)
count_one test (x ∷ xs) zero blank within passes others =
    count_yes test x xs passes ∙ ap (λ n. 1 + n) (count_none test xs blank (λ k below. others (suc k) (omega arith) (λ same. omega arith)))
count_one test (x ∷ xs) (suc at) blank within passes others =
    count_no test x xs (others 0 (omega arith) (λ same. omega arith))
    ∙ count_one test xs at blank (omega arith) passes (λ k below other. others (suc k) (omega arith) (λ same. other (omega arith)))

-- an extent with this owner is the volume's, at this place
abbrev is_at : ℕ → ℕ → Option Owned → Bool
is_at volume place None = false
is_at volume place (Some owned) = owned.volume == volume && owned.place == place

-- an extent with this owner is the volume's, at a place below this
abbrev is_before : ℕ → ℕ → Option Owned → Bool
is_before volume place None = false
is_before volume place (Some owned) = owned.volume == volume && nat_lt owned.place place

before_parts : (volume place : ℕ) (owner : Option Owned)
    → cond (is_before volume (suc place) owner) 1 0 ≡ cond (is_before volume place owner) 1 0 + cond (is_at volume place owner) 1 0
before_parts volume place None = refl
before_parts volume place (Some owned) = grind (arith, nat_tests)

-- as many extents of a volume are at places below one as there are such places
before_count : (owners : List (Option Owned)) (volume n : ℕ) → HasPlaces owners volume n → (place : ℕ) → place ≤ n
    → count_by (is_before volume place) owners ≡ place
before_count owners volume n places zero within = count_none (is_before volume 0) owners None (λ k below. none_before (get_or owners k None))
  where
    none_before : (owner : Option Owned) → is_before volume 0 owner ≡ false
    none_before None = refl
    none_before (Some owned) = grind (arith, nat_tests)
before_count owners volume n places (suc place) within =
    let there = places.extent_at place (omega arith) in
    let one : count_by (is_at volume place) owners ≡ 1 =
    count_one (is_at volume place) owners there.0 None (owned_is_within owners there.0 volume place there.1) (passes_at (get_or owners there.0 None) there.1)
    (λ k below other. fails_apart (get_or owners k None) (λ at. other (places.once k there.0 place at there.1))) in
    omega (
      arith,
      before_count owners volume n places place (omega arith),
      count_parts (is_before volume (suc place)) (is_before volume place)
          (is_at volume place) (before_parts volume place) owners,
    )
  where
    passes_at : (owner : Option Owned) → owner ≡ Some record { volume = volume; place = place } → is_at volume place owner ≡ true
    passes_at owner at = rw at (grind (arith, nat_tests))

    fails_apart : (owner : Option Owned) → (owner ≡ Some record { volume = volume; place = place } → ⊥) → is_at volume place owner ≡ false
    fails_apart None apart = refl
    fails_apart (Some owned) apart = elim (cases_eq owned.volume volume) [
      | inr other ↦ grind (arith, nat_tests)
      | inl same ↦ elim (cases_eq owned.place place) [
        | inr other ↦ grind (arith, nat_tests)
        | inl same_place ↦ absurd (apart (owner_is owned volume place same same_place))
      ]
    ]

-- a volume's places are as many as its extents
pub count_of_places : (owners : List (Option Owned)) (volume n : ℕ) → HasPlaces owners volume n → count_of owners volume ≡ n
count_of_places owners volume n places =
    count_same (is_of volume) (is_before volume n) owners None (λ k below. agree (get_or owners k None) (λ place at. places.below k place at))
    ∙ before_count owners volume n places n (omega arith)
  where
    agree : (owner : Option Owned) → ((place : ℕ) → owner ≡ Some record { volume = volume; place = place } → place < n)
        → is_of volume owner ≡ is_before volume n owner
    agree None below = refl
    agree (Some owned) below = elim (cases_eq owned.volume volume) [
      | inr other ↦ grind (arith, nat_tests)
      | inl same ↦ let before : owned.place < n = below owned.place (owner_is owned volume owned.place same refl) in grind (arith, nat_tests)
    ]
