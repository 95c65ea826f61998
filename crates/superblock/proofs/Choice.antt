-- The first of those with the greatest generation.
use Rattle.std.proofs.Common.{◌≡◌, ℕ, ◌+◌, ◌<◌, ◌≤◌, List, Option, Some, None, length, ap, sym, subst, ◌∙◌, inl, inr, arith, Bor}
use Rattle.std.specs.Prelude.{IfSome}
use Rattle.std.proofs.lemmas.List.{get_or_past}
use Rattle.std.proofs.lemmas.Bool.{cases_lt, cases_eq}
use Rattle.superblock.specs.declared.table.Superblock.{Superblock}
use Rattle.superblock.specs.Chosen.{IsFirstGreatest, found_at}

pub first_is_one : (found : List (Option Superblock)) (first second : Superblock) → IsFirstGreatest found first → IsFirstGreatest found second → first ≡ second
first_is_one found first second is_first is_second =
    elim (cases_lt is_first.place is_second.place) [
      | inl before ↦ absurd (omega (
        arith,
        is_second.first is_first.place first before is_first.there,
        is_first.greatest is_second.place second is_second.there,
      ))
      | inr beyond ↦ elim (cases_lt is_second.place is_first.place) [
        | inl before ↦ absurd (omega (
          arith,
          is_first.first is_second.place second before is_second.there,
          is_second.greatest is_first.place first is_first.there,
        ))
        | inr ahead ↦
            let same_place : is_first.place ≡ is_second.place = omega arith in
            let both : found_at found is_first.place ≡ Some second = ap (λ (k : ℕ). found_at found k) same_place ∙ is_second.there in
            let same : Some first ≡ Some second = sym is_first.there ∙ both in
            cc
      ]
    ]

-- the first with the greatest generation of the first n places
pub record FirstGreatestTo (n : ℕ) (found : List (Option Superblock)) (best : Superblock) : Type 0 where
  pub place : ℕ
  pub within : place < n
  pub there : found_at found place ≡ Some best
  pub greatest : (other : ℕ) (superblock : Superblock) → other < n → found_at found other ≡ Some superblock
      → superblock.table.generation ≤ best.table.generation
  pub first : (other : ℕ) (superblock : Superblock) → other < place → found_at found other ≡ Some superblock
      → superblock.table.generation < best.table.generation

-- the same, or that there is none in these places
abbrev pub IsBest : ℕ → List (Option Superblock) → Option (Bor Superblock) → Type 0
IsBest n found None = (k : ℕ) → k < n → found_at found k ≡ None
IsBest n found (Some best) = FirstGreatestTo n found best.now

generation_of : (a b : Superblock) → Some a ≡ Some b → a.table.generation ≡ b.table.generation
generation_of a b same = let one : a ≡ b = cc in ap (λ (s : Superblock). s.table.generation) one

-- a place with none changes nothing
pub best_after_none : (n : ℕ) (found : List (Option Superblock)) (best : Option (Bor Superblock)) → found_at found n ≡ None → IsBest n found best
    → IsBest (n + 1) found best
best_after_none n found None here so_far = λ k below. elim (cases_eq k n) [
  | inl same ↦ ap (λ (j : ℕ). found_at found j) same ∙ here
  | inr other ↦ so_far k (omega arith)
]
best_after_none n found (Some best) here so_far = record {
  place = so_far.place;
  within = omega arith;
  there = so_far.there;
  first = so_far.first;
  greatest = λ other s below there. elim (cases_eq other n) [
    | inl same ↦ let both : None ≡ Some s = sym here ∙ ap (λ (j : ℕ). found_at found j) (sym same) ∙ there in absurd cc
    | inr less ↦ so_far.greatest other s (omega arith) there
  ];
}

-- one that is not greater changes nothing
pub best_after_lower : (n : ℕ) (found : List (Option Superblock)) (best : Option (Bor Superblock)) (next : Superblock) → found_at found n ≡ Some next
    → (IfSome best (λ b. b.now.table.generation < next.table.generation) → ⊥) → IsBest n found best → IsBest (n + 1) found best
best_after_lower n found None next here lower so_far = absurd (lower tt)
best_after_lower n found (Some best) next here lower so_far = record {
  place = so_far.place;
  within = omega arith;
  there = so_far.there;
  first = so_far.first;
  greatest = λ other s below there. elim (cases_eq other n) [
    | inl same ↦
        let one = generation_of next s (sym here ∙ ap (λ (j : ℕ). found_at found j) (sym same) ∙ there) in
        elim (cases_lt best.now.table.generation next.table.generation) [
          | inl greater ↦ absurd (lower greater)
          | inr at_most ↦ omega arith
        ]
    | inr less ↦ so_far.greatest other s (omega arith) there
  ];
}

best_after_greater : (n : ℕ) (found : List (Option Superblock)) (best : Option (Bor Superblock)) (next : Bor Superblock) → found_at found n ≡ Some next.now
    → IfSome best (λ b. b.now.table.generation < next.now.table.generation) → IsBest n found best → IsBest (n + 1) found (Some next)
best_after_greater n found None next here greater so_far = record {
  place = n;
  within = omega arith;
  there = here;
  first = λ other s below there. let both : None ≡ Some s = sym (so_far other below) ∙ there in absurd cc;
  greatest = λ other s below there. elim (cases_eq other n) [
    | inl same ↦ let one = generation_of next.now s (sym here ∙ ap (λ (j : ℕ). found_at found j) (sym same) ∙ there) in omega arith
    | inr less ↦ let both : None ≡ Some s = sym (so_far other (omega arith)) ∙ there in absurd cc
  ];
}
best_after_greater n found (Some best) next here greater so_far = record {
  place = n;
  within = omega arith;
  there = here;
  first = λ other s below there. let least = so_far.greatest other s below there in omega arith;
  greatest = λ other s below there. elim (cases_eq other n) [
    | inl same ↦ let one = generation_of next.now s (sym here ∙ ap (λ (j : ℕ). found_at found j) (sym same) ∙ there) in omega arith
    | inr less ↦ let least = so_far.greatest other s (omega arith) there in omega arith
  ];
}

-- a greater one is the best from now on
pub best_from_greater : (n : ℕ) (found : List (Option Superblock)) (best after : Option (Bor Superblock)) (address : ℕ × ℕ) (next : Superblock)
    → found_at found n ≡ Some next
    → IfSome best (λ b. b.now.table.generation < next.table.generation) → after ≡ Some record { ref_ptr = address; now = next } → IsBest n found best
    → IsBest (n + 1) found after
best_from_greater n found best after address next here greater is_next so_far =
    subst (λ (b : Option (Bor Superblock)). IsBest (n + 1) found b) (sym is_next)
    (best_after_greater n found best record { ref_ptr = address; now = next } here greater so_far)

-- at the end it is the best of all
pub best_of_all : (n : ℕ) (found : List (Option Superblock)) (best : Superblock) → length found ≤ n → FirstGreatestTo n found best → IsFirstGreatest found best
best_of_all n found best all so_far = record {
  place = so_far.place;
  there = so_far.there;
  first = so_far.first;
  greatest = λ other s there. elim (cases_lt other n) [
    | inl below ↦ so_far.greatest other s below there
    | inr past ↦ let both : None ≡ Some s = sym (get_or_past found other None (omega arith)) ∙ there in absurd cc
  ];
}

pub none_of_all : (n : ℕ) (found : List (Option Superblock)) → length found ≤ n → IsBest n found None → (place : ℕ) → found_at found place ≡ None
none_of_all n found all so_far place = elim (cases_lt place n) [
  | inl below ↦ so_far place below
  | inr past ↦ get_or_past found place None (omega arith)
]
