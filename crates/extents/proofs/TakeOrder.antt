-- The order in which free extents are taken.
use Rattle.std.proofs.Common.{◌≡◌, ◌≢◌, ◌⊎◌, inl, inr, ℕ, ◌+◌, ◌-◌, ◌<◌, ◌≤◌, ◌&&◌, ◌||◌, not, nat_lt, cond, Bool, true, false, List, length, Option}
use Rattle.std.proofs.Common.{None, refl, sym, ◌∙◌, ap, arith}
use Rattle.std.proofs.lemmas.Bool.{cases_Bool, cases_lt, cases_eq, false≢true, not-true}
use Rattle.std.proofs.lemmas.Bool.Decides.{nat_tests}
use Rattle.extents.specs.declared.owned.Owned.{Owned}
use Rattle.extents.specs.Owners.{owner_of}
use Rattle.extents.specs.ExtentMaps.{free_of, free_below, free_before, is_dirty, comes_before, is_wanted}
use Rattle.extents.proofs.FreeExtents.{free_below_rises, free_below_same, free_below_stays, free_below_parts, find_free, every, free_of_every}

-- how many clean extents are free below one, and how many dirty ones
abbrev pub clean_below : List Bool → List (Option Owned) → (extent : ℕ) → ℕ
clean_below dirty owners extent = free_below (is_wanted false dirty) owners extent

abbrev pub dirty_below : List Bool → List (Option Owned) → (extent : ℕ) → ℕ
dirty_below dirty owners extent = free_below (is_dirty dirty) owners extent

-- each free extent is clean or dirty
pub every_part : (dirty : List Bool) (owners : List (Option Owned)) (extent : ℕ)
    → free_below every owners extent ≡ clean_below dirty owners extent + dirty_below dirty owners extent
every_part dirty owners extent = free_below_parts every (is_wanted false dirty) (is_dirty dirty) owners extent (λ e. one_of (is_dirty dirty e))
  where
    one_of : (b : Bool) → 1 ≡ cond (not b) 1 0 + cond b 1 0
    one_of true = refl
    one_of false = refl

-- before a clean extent the clean ones below it are taken
pub before_clean : (dirty : List Bool) (owners : List (Option Owned)) (extent : ℕ) → extent ≤ length owners → is_dirty dirty extent ≡ false
    → free_before dirty owners extent ≡ clean_below dirty owners extent
before_clean dirty owners extent within clean =
    free_below_stays (λ other. comes_before dirty other extent) owners extent (length owners) within
    (λ e above. not_above (is_dirty dirty e) (is_dirty dirty extent) e extent clean above)
    ∙ free_below_same (λ other. comes_before dirty other extent) (is_wanted false dirty) owners extent
    (λ e below. as_clean (is_dirty dirty e) (is_dirty dirty extent) e extent clean below)
  where
    not_above : (one other : Bool) (e f : ℕ) → other ≡ false → f ≤ e → cond one (other && nat_lt e f) (other || nat_lt e f) ≡ false
    not_above one other e f clean above = grind (arith, nat_tests)

    as_clean : (one other : Bool) (e f : ℕ) → other ≡ false → e < f → cond one (other && nat_lt e f) (other || nat_lt e f) ≡ not one
    as_clean one other e f clean below = grind (arith, nat_tests)

-- before a dirty one all clean ones are taken, and the dirty ones below it
pub before_dirty : (dirty : List Bool) (owners : List (Option Owned)) (extent : ℕ) → extent ≤ length owners → is_dirty dirty extent ≡ true
    → free_before dirty owners extent ≡ clean_below dirty owners (length owners) + dirty_below dirty owners extent
before_dirty dirty owners extent within is =
    let lower : ℕ → Bool = λ e. is_dirty dirty e && nat_lt e extent in
    omega (
      arith,
      free_below_parts (λ other. comes_before dirty other extent) (is_wanted false dirty) lower owners (length owners)
          (λ e. parts (is_dirty dirty e) (is_dirty dirty extent) (nat_lt e extent) is),
      free_below_stays lower owners extent (length owners) within (λ e above. not_above (is_dirty dirty e) e extent above),
      free_below_same lower (is_dirty dirty) owners extent (λ e below. as_dirty (is_dirty dirty e) e extent below),
    )
  where
    parts : (one other low : Bool) → other ≡ true → cond {A = ℕ} (cond one (other && low) (other || low)) 1 0 ≡ cond (not one) 1 0 + cond (one && low) 1 0
    parts true true low is = omega arith
    parts false true low is = refl
    parts one false low is = absurd (false≢true is)

    not_above : (one : Bool) (e f : ℕ) → f ≤ e → (one && nat_lt e f) ≡ false
    not_above one e f above = grind (arith, nat_tests)

    as_dirty : (one : Bool) (e f : ℕ) → e < f → (one && nat_lt e f) ≡ one
    as_dirty one e f below = grind (arith, nat_tests)

-- one that comes before another is clean and that one dirty, or they are of a kind and it lies below
pub order_is : (dirty : List Bool) (extent other : ℕ) → comes_before dirty extent other ≡ true
    → ((is_dirty dirty extent ≡ false) × (is_dirty dirty other ≡ true)) ⊎ ((is_dirty dirty extent ≡ is_dirty dirty other) × (extent < other))
order_is dirty extent other before = by_kind (is_dirty dirty extent) (is_dirty dirty other) extent other before
  where
    by_kind : (one two : Bool) (e f : ℕ) → cond one (two && nat_lt e f) (two || nat_lt e f) ≡ true
        → ((one ≡ false) × (two ≡ true)) ⊎ ((one ≡ two) × (e < f))
    by_kind true true e f is = inr (refl, grind (arith, nat_tests))
    by_kind true false e f is = absurd (false≢true is)
    by_kind false true e f is = inl (refl, refl)
    by_kind false false e f is = inr (refl, grind (arith, nat_tests))

-- of two extents one comes before the other
one_first : (dirty : List Bool) (extent other : ℕ) → extent ≢ other
    → (comes_before dirty extent other ≡ true) ⊎ (comes_before dirty other extent ≡ true)
one_first dirty extent other apart = by_kind (is_dirty dirty extent) (is_dirty dirty other) extent other apart
  where
    by_kind : (one two : Bool) (e f : ℕ) → e ≢ f
        → (cond one (two && nat_lt e f) (two || nat_lt e f) ≡ true) ⊎ (cond two (one && nat_lt f e) (one || nat_lt f e) ≡ true)
    by_kind true false e f apart = inr refl
    by_kind false true e f apart = inl refl
    by_kind true true e f apart = elim (cases_lt e f) [
      | inl below ↦ inl (grind (arith, nat_tests))
      | inr above ↦ let after : f < e = omega arith in inr (grind (arith, nat_tests))
    ]
    by_kind false false e f apart = elim (cases_lt e f) [
      | inl below ↦ inl (grind (arith, nat_tests))
      | inr above ↦ let after : f < e = omega arith in inr (grind (arith, nat_tests))
    ]

-- more are taken before a later extent than before a free one
pub before_rises : (dirty : List Bool) (owners : List (Option Owned)) (extent other : ℕ) → extent < length owners → other < length owners
    → owner_of owners extent ≡ None → comes_before dirty extent other ≡ true → free_before dirty owners extent < free_before dirty owners other
before_rises dirty owners extent other within other_within free before =
    let clean : ℕ → Bool = is_wanted false dirty in
    elim (order_is dirty extent other before) [
      | inl kinds ↦
          omega (
            arith,
            before_clean dirty owners extent (omega arith) kinds.0,
            before_dirty dirty owners other (omega arith) kinds.1,
            free_below_rises clean owners extent (length owners) within free (ap not kinds.0),
          )
      | inr below ↦ elim (cases_Bool (is_dirty dirty extent)) [
        | inl is ↦
            omega (
              arith,
              before_dirty dirty owners extent (omega arith) is,
              before_dirty dirty owners other (omega arith) (sym below.0 ∙ is),
              free_below_rises (is_dirty dirty) owners extent other below.1 free is,
            )
        | inr clean_one ↦
            omega (
              arith,
              before_clean dirty owners extent (omega arith) clean_one,
              before_clean dirty owners other (omega arith) (sym below.0 ∙ clean_one),
              free_below_rises clean owners extent other below.1 free (ap not clean_one),
            )
      ]
    ]

-- two free extents before which as many are taken are the same
pub free_is_one : (dirty : List Bool) (owners : List (Option Owned)) (extent other : ℕ) → extent < length owners → other < length owners
    → owner_of owners extent ≡ None → owner_of owners other ≡ None → free_before dirty owners extent ≡ free_before dirty owners other → extent ≡ other
free_is_one dirty owners extent other within other_within free other_free same = elim (cases_eq extent other) [
  | inl is ↦ is
  | inr apart ↦ elim (one_first dirty extent other apart) [
    | inl before ↦ absurd (omega (arith, before_rises dirty owners extent other within other_within free before))
    | inr after ↦ absurd (omega (arith, before_rises dirty owners other extent other_within within other_free after))
  ]
]

-- a free extent with fewer before it comes before one with more
pub fewer_first : (dirty : List Bool) (owners : List (Option Owned)) (extent other : ℕ) → extent < length owners → other < length owners
    → owner_of owners other ≡ None → free_before dirty owners extent < free_before dirty owners other → comes_before dirty extent other ≡ true
fewer_first dirty owners extent other within other_within other_free fewer = elim (cases_eq extent other) [
  | inl same ↦ absurd (omega (arith, ap (free_before dirty owners) same))
  | inr apart ↦ elim (one_first dirty extent other apart) [
    | inl before ↦ before
    | inr after ↦ absurd (omega (arith, before_rises dirty owners other extent other_within within other_free after))
  ]
]

-- a free extent before which k are taken
pub record IsTakenAfter (dirty : List Bool) (owners : List (Option Owned)) (k extent : ℕ) : Type 0 where
  pub within : extent < length owners
  pub free : owner_of owners extent ≡ None
  pub before : free_before dirty owners extent ≡ k

-- where more than k extents are free, k are taken before one of them
pub find_next : (dirty : List Bool) (owners : List (Option Owned)) (k : ℕ) → k < free_of owners → (e : ℕ) × IsTakenAfter dirty owners k e
find_next dirty owners k few =
    let clean : ℕ = clean_below dirty owners (length owners) in
    let all : free_of owners ≡ clean + dirty_below dirty owners (length owners) = free_of_every owners ∙ every_part dirty owners (length owners) in
    elim (cases_lt k clean) [
      | inl one_clean ↦
          let found = find_free (is_wanted false dirty) owners k one_clean in
          let kind : is_dirty dirty found.0 ≡ false = not-true (is_dirty dirty found.0) found.1.counted in (
            found.0,
            record {
              within = found.1.within;
              free = found.1.free;
              before = before_clean dirty owners found.0 (omega (arith, found.1.within)) kind ∙ found.1.below;
            },
          )
      | inr all_clean ↦
          let found = find_free (is_dirty dirty) owners (k - clean) (omega (arith, all)) in (
            found.0,
            record {
              within = found.1.within;
              free = found.1.free;
              before = omega (arith, before_dirty dirty owners found.0 (omega (arith, found.1.within)) found.1.counted, found.1.below);
            },
          )
    ]
