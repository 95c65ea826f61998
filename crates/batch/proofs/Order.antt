-- The order of places: by row, and in a row by member.
use Rattle.std.proofs.Common.{◌≡◌, inl, inr, ℕ, ◌<◌, ◌≤◌, List, length, sym, subst, arith}
use Rattle.std.proofs.lemmas.Bool.{cases_eq, cases_lt}
use Rattle.batch.specs.declared.placed.Placed.{Placed}
use Rattle.batch.specs.Among.{spot}
use Rattle.batch.specs.Places.{AreRising, IsBefore, placed_at}

-- what comes before what comes before
pub before_both : (first second third : Placed) → IsBefore first second → IsBefore second third → IsBefore first third
before_both first second third one two = elim one [
  | inl below ↦ elim two [
    | inl lower ↦ inl (omega (arith, below, lower))
    | inr same ↦ inl (omega (arith, below, same.0))
  ]
  | inr here ↦ elim two [
    | inl lower ↦ inl (omega (arith, here.0, lower))
    | inr same ↦ inr (omega (arith, here.0, same.0), omega (arith, here.1, same.1))
  ]
]

-- no place comes both before another and after it
pub not_both : (first second : Placed) → IsBefore first second → IsBefore second first → ⊥
not_both first second one two = elim one [
  | inl below ↦ elim two [
    | inl lower ↦ omega (arith, below, lower)
    | inr same ↦ omega (arith, below, same.0)
  ]
  | inr here ↦ elim two [
    | inl lower ↦ omega (arith, here.0, lower)
    | inr same ↦ omega (arith, here.1, same.1)
  ]
]

-- of two places one comes before the other, or both have one row and one member
pub data Compared (first second : Placed) : Type 0 where
  Earlier : IsBefore first second → Compared first second
  Later : IsBefore second first → Compared first second
  Same : first.row ≡ second.row → first.member ≡ second.member → Compared first second

pub compare_places : (first second : Placed) → Compared first second
compare_places first second = elim (cases_eq first.row second.row) [
  | inl row ↦ elim (cases_eq first.member second.member) [
    | inl member ↦ Same row member
    | inr apart ↦ elim (cases_lt first.member second.member) [
      | inl below ↦ Earlier (inr (row, below))
      | inr from ↦ Later (inr (sym row, omega (arith, from, apart)))
    ]
  ]
  | inr apart ↦ elim (cases_lt first.row second.row) [
    | inl below ↦ Earlier (inl below)
    | inr from ↦ Later (inl (omega (arith, from, apart)))
  ]
]

-- places with one row and one member come before the same ones
pub before_same : (first second third : Placed) → second.row ≡ first.row → second.member ≡ first.member → IsBefore second third → IsBefore first third
before_same first second third row member before = elim before [
  | inl below ↦ inl (omega (arith, row, below))
  | inr here ↦ inr (omega (arith, row, here.0), omega (arith, member, here.1))
]

-- and after the same ones
pub after_same : (first second third : Placed) → second.row ≡ third.row → second.member ≡ third.member → IsBefore first second → IsBefore first third
after_same first second third row member before = elim before [
  | inl below ↦ inl (omega (arith, row, below))
  | inr here ↦ inr (omega (arith, row, here.0), omega (arith, member, here.1))
]

module _ (places : List Placed) (rising : AreRising places) (row member : ℕ) where
  -- those before one that comes before a member's sector come before it too
  pub below_too : (middle i : ℕ) → middle < length places → IsBefore (placed_at places middle) (spot row member) → i ≤ middle
      → IsBefore (placed_at places i) (spot row member)
  below_too middle i within before least = elim (cases_eq i middle) [
    | inl is ↦ subst (λ (n : ℕ). IsBefore (placed_at places n) (spot row member)) (sym is) before
    | inr other ↦
        before_both (placed_at places i) (placed_at places middle) (spot row member) (rising i middle (omega (arith, least, other)) within) before
  ]
