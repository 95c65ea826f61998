-- There is one proof that places rise, so a list of them may keep it.
use Rattle.std.specs.Prelude.{◌⊎◌, List}
use Rattle.std.specs.Coded.{Coded-set, coded_ℕ, le_prop, ×_prop, Π_prop, →_prop}
use Rattle.std.proofs.Common.{inl, inr, ap, arith}
use Rattle.batch.specs.declared.placed.Placed.{Placed}
use Rattle.batch.specs.Places.{AreRising, IsBefore, placed_at}

one_of : {A B : Type 0} → IsProp A → IsProp B → (A → B → ⊥) → IsProp (A ⊎ B)
one_of one other apart (inl a) (inl b) = ap inl (one a b)
one_of one other apart (inl a) (inr b) = absurd (apart a b)
one_of one other apart (inr a) (inl b) = absurd (apart b a)
one_of one other apart (inr a) (inr b) = ap inr (other a b)

IsBefore-prop : (place other : Placed) → IsProp (IsBefore place other)
IsBefore-prop place other = one_of le_prop (×_prop (Coded-set coded_ℕ place.row other.row) le_prop) (λ below same. omega (arith, below, same.0))

pub AreRising-prop : (places : List Placed) → IsProp (AreRising places)
AreRising-prop places = Π_prop (λ i. Π_prop (λ j. →_prop (→_prop (IsBefore-prop (placed_at places i) (placed_at places j)))))
