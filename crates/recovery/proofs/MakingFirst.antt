-- The first table of a set is one.
use Rattle.std.proofs.Common.{◌≡◌, ◌≢◌, inl, inr, ℕ, ◌+◌, ◌<◌, ◌≤◌, List, length, replicate, refl, sym, ◌∙◌, ap, arith}
use Rattle.std.specs.Prelude.{slice_index_or, slice_set}
use Rattle.std.proofs.lemmas.Bool.{cases_eq, cases_lt}
use Rattle.std.proofs.lemmas.List.{get_or-replicate, get_or-set_same, get_or-set_other, get_or_past, length-replicate, length-set}
use Rattle.layout_map.specs.declared.geometry.Geometry.{Geometry}
use Rattle.superblock.specs.declared.state.State.{State}
use Rattle.superblock.specs.declared.state.State.TheVariants.{InSync, Missing, Rebuilding}
use Rattle.superblock.specs.Tables.{IsTable, state_at}

-- ten places, of which the first so many have a value, and the others have none
pub record IsFilled (A : Type 0) (value none : A) (n : ℕ) (places : List A) : Type 0 where
  pub ten : length places ≡ 10
  pub filled : (k : ℕ) → k < n → slice_index_or places k none ≡ value
  pub empty : (k : ℕ) → n ≤ k → slice_index_or places k none ≡ none

none_at : (A : Type 0) (none : A) (k : ℕ) → slice_index_or (replicate 10 none) k none ≡ none
none_at A none k = elim (cases_lt k 10) [
  | inl within ↦ get_or-replicate 10 k none none within
  | inr beyond ↦ get_or_past (replicate 10 none) k none (omega (arith, beyond, length-replicate 10 none))
]

pub filled_none : (A : Type 0) (value none : A) → IsFilled A value none 0 (replicate 10 none)
filled_none A value none = record {
  ten = length-replicate 10 none;
  filled = λ k below. absurd (omega (arith, below));
  empty = λ k beyond. none_at A none k;
}

pub filled_more : (A : Type 0) (value none : A) (n : ℕ) (places : List A) → n < 10 → IsFilled A value none n places
    → IsFilled A value none (n + 1) (slice_set places n value)
filled_more A value none n places within is = record {
  ten = length-set places n value ∙ is.ten;
  filled = λ k below. elim (cases_eq k n) [
    | inl same ↦ ap (λ (i : ℕ). slice_index_or (slice_set places n value) i none) same ∙ get_or-set_same places n value none (omega (arith, within, is.ten))
    | inr apart ↦ get_or-set_other places n k value none apart ∙ is.filled k (omega (arith, below, apart))
  ];
  empty = λ k beyond. get_or-set_other places n k value none (λ same. absurd (omega (arith, beyond, same))) ∙ is.empty k (omega (arith, beyond));
}

-- no place says that a member is rebuilding
none_rebuilds : (n : ℕ) (states : List State) → IsFilled State InSync Missing n states → (slot : ℕ) → state_at states slot ≢ Rebuilding
none_rebuilds n states is slot rebuilding = elim (cases_lt slot n) [
  | inl below ↦ in_sync (sym (is.filled slot below) ∙ rebuilding)
  | inr beyond ↦ missing (sym (is.empty slot beyond) ∙ rebuilding)
]
  where
    in_sync : InSync ≡ Rebuilding → ⊥
    in_sync is = cc

    missing : Missing ≡ Rebuilding → ⊥
    missing is = cc

pub first_is_table : (geometry : Geometry) (n : ℕ) (states : List State) (incarnations : List ℕ) → n ≡ geometry.members + 2
    → IsFilled State InSync Missing n states → IsFilled ℕ 1 0 n incarnations → IsTable 1 geometry states incarnations 0
first_is_table geometry n states incarnations all filled numbered = record {
  ten_states = filled.ten;
  ten_incarnations = numbered.ten;
  generation_least = omega arith;
  generation_most = omega arith;
  incarnation_least = λ slot below. omega (arith, numbered.filled slot (omega (arith, all, below)));
  incarnation_most = λ slot below. omega (arith, numbered.filled slot (omega (arith, all, below)));
  missing_beyond = λ slot beyond. filled.empty slot (omega (arith, all, beyond));
  zero_beyond = λ slot beyond. numbered.empty slot (omega (arith, all, beyond));
  one_out = λ first second below below' out out'. absurd (out (filled.filled first (omega (arith, all, below))));
  rebuilds_member = λ slot is. absurd (none_rebuilds n states filled slot is);
  position_below = λ slot is. absurd (none_rebuilds n states filled slot is);
  no_position = λ none. refl;
}
