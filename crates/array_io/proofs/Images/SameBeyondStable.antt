-- What two images share after the superblocks, where it is known only that it is not false that they agree there.
use Rattle.std.proofs.Common.{◌≡◌, ◌≢◌, ◌⊎◌, inl, inr, ℕ, zero, suc, ◌+◌, ◌<◌, List, [], ◌∷◌, Contains, Option, Some, None, refl, sym, ap, subst, arith}
use Rattle.std.proofs.lemmas.Bool.{cases_eq}
use Rattle.std.proofs.lemmas.List.Elements.{Contains-append_left, Contains-append_right, Contains-append_cases, Contains-push, Contains-push_cases}
use mathlib.Core.List.{List-discrete}
use native.Mathlib.Decide.{ℕ_discrete}
use Rattle.sector_model.specs.History.{Bytes, Slots}
use Rattle.superblock.specs.declared.table.Table.{Table}
use Rattle.superblock.specs.Counted.{Content}
use Rattle.stripe_journal.specs.declared.seal.Seal.{Seal}
use Rattle.stripe_journal.specs.LastEntry.{sector_in}
use Rattle.stripe_journal.specs.Spelling.{seal_sector}
use Rattle.degraded.specs.RowValue.{Rows, AreSound, logical_list}
use Rattle.array_io.specs.Laws.Core.{AreJournalsInStep, HasRows}
use Rattle.array_io.specs.Believed.Holds.{AreInStep, IsLiveJournal, row_count}
use Rattle.array_io.proofs.Images.SameBeyond.{AreSameBeyond, rows_beyond, steps_beyond}
use Rattle.array_io.proofs.Images.Spellings.{Spellings}

-- what is not false is true
abbrev pub IsStable : Type 0 → Type 0
IsStable A = ¬ ¬ A → A

by_dec : {A : Type 0} → Dec A → A ⊎ ¬ A
by_dec (yes a) = inl a
by_dec (no none) = inr none

stable_by : {A : Type 0} → A ⊎ ¬ A → IsStable A
stable_by (inl a) not_false = a
stable_by (inr none) not_false = absurd (not_false none)

pub number_stable : (a b : ℕ) → IsStable (a ≡ b)
number_stable a b = stable_by (cases_eq a b)

pub bytes_stable : (a b : Bytes) → IsStable (a ≡ b)
bytes_stable a b = stable_by (by_dec (List-discrete ℕ_discrete a b))

sector_stable : (a b : Option Bytes) → IsStable (a ≡ b)
sector_stable None None not_false = refl
sector_stable None (Some b) not_false = absurd (not_false (λ is. cc))
sector_stable (Some a) None not_false = absurd (not_false (λ is. cc))
sector_stable (Some a) (Some b) not_false = ap Some (bytes_stable a b (λ differ. not_false (λ is. let one : a ≡ b = cc in differ one)))

no_element : (V : List Bytes) → ¬ Contains [] V
no_element V (k, below, is) = omega (arith, below)

-- it is settled whether a list is one of some
listed_or_not : (X : List (List Bytes)) (V : List Bytes) → Contains X V ⊎ ¬ Contains X V
listed_or_not [] V = inr (no_element V)
listed_or_not (first ∷ X) V = elim (by_dec (List-discrete (List-discrete ℕ_discrete) first V)) [
  | inl is ↦ inl (Contains-append_left (first ∷ []) X V (subst (Contains (first ∷ [])) is (Contains-push [] first)))
  | inr differs ↦ elim (listed_or_not X V) [
    | inl among ↦ inl (Contains-append_right (first ∷ []) X V among)
    | inr none ↦ inr (λ among. elim (Contains-append_cases (first ∷ []) X V among) [
      | inl here ↦ elim (Contains-push_cases [] first V here) [
        | inl never ↦ no_element V never
        | inr is ↦ differs is
      ]
      | inr later ↦ none later
    ])
  ]
]

pub listed_stable : (X : List (List Bytes)) (V : List Bytes) → IsStable (Contains X V)
listed_stable X V = stable_by (listed_or_not X V)

pub sound_stable : (rows : Rows) (count : ℕ) → IsStable (AreSound rows count)
sound_stable rows count not_false = λ row below. bytes_stable _ _ (λ differ. not_false (λ sound. differ (sound row below)))

-- whether two journals are in step is settled by their numbers, or else they have the same entry
pub step_stable : Spellings → (members : ℕ) (first second : Content) (a b : Option Seal) → IsStable (AreInStep members first second a b)
step_stable spellings members first second None None not_false = tt
step_stable spellings members first second (Some a) None not_false = number_stable a.number 1 not_false
step_stable spellings members first second None (Some b) not_false = number_stable b.number 1 not_false
step_stable spellings members first second (Some a) (Some b) not_false = elim (cases_eq (a.number + 1) b.number) [
  | inl next ↦ inr (inl next)
  | inr not_next ↦ elim (cases_eq (b.number + 1) a.number) [
    | inl before ↦ inr (inr before)
    | inr not_before ↦
        let same : ¬ ¬ AreSame = λ none. not_false (λ step. by_step not_next not_before none step) in inl (
          spellings.one_seal a b (bytes_stable (seal_sector a) (seal_sector b) (λ differ. same (λ is. differ (ap seal_sector is.0)))),
          λ row member within. sector_stable (sector_in members first a row member) (sector_in members second a row member)
              (λ differ. same (λ is. differ (is.1 row member within))),
        )
  ]
]
  where
    AreSame : Type 0
    AreSame = (a ≡ b) × ((row member : ℕ) → member < members → sector_in members first a row member ≡ sector_in members second a row member)

    by_step : a.number + 1 ≢ b.number → b.number + 1 ≢ a.number → ¬ AreSame → AreInStep members first second (Some a) (Some b) → ⊥
    by_step not_next not_before none (inl is) = none is
    by_step not_next not_before none (inr (inl next)) = not_next next
    by_step not_next not_before none (inr (inr before)) = not_before before

-- what is false of none of the numbers below n is not false of all of them
pub not_false_below : (P : ℕ → Type 0) (n : ℕ) → ((k : ℕ) → k < n → ¬ ¬ P k) → ¬ ¬ ((k : ℕ) → k < n → P k)
not_false_below P zero each none = none (λ k below. absurd (omega (arith, below)))
not_false_below P (suc n) each none =
    not_false_below P n (λ k below. each k (omega (arith, below))) (λ so_far.
    each n (omega arith) (λ last.
    none (λ k below. elim (cases_eq k n) [
      | inl is ↦ subst P (sym is) last
      | inr apart ↦ so_far k (omega (arith, below, apart))
    ])))

-- the rows
pub rows_stay_beyond : (devices : ℕ) (table new : Table) (image other : Slots) (X : List (List Bytes)) → ¬ ¬ AreSameBeyond devices table new image other
    → HasRows devices table X (IsLiveJournal devices table image) image → HasRows devices new X (IsLiveJournal devices new other) other
rows_stay_beyond devices table new image other X not_false has = record {
  sound = λ rows are. sound_stable rows (row_count new) (λ none. not_false (λ same.
      none ((rows_beyond devices table new image other X same has).sound rows are)));
  listed = λ rows are. listed_stable X (logical_list new.geometry rows) (λ none. not_false (λ same.
      none ((rows_beyond devices table new image other X same has).listed rows are)));
}

-- the live journals
pub steps_stay_beyond : Spellings → (devices : ℕ) (table new : Table) (image other : Slots) → ¬ ¬ AreSameBeyond devices table new image other
    → AreJournalsInStep devices table image → AreJournalsInStep devices new other
steps_stay_beyond spellings devices table new image other not_false in_step first second a b live live' last last' =
    step_stable spellings new.geometry.members (other first) (other second) a b (λ none. not_false (λ same.
    none (steps_beyond devices table new image other same in_step first second a b live live' last last')))
