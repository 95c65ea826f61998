-- Which slot is lost, and that one slot is lost at most.
use Rattle.std.proofs.Common.{◌≡◌, ◌≢◌, ◌⊎◌, inl, inr, ℕ, ◌<◌, true, false, [], Option, Some, None, sym, ◌∙◌, ap}
use Rattle.std.proofs.lemmas.Bool.{cases_eq}
use Rattle.sector_model.specs.History.{History, is_down}
use Rattle.superblock.specs.declared.table.Table.{Table}
use Rattle.superblock.specs.Cases.{IsLostAfter, Lost}
use Rattle.superblock.specs.Losses.{IsSingleFailure, OthersAreUp}
use Rattle.superblock.specs.NextTables.{IsComplete, IsOut}

not_both : (table : Table) (slot : ℕ) → IsComplete table → IsOut table slot → ⊥
not_both table slot complete out = out.out (complete.in_sync slot out.of_set)

alone : ℕ → Option Lost
alone slot = Some record { slot = slot; away = [] }

-- by what was lost before and the table then, one slot is lost after a call, or none
pub lost_after_is_one : (before : Option Lost) (table : Table) (first second : Option Lost) → IsLostAfter before table first → IsLostAfter before table second
    → first ≡ second
unfolding alone
lost_after_is_one before table first second (inl a) (inl b) = a.1 ∙ sym b.1
lost_after_is_one None table first second (inl a) (inr b) = absurd (not_both table b.0 a.0 b.1)
lost_after_is_one (Some lost) table first second (inl a) (inr b) = absurd (not_both table lost.slot a.0 b.0)
lost_after_is_one None table first second (inr a) (inl b) = absurd (not_both table a.0 b.0 a.1)
lost_after_is_one (Some lost) table first second (inr a) (inl b) = absurd (not_both table lost.slot b.0 a.0)
lost_after_is_one None table first second (inr a) (inr b) = a.2 ∙ ap alone (table.allowed.one_out a.0 b.0 a.1.of_set b.1.of_set a.1.out b.1.out) ∙ sym b.2
lost_after_is_one (Some lost) table first second (inr a) (inr b) = a.1 ∙ sym b.1

-- the slot is the lost one
abbrev pub IsOfLost : Option Lost → ℕ → Type 0
IsOfLost None slot = ⊥
IsOfLost (Some lost) slot = slot ≡ lost.slot

differ : true ≡ false → ⊥
differ is = cc

is_one : (slots : ℕ) (h : History) (slot other : ℕ) → OthersAreUp slots h slot → other < slots → is_down h other ≡ true → other ≡ slot
is_one slots h slot other up below down = elim (cases_eq other slot) [
  | inl is ↦ is
  | inr apart ↦ absurd (differ (sym down ∙ up other below apart))
]

is_lost : (slots : ℕ) (h : History) (lost : Lost) (other : ℕ) → OthersAreUp slots h lost.slot → other < slots → (is_down h other ≡ true) ⊎ (other ≡ lost.slot)
    → other ≡ lost.slot
is_lost slots h lost other up below (inl down) = is_one slots h lost.slot other up below down
is_lost slots h lost other up below (inr is) = is

-- no two slots are down or lost where one is lost at most
pub not_two_lost : (slots : ℕ) (during : Option Lost) (h : History) → IsSingleFailure slots during h → (first second : ℕ) → first < slots → second < slots
    → first ≢ second
    → (is_down h first ≡ true) ⊎ IsOfLost during first → (is_down h second ≡ true) ⊎ IsOfLost during second → ⊥
not_two_lost slots None h (after, inl (none, up)) first second below below' apart (inl down) out = differ (sym down ∙ up first below)
not_two_lost slots None h (after, inl (none, up)) first second below below' apart (inr never) out = absurd never
not_two_lost slots None h (after, inr failure) first second below below' apart (inr never) out = absurd never
not_two_lost slots None h (after, inr failure) first second below below' apart (inl down) (inr never) = absurd never
not_two_lost slots None h (after, inr failure) first second below below' apart (inl down) (inl down') =
    apart (is_one slots h failure.slot first failure.others below down ∙ sym (is_one slots h failure.slot second failure.others below' down'))
not_two_lost slots (Some lost) h (after, (of_set, is, up)) first second below below' apart out out' =
    apart (is_lost slots h lost first up below out ∙ sym (is_lost slots h lost second up below' out'))
