-- What an inspection finds in a slot, by a survey.
use Rattle.std.proofs.Common.{◌≡◌, ◌≢◌, inl, inr, ℕ, ◌+◌, ◌<◌, ◌≤◌, List, length, sym, subst, arith}
use Rattle.std.specs.Prelude.{slice_index_or, slice_set}
use Rattle.std.proofs.lemmas.Bool.{cases_eq}
use Rattle.std.proofs.lemmas.List.{get_or-set_other, get_or-set_same}
use Rattle.sector_model.specs.Readable.{readable}
use Rattle.superblock.specs.Cases.{HasNone}
use Rattle.superblock.specs.Counted.{Content, HasIncarnation}
use Rattle.superblock.specs.Tables.{incarnation_at}
use Rattle.recovery.specs.declared.examination.ExaminedSlot.{ExaminedSlot}
use Rattle.recovery.specs.declared.examination.Presence.TheVariants as presence
use Rattle.recovery.specs.declared.examination.Standing.{Standing}
use Rattle.recovery.specs.declared.examination.Standing.TheVariants as standing
use Rattle.recovery.specs.declared.survey.Survey.{Survey}
use Rattle.recovery.specs.Examining.{IsOfIncarnation, IsPresence, IsReason, IsStanding, unexamined}
use Rattle.recovery.specs.Making.{BankView}
use Rattle.recovery.specs.Surveying.{HasGeneration, IsGone, IsOwn, IsOwnGeneration, IsSurveyOf, Tells}
use Rattle.recovery.proofs.Finding.{Honest}
use Rattle.recovery.proofs.SurveyedOut.{is_there_up}

-- Of a slot of the set, by a survey of an honest bank.
module _ (bank : BankView) (survey : Survey) (slot : ℕ) (told : Tells survey.table.id bank.panel.devices (readable bank.history) survey)
    (within : slot < bank.panel.devices) where
  abbrev content : Content
  content = readable bank.history slot

  abbrev own_generation : ℕ
  own_generation = slice_index_or survey.generations slot 0

  abbrev own : ℕ
  own = slice_index_or survey.own slot 0

  -- it has no superblock where its generation is 0
  none_of_zero : own_generation ≡ 0 → HasNone survey.table.id bank.panel.devices slot content
  none_of_zero zero = by_own (told.generation slot within)
    where
      by_own : IsOwnGeneration survey.table.id bank.panel.devices slot content own_generation → HasNone survey.table.id bank.panel.devices slot content
      by_own (inl has) = let least = has.newest.table.allowed.generation_least in absurd (omega (arith, least, has.own, zero))
      by_own (inr none) = none.0

  -- and else it has one of that generation, which is not above the table's, and one of its incarnation
  has_generation : own_generation ≢ 0 → HasGeneration survey.table.id bank.panel.devices slot content own_generation
  has_generation some = by_own (told.generation slot within)
    where
      by_own : IsOwnGeneration survey.table.id bank.panel.devices slot content own_generation
          → HasGeneration survey.table.id bank.panel.devices slot content own_generation
      by_own (inl has) = has
      by_own (inr none) = absurd (some none.1)

  not_above : own_generation ≢ 0 → own_generation ≤ survey.table.generation
  not_above some =
      let has = has_generation some in
      let most = told.chosen.greatest slot has.is_newest.place has.newest has.is_newest.counted in
      omega (arith, most, has.own)

  has_incarnation : own_generation ≢ 0 → HasIncarnation survey.table.id bank.panel.devices slot content own
  has_incarnation some = by_own (told.own slot within)
    where
      by_own : IsOwn survey.table.id bank.panel.devices slot content own → HasIncarnation survey.table.id bank.panel.devices slot content own
      by_own (inl has) = has
      by_own (inr none) = let has = has_generation some in absurd (none.0 has.is_newest.place has.newest has.is_newest.counted)

  -- it is of this incarnation, and as new as the table
  as_new : own_generation ≢ 0 → survey.table.generation ≤ own_generation → IsOfIncarnation bank survey.table slot own
  as_new some least = record {
    has = has_incarnation some;
    generation =
        let most = not_above some in
        let same : own_generation ≡ survey.table.generation = omega (arith, most, least) in
        subst (λ (n : ℕ). HasGeneration survey.table.id bank.panel.devices slot content n) same (has_generation some);
  }

-- why a slot is not live that is there
pub reason_stands : (honest : Type 0) (bank : BankView) (survey : Survey) (slot : ℕ) (why : Standing) → (honest → Honest bank) → IsSurveyOf honest bank survey
    → IsGone honest bank survey.table slot → IsPresence bank survey.table slot presence.There
    → IsReason (slice_index_or survey.generations slot 0) survey.table.generation (slice_index_or survey.own slot 0)
    (incarnation_at survey.table.incarnations slot) why
    → IsStanding honest bank survey.table slot why
reason_stands honest bank survey slot why is_honest surveyed gone there = by_why why
  where
    within : slot < bank.panel.devices
    within = omega (arith, gone.of_set, surveyed.of_bank)

    apart : honest → slice_index_or survey.own slot 0 ≢ incarnation_at survey.table.incarnations slot
    apart fair same = gone.dead fair ((is_there_up honest bank survey slot is_honest gone.of_set surveyed there.0 there.1 same gone.counted).live fair)

    by_why : (why : Standing)
        → IsReason (slice_index_or survey.generations slot 0) survey.table.generation (slice_index_or survey.own slot 0)
        (incarnation_at survey.table.incarnations slot) why
        → IsStanding honest bank survey.table slot why
    by_why standing.Live is = absurd is
    by_why (standing.Rebuilding position) is = absurd is
    by_why standing.CalledMissing is = absurd is
    by_why standing.NotThere is = absurd is
    by_why standing.NoSuperblock zero = (gone, there, λ fair. none_of_zero bank survey slot (surveyed.told fair) within zero)
    by_why standing.OlderGeneration (some, below) = (
      gone,
      there,
      λ fair. record {
        generation = slice_index_or survey.generations slot 0;
        has = has_generation bank survey slot (surveyed.told fair) within some;
        below = below;
        own = slice_index_or survey.own slot 0;
        has_own = has_incarnation bank survey slot (surveyed.told fair) within some;
        other = apart fair;
      },
    )
    by_why standing.LowerIncarnation (some, least, below) =
        (gone, there, λ fair. (slice_index_or survey.own slot 0, as_new bank survey slot (surveyed.told fair) within some least, below))
    by_why standing.HigherIncarnation (some, least, above) = (
      gone,
      there,
      λ fair. (
        slice_index_or survey.own slot 0,
        as_new bank survey slot (surveyed.told fair) within some least,
        above_most (slice_index_or survey.own slot 0) (incarnation_at survey.table.incarnations slot) above (apart fair),
      ),
    )
      where
        above_most : (a b : ℕ) → b ≤ a → a ≢ b → b < a
        above_most a b most other = omega (arith, most, other)

-- what is said of each slot below, and of one more
pub one_more_examined : (P : ℕ → ExaminedSlot → Type 0) (slots : List ExaminedSlot) (n : ℕ) (one : ExaminedSlot) → length slots ≡ 10 → n < 10
    → ((k : ℕ) → k < n → P k (slice_index_or slots k unexamined)) → P n one
    → (k : ℕ) → k < n + 1 → P k (slice_index_or (slice_set slots n one) k unexamined)
one_more_examined P slots n one ten within below here k under = elim (cases_eq k n) [
  | inl is ↦ subst (λ (i : ℕ). P i (slice_index_or (slice_set slots n one) i unexamined)) (sym is)
      (subst (P n) (sym (get_or-set_same slots n one unexamined (omega (arith, within, ten)))) here)
  | inr apart ↦ subst (P k) (sym (get_or-set_other slots n k one unexamined apart)) (below k (omega (arith, under, apart)))
]
