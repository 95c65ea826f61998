-- What one call of an open array leaves of losses: from rest, where it did not end the array, one slot is lost at most at its end too, and the table lacks it.
use Rattle.std.proofs.Common.{◌≡◌, ◌≢◌, ◌⊎◌, inl, inr, ℕ, ◌+◌, ◌<◌, Bool, true, false, List, [], Option, Some, None, refl, sym, ◌∙◌, ap, subst}
use Rattle.std.proofs.lemmas.Bool.{cases_eq}
use Rattle.sector_model.specs.Bank.{IsTrueTo}
use Rattle.sector_model.specs.History.{Bytes, is_down}
use Rattle.layout_map.specs.declared.geometry.Geometry.{Geometry}
use Rattle.superblock.specs.declared.state.State.{State}
use Rattle.superblock.specs.declared.state.State.TheVariants.{InSync, Missing, Rebuilding}
use Rattle.superblock.specs.declared.table.Table.{Table}
use Rattle.superblock.specs.Cases.{Lost}
use Rattle.superblock.specs.Losses.{IsSingleFailure}
use Rattle.superblock.specs.NextTables.{IsComplete, IsOut, slots_of}
use Rattle.superblock.specs.Tables.{state_at}
use Rattle.array_io.specs.Believed.Views.{ArrayView, GoesOn, HasLostOne, RestsOn, StaysButForFailures}
use Rattle.array_io.proofs.Images.Spellings.{Spellings}
use Rattle.array_io.proofs.Laws.Beginning.{live_is_up}
use Rattle.array_io.proofs.Marks.MarkingHolds.{missing_then, state_stays}
use Rattle.array_io.proofs.Rest.AtRestLost.{complete_or_out}

states_differ : ¬ (Missing ≡ InSync)
states_differ e = cc

rebuilding_differs : ¬ (Rebuilding ≡ InSync)
rebuilding_differs e = cc

flags_differ : ¬ (false ≡ true)
flags_differ e = cc

none_some : (one : Lost) → ¬ (None ≡ Some one)
none_some one e = cc

module _ (spellings : Spellings) (honest : Type 0) (fair : honest) (old new : ArrayView) (ended : Type 0) (goes_on : GoesOn old new)
    (stays : StaysButForFailures honest old new ended) (open_still : ¬ ended)
    (true_old : IsTrueTo old.panel old.history) (true_new : IsTrueTo new.panel new.history) where
  same_set : slots_of new.table ≡ slots_of old.table
  same_set = ap (λ (g : Geometry). g.members + 2) goes_on.not_older.same_geometry

  -- a slot that was in sync and is down now is missing
  module _ (lost : Option Lost) (V : List Bytes) (rests : RestsOn old lost V) where
    missing_now : (slot : ℕ) → slot < slots_of old.table → state_at old.table.states slot ≡ InSync → is_down new.history slot ≡ true
        → state_at new.table.states slot ≡ Missing
    missing_now slot of_set in_sync down = stays.failure fair open_still slot of_set record {
      was_up = true_old.down slot
          ∙ live_is_up spellings old.panel.devices old.table old.history slot (rests.there slot of_set (λ gone. states_differ (sym gone ∙ in_sync)));
      is_down = true_new.down slot ∙ down;
    }

    -- so it is the one that was marked
    marked_now : (has : HasLostOne old new) → (slot : ℕ) → slot < slots_of old.table → state_at old.table.states slot ≡ InSync → is_down new.history slot ≡ true
        → slot ≡ has.slot
    marked_now has slot of_set in_sync down = elim (cases_eq slot has.slot) [
      | inl same ↦ same
      | inr apart ↦ absurd (states_differ (sym (missing_now slot of_set in_sync down) ∙ state_stays old.table new.table has.slot has.marked slot apart
          ∙ in_sync))
    ]

    up_unless : (slot : ℕ) → ¬ (is_down new.history slot ≡ true) → is_down new.history slot ≡ false
    up_unless slot not = by_state (is_down new.history slot) refl
      where
        by_state : (b : Bool) → is_down new.history slot ≡ b → is_down new.history slot ≡ false
        by_state true is = absurd (not is)
        by_state false is = is

  -- no slot was lost before
  from_complete : (V : List Bytes) → RestsOn old None V → IsComplete old.table → IsSingleFailure (slots_of old.table) None new.history
  from_complete V rests complete = elim stays.table [
    | inl same ↦ (
      None,
      inl (
        refl,
        λ slot of_set. up_unless None V rests slot (λ down. states_differ (sym (missing_now None V rests slot of_set (complete.in_sync slot of_set) down)
            ∙ ap (λ (t : Table). state_at t.states slot) same ∙ complete.in_sync slot of_set)),
      ),
    )
    | inr has ↦ (
      Some record { slot = has.slot; away = [] },
      inr record {
        slot = has.slot;
        of_set = has.of_set;
        failed = sym (true_new.down has.slot) ∙ has.is_down;
        others = λ slot of_set apart. up_unless None V rests slot (λ down. apart (marked_now None V rests has slot of_set (complete.in_sync slot of_set) down));
        lost = refl;
      },
    )
  ]

  -- another slot than the one that is out is in sync
  others_in_sync : (one slot : ℕ) → IsOut old.table one → slot < slots_of old.table → slot ≢ one → state_at old.table.states slot ≡ InSync
  others_in_sync one slot out of_set apart = by_out (complete_at (state_at old.table.states slot) refl)
    where
      complete_at : (s : State) → state_at old.table.states slot ≡ s → (state_at old.table.states slot ≡ InSync) ⊎ (state_at old.table.states slot ≢ InSync)
      complete_at InSync is = inl is
      complete_at Missing is = inr (λ in_sync. states_differ (sym is ∙ in_sync))
      complete_at Rebuilding is = inr (λ in_sync. rebuilding_differs (sym is ∙ in_sync))

      by_out : (state_at old.table.states slot ≡ InSync) ⊎ (state_at old.table.states slot ≢ InSync) → state_at old.table.states slot ≡ InSync
      by_out (inl in_sync) = in_sync
      by_out (inr also) = absurd (apart (old.table.allowed.one_out slot one of_set out.of_set also out.out))

  -- the one slot that was marked is the one that was out
  marked_is_out : (one : ℕ) → IsOut old.table one → (has : HasLostOne old new) → has.slot ≡ one
  marked_is_out one out has = elim (cases_eq one has.slot) [
    | inl same ↦ sym same
    | inr apart ↦ new.table.allowed.one_out has.slot one (subst (λ (n : ℕ). has.slot < n) (sym same_set) has.of_set)
        (subst (λ (n : ℕ). one < n) (sym same_set) out.of_set)
        (λ in_sync. states_differ (sym (missing_then old.table new.table has.slot has.marked has.of_set) ∙ in_sync))
        (λ in_sync. out.out (sym (state_stays old.table new.table has.slot has.marked one apart) ∙ in_sync))
  ]

  from_out : (V : List Bytes) (lost : Lost) → RestsOn old (Some lost) V → IsOut old.table lost.slot
      → IsSingleFailure (slots_of old.table) (Some lost) new.history
  from_out V lost rests out = (
    Some lost,
    (
      out.of_set,
      refl,
      λ slot of_set apart.
          let in_sync = others_in_sync lost.slot slot out of_set apart in
          up_unless (Some lost) V rests slot (λ down. elim stays.table [
            | inl same ↦ states_differ (sym (missing_now (Some lost) V rests slot of_set in_sync down) ∙ ap (λ (t : Table). state_at t.states slot) same
                ∙ in_sync)
            | inr has ↦ apart (marked_now (Some lost) V rests has slot of_set in_sync down ∙ marked_is_out lost.slot out has)
          ]),
    ),
  )

  out_still : (one : ℕ) → IsOut old.table one → IsOut new.table one
  out_still one out = record {
    of_set = subst (λ (n : ℕ). one < n) (sym same_set) out.of_set;
    out = λ in_sync. elim stays.table [
      | inl same ↦ out.out (ap (λ (t : Table). state_at t.states one) (sym same) ∙ in_sync)
      | inr has ↦ states_differ (sym (missing_then old.table new.table has.slot has.marked has.of_set)
          ∙ ap (state_at new.table.states) (marked_is_out one out has) ∙ in_sync)
    ];
  }

  -- the slot that was lost is the one that the table lacks
  its_out : (V : List Bytes) (lost : Lost) → RestsOn old (Some lost) V → IsOut old.table lost.slot
  its_out V lost rests = elim (complete_or_out old.table) [
    | inl complete ↦ absurd (none_some lost (sym (rests.lost_slot.none complete)))
    | inr out ↦ subst (IsOut old.table) (sym (rests.lost_slot.out out.0 out.1).0) out.1
  ]

  pub single_failure_after : (lost : Option Lost) (V : List Bytes) → RestsOn old lost V → IsSingleFailure (slots_of old.table) lost new.history
  single_failure_after None V rests = elim (complete_or_out old.table) [
    | inl complete ↦ from_complete V rests complete
    | inr out ↦ absurd (flags_differ (rests.lost_slot.out out.0 out.1).1)
  ]
  single_failure_after (Some lost) V rests = from_out V lost rests (its_out V lost rests)

  pub lost_out_after : (lost : Option Lost) (V : List Bytes) → RestsOn old lost V → (one : Lost) → lost ≡ Some one → IsOut new.table one.slot
  lost_out_after lost V rests one is = out_still one.slot (its_out V one (subst (λ (l : Option Lost). RestsOn old l V) is rests))
