-- Rows of the rebuilding member of a store's set are rebuilt.
use Rattle.std.proofs.Common.{◌≡◌, ◌≢◌, ◌⊎◌, inl, inr, ℕ, zero, suc, ◌+◌, ◌<◌, ◌≤◌, ◌==◌, Bool, true, false, cond, not, List, [], ◌∷◌, length, take, Some, None}
use Rattle.std.proofs.Common.{Result, Ok, Err, refl, sym, ap, ◌∙◌, arith}
use Rattle.std.specs.Prelude.{slice_set}
use Rattle.std.proofs.lemmas.Bool.{cases_eq, eq-eqb, ne_eqb, true≢false}
use Rattle.std.proofs.lemmas.List.{get_or-set_other, get_or-set_same}
use Rattle.std.proofs.Math.Seq.{take-set-lt}
use Rattle.sector_model.specs.declared.refusal.Refusal.{Refusal}
use Rattle.sector_model.specs.declared.refusal.Refusal.TheVariants.{NothingToRebuild, TwoLost, Worn}
use Rattle.superblock.specs.declared.state.State.{State}
use Rattle.superblock.specs.declared.state.State.TheVariants.{InSync, Missing, Rebuilding}
use Rattle.layout_map.specs.Formats.{rebuild_rows}
use Rattle.superblock.specs.declared.table.Table.{Table}
use Rattle.superblock.specs.NextTables.{IsNext, slots_of}
use Rattle.superblock.specs.States.{has_rebuilding, position_in}
use Rattle.superblock.specs.Tables.{incarnation_at, state_at}
use Rattle.array_io.specs.Believed.Holds.{row_count}
use Rattle.array_io.specs.Believed.Views.{ArrayView, EndsIt, HasEnded, IsEndOf, KeepsItsState}
use Rattle.rebuild.specs.declared.progress.Progress as declared
use Rattle.rebuild.specs.Rebuilding.{Complete, IsAfterStep, IsNoStep, IsRebuilding, IsSteppedOrNot, Position, Progress, StepsRebuild, end_of_step, stepped}
use Rattle.rebuild.specs.Stepping.{answer_by, progress_by}
use Rattle.volume_table.specs.SetReplies.{changed_set, rebuilt, set_answer, set_refusal, settled, with_faults}
use Rattle.volume_table.specs.Stands.{StoreView}
use Rattle.volume_table.specs.StoreCalls.{IsCounterFull, SetIsLeft, set_of}
use Rattle.volume_table.specs.StoreFunctions.{RebuildsRows, progress_reply}
use Rattle.volume_table.specs.VolumeStep.{OnSet, Progressed, RebuildStep, Refused}
use Rattle.volume_table.proofs.OnSet.{ActsOnSet, KeepsRefusal, acts_on_set, are_devices, devices_leave, fault_is_missing, faults_keep, kept_if_done}
use Rattle.volume_table.proofs.OnSet.{kept_if_refused, none_rebuilding, refused_replies, set_left_by, state_in, states_in}
use Rattle.volume_table.proofs.RebuildCount.{set_rebuilds}
use Rattle.volume_table.proofs.StoreSteps.{devices_in, has_fault, length-set_of, made, no_position, same_slots, slot_spared, states_left}

-- ---- which member is rebuilding

rebuilding_at : (states : List State) → has_rebuilding states ≡ true
    → (k : ℕ) × (k < length states) × (state_at states k ≡ Rebuilding)
rebuilding_at [] is = absurd (true≢false (sym is))
rebuilding_at (Rebuilding ∷ states) is = (0, omega arith, refl)
rebuilding_at (Missing ∷ states) is = let found = rebuilding_at states is in (suc found.0, omega (arith, found.1), found.2)
rebuilding_at (InSync ∷ states) is = let found = rebuilding_at states is in (suc found.0, omega (arith, found.1), found.2)

-- by a table a member is rebuilding, or none is
rebuilding_or_none : (table : Table)
    → ((member : ℕ) × IsRebuilding table member) ⊎ ((member : ℕ) → ¬ IsRebuilding table member)
rebuilding_or_none table = by_case (has_rebuilding (states_in table)) refl
  where
    by_case : (b : Bool) → has_rebuilding (states_in table) ≡ b
        → ((member : ℕ) × IsRebuilding table member) ⊎ ((member : ℕ) → ¬ IsRebuilding table member)
    by_case true is =
        let found = rebuilding_at (states_in table) is in
        let state : state_at table.states found.0 ≡ Rebuilding = sym (state_in table found.0 (omega (arith, found.1, length-set_of table))) ∙ found.2 in
        inl (found.0, record { of_set = table.allowed.rebuilds_member found.0 state; state = state })
    by_case false is = inr (λ member rebuilding. true≢false (sym (set_rebuilds table member rebuilding) ∙ is))

-- where none is, no slot of the set is
none_in_set : (table : Table) → ((member : ℕ) → ¬ IsRebuilding table member) → has_rebuilding (states_in table) ≡ false
none_in_set table none = none_rebuilding (states_in table) (λ k below rebuilding.
    let state : state_at table.states k ≡ Rebuilding = sym (state_in table k (omega (arith, below, length-set_of table))) ∙ rebuilding in
    none k record { of_set = table.allowed.rebuilds_member k state; state = state })

of_the_set : (table : Table) (member : ℕ) → IsRebuilding table member → member < slots_of table
of_the_set table member is = omega (arith, is.of_set)

not_both : (state : State) → state ≡ Rebuilding → state ≡ InSync → ⊥
not_both state rebuilding in_sync = let both : Rebuilding ≡ InSync = sym rebuilding ∙ in_sync in cc

no_rebuilding_missing : (state : State) → state ≡ Rebuilding → state ≡ Missing → ⊥
no_rebuilding_missing state rebuilding missing = let both : Rebuilding ≡ Missing = sym rebuilding ∙ missing in cc

no_in_sync_missing : (state : State) → state ≡ InSync → state ≡ Missing → ⊥
no_in_sync_missing state in_sync missing = let both : InSync ≡ Missing = sym in_sync ∙ missing in cc

-- no other slot is out
alone : (table : Table) (member : ℕ) → IsRebuilding table member → (k : ℕ) → k < length (states_in table)
    → state_at (states_in table) k ≡ Rebuilding → k ≡ member
alone table member is k below rebuilding =
    let of_set : k < slots_of table = omega (arith, below, length-set_of table) in
    table.allowed.one_out k member of_set (of_the_set table member is)
    (not_both (state_at table.states k) (sym (state_in table k of_set) ∙ rebuilding)) (not_both (state_at table.states member) is.state)

-- ---- the rebuilding member in sync

same_if_none : (states : List State) → ((k : ℕ) → k < length states → state_at states k ≢ Rebuilding)
    → rebuilt states ≡ states
same_if_none [] none = refl
same_if_none (InSync ∷ states) none = ap (λ (ss : List State). InSync ∷ ss) (same_if_none states (λ k below. none (suc k) (omega (arith, below))))
same_if_none (Missing ∷ states) none = ap (λ (ss : List State). Missing ∷ ss) (same_if_none states (λ k below. none (suc k) (omega (arith, below))))
same_if_none (Rebuilding ∷ states) none = absurd (none 0 (omega arith) refl)

suc_apart : (k : ℕ) → suc k ≡ 0 → ⊥
suc_apart k is = omega (arith, is)

rebuilt_is : (states : List State) (member : ℕ) → state_at states member ≡ Rebuilding
    → ((k : ℕ) → k < length states → state_at states k ≡ Rebuilding → k ≡ member)
    → rebuilt states ≡ slice_set states member InSync
rebuilt_is [] member is one = refl
rebuilt_is (Rebuilding ∷ states) zero is one =
    ap (λ (ss : List State). InSync ∷ ss) (same_if_none states (λ k below rebuilding. suc_apart k (one (suc k) (omega (arith, below)) rebuilding)))
rebuilt_is (InSync ∷ states) zero is one = absurd (not_both InSync is refl)
rebuilt_is (Missing ∷ states) zero is one = absurd (no_rebuilding_missing Missing is refl)
rebuilt_is (Rebuilding ∷ states) (suc member) is one = absurd (suc_apart member (sym (one 0 (omega arith) refl)))
rebuilt_is (InSync ∷ states) (suc member) is one =
    ap (λ (ss : List State). InSync ∷ ss) (rebuilt_is states member is (λ k below rebuilding. omega (arith, one (suc k) (omega (arith, below)) rebuilding)))
rebuilt_is (Missing ∷ states) (suc member) is one =
    ap (λ (ss : List State). Missing ∷ ss) (rebuilt_is states member is (λ k below rebuilding. omega (arith, one (suc k) (omega (arith, below)) rebuilding)))

-- a step of no rows stays
no_step : (most all rows position : ℕ) → rows ≡ 0 → stepped most all rows position ≡ position
no_step most all rows position none = omega (arith, none)

-- ---- the table after a step

-- what its generation and incarnations are
record Counts (old new : Table) : Type 0 where
  generation : new.generation ≤ old.generation + 2
  incarnations : (slot : ℕ) → incarnation_at new.incarnations slot ≡ incarnation_at old.incarnations slot

counts_same : (old new : Table) → new ≡ old → Counts old new
counts_same old new same = record {
  generation = omega (arith, ap (λ (t : Table). t.generation) same);
  incarnations = λ slot. ap (λ (t : Table). incarnation_at t.incarnations slot) same;
}

counts_next : (old new : Table) (states : List State) (position : ℕ) → IsNext old states old.incarnations position new
    → Counts old new
counts_next old new states position next = record {
  generation = omega (arith, next.generation);
  incarnations = λ slot. ap (λ xs. incarnation_at xs slot) next.has_incarnations;
}

counts_two : (old mid new : Table) (states others : List State) (position other : ℕ)
    → IsNext old states old.incarnations position mid → IsNext mid others mid.incarnations other new → Counts old new
counts_two old mid new states others position other first second = record {
  generation = omega (arith, first.generation, second.generation);
  incarnations = λ slot. ap (λ xs. incarnation_at xs slot) (second.has_incarnations ∙ first.has_incarnations);
}

counts_after : (old new : Table) (member rows : ℕ) (progress : Progress) → IsAfterStep old member rows progress new
    → Counts old new
counts_after old new member rows (Position q) (at, below, inl (none, same)) = counts_same old new same
counts_after old new member rows (Position q) (at, below, inr (some, moved)) = counts_next old new _ _ moved
counts_after old new member rows Complete (all, is_rebuilt) = counts_next old new _ _ is_rebuilt

counts_refused : (old new : Table) (member rows : ℕ) → IsSteppedOrNot old member rows new → Counts old new
counts_refused old new member rows is = elim is [
  | inl same ↦ counts_same old new same
  | inr (inl (inl (below, moved))) ↦ counts_next old new _ _ moved
  | inr (inl (inr (all, is_rebuilt))) ↦ counts_next old new _ _ is_rebuilt
  | inr (inr (inl marked)) ↦ counts_next old new _ _ marked
  | inr (inr (inr (mid, inl (below, moved), marked))) ↦ counts_two old mid new _ _ _ _ moved marked
  | inr (inr (inr (mid, inr (all, is_rebuilt), marked))) ↦ counts_two old mid new _ _ _ _ is_rebuilt marked
]

-- what its states are: the member's is not missing, and each other as it was
record IsStepTable (old new : Table) (member : ℕ) : Type 0 where
  there : state_at new.states member ≢ Missing
  others : (k : ℕ) → k ≢ member → state_at new.states k ≡ state_at old.states k

kept_table : (old new : Table) (member : ℕ) → IsRebuilding old member → new.states ≡ old.states
    → IsStepTable old new member
kept_table old new member is same = record {
  there = no_rebuilding_missing (state_at new.states member) (ap (λ states. state_at states member) same ∙ is.state);
  others = λ k apart. ap (λ states. state_at states k) same;
}

step_table : (old new : Table) (member rows : ℕ) (progress : Progress) → IsRebuilding old member
    → IsAfterStep old member rows progress new → IsStepTable old new member
step_table old new member rows (Position q) is (at, below, inl (none, same)) = kept_table old new member is (ap (λ (t : Table). t.states) same)
step_table old new member rows (Position q) is (at, below, inr (some, moved)) = kept_table old new member is moved.has_states
step_table old new member rows Complete is (all, is_rebuilt) = record {
  there = no_in_sync_missing (state_at new.states member) (ap (λ states. state_at states member) is_rebuilt.has_states
      ∙ get_or-set_same old.states member InSync Missing (omega (arith, is.of_set, old.allowed.ten_states, old.geometry.limits.members_most)));
  others = λ k apart. ap (λ states. state_at states k) is_rebuilt.has_states ∙ get_or-set_other old.states member k InSync Missing apart;
}

-- ---- what the command answers and leaves

-- A step of the array's rebuild was taken.
pub record TakesStep (honest : Type 0) (rows : ℕ) (old new : StoreView) (answer : Result Progress Refusal) : Type 0 where
  pub kept : KeepsRefusal Progress old new answer
  pub steps : StepsRebuild honest rows old.array new.array answer

-- an end of the array's call is one of the store's
end_of : (old new : ArrayView) (rows : ℕ) (refusal : Refusal) → IsNoStep old new refusal → EndsIt refusal
    → IsEndOf old new (IsCounterFull (OnSet (RebuildStep rows)) old new) refusal
end_of old new rows TwoLost cause ends = cause
end_of old new rows Worn cause ends = cause
end_of old new rows refusal cause ends = absurd ends

progressed_differs : (progress : Progress) (refusal : Refusal) → Progressed progress ≡ Refused refusal → ⊥
progressed_differs progress refusal same = cc

module _ (honest : Type 0) (rows : ℕ) (old new : StoreView) (answer : Result Progress Refusal) (is : TakesStep honest rows old new answer) where
  slots_same : slots_of new.array.table ≡ slots_of old.array.table
  slots_same = same_slots old.array new.array is.steps.goes_on

  spared : (slot : ℕ) → slot < slots_of old.array.table → state_at old.array.table.states slot ≡ InSync
      → (state_at new.array.table.states slot ≡ InSync) ⊎ (new.array.panel.down slot ≡ true)
  spared slot of_set in_sync = elim (rebuilding_or_none old.array.table) [
    | inl (member, rebuilding) ↦ elim (cases_eq slot member) [
      | inl same ↦ absurd (not_both (state_at old.array.table.states member) rebuilding.state (sym (ap (state_at old.array.table.states) same) ∙ in_sync))
      | inr apart ↦ slot_spared old.array new.array slot (is.steps.others member rebuilding slot of_set apart) in_sync
    ]
    | inr none ↦ inl (ap (λ (a : ArrayView). state_at a.table.states slot) (is.steps.nothing none).1 ∙ in_sync)
  ]

  -- ---- a step that was taken

  -- no slot but one that was missing before answered a fault
  no_faults : (member : ℕ) → IsStepTable old.array.table new.array.table member
      → with_faults (has_fault new.array) (states_in old.array.table) ≡ states_in old.array.table
  no_faults member table = faults_keep (has_fault new.array) (states_in old.array.table) (λ k below fault.
      let of_set : k < slots_of old.array.table = omega (arith, below, length-set_of old.array.table) in
      elim (cases_eq k member) [
        | inl same ↦ absurd (table.there (sym (ap (state_at new.array.table.states) same) ∙ fault_is_missing new.array k fault))
        | inr apart ↦ state_in old.array.table k of_set ∙ sym (table.others k apart) ∙ fault_is_missing new.array k fault
      ])

  admits : (member : ℕ) → IsRebuilding old.array.table member → IsStepTable old.array.table new.array.table member
      → set_refusal (devices_in old.array new.array) (RebuildStep rows) (set_of old.array.table) ≡ None
  admits member rebuilding table =
      ap (λ states. cond (not (has_rebuilding states)) (Some NothingToRebuild) None) (no_faults member table)
      ∙ ap (λ (b : Bool). cond (not b) (Some NothingToRebuild) None) (set_rebuilds old.array.table member rebuilding)

  -- what the step answers and leaves, by whether it is the last one
  answer_is : (last : Bool) → (end_of_step old.array.table rows == row_count old.array.table) ≡ last
      → set_answer (devices_in old.array new.array) (RebuildStep rows) (set_of old.array.table) ≡ cond last (Progressed Complete)
      (Progressed (Position (end_of_step old.array.table rows)))
  answer_is last is_last = ap (λ (b : Bool). cond b (Progressed Complete) (Progressed (Position (end_of_step old.array.table rows)))) is_last

  changed_is : (last : Bool) → (end_of_step old.array.table rows == row_count old.array.table) ≡ last
      → changed_set (devices_in old.array new.array) (RebuildStep rows) (set_of old.array.table)
      ≡ cond last (made (rebuilt (states_in old.array.table)) 0) (made (states_in old.array.table) (end_of_step old.array.table rows))
  changed_is last is_last = ap (λ (b : Bool). cond b (made (rebuilt (states_in old.array.table)) 0)
      (made (states_in old.array.table) (end_of_step old.array.table rows))) is_last

  -- the rows go on
  not_last : (q member : ℕ) → IsAfterStep old.array.table member rows (Position q) new.array.table
      → (end_of_step old.array.table rows == row_count old.array.table) ≡ false
  not_last q member after = ne_eqb (end_of_step old.array.table rows) (row_count old.array.table) (λ same.
      absurd (omega (arith, after.0, after.1, same)))

  same_states : (q member : ℕ) → IsAfterStep old.array.table member rows (Position q) new.array.table
      → states_in old.array.table ≡ states_in new.array.table
  same_states q member after = elim after.2 [
    | inl (none, same) ↦ ap (λ (t : Table). states_in t) (sym same)
    | inr (some, moved) ↦ ap (take (slots_of old.array.table)) (sym moved.has_states) ∙ ap (λ (n : ℕ). take n new.array.table.states) (sym slots_same)
  ]

  position_now : (q member : ℕ) → IsAfterStep old.array.table member rows (Position q) new.array.table
      → end_of_step old.array.table rows ≡ new.array.table.position
  position_now q member after = elim after.2 [
    | inl (none, same) ↦ no_step (rebuild_rows old.array.table.geometry.format) (row_count old.array.table) rows old.array.table.position none ∙ ap
        (λ (t : Table). t.position) (sym same)
    | inr (some, moved) ↦ sym after.0 ∙ sym moved.has_position
  ]

  position_counts : (q member : ℕ) → IsRebuilding old.array.table member
      → IsAfterStep old.array.table member rows (Position q) new.array.table
      → position_in (states_in new.array.table) (end_of_step old.array.table rows) ≡ new.array.table.position
  position_counts q member rebuilding after =
      ap (λ (b : Bool). cond b (end_of_step old.array.table rows) 0)
      (ap has_rebuilding (sym (same_states q member after)) ∙ set_rebuilds old.array.table member rebuilding)
      ∙ position_now q member after

  left_on : (q member : ℕ) → IsRebuilding old.array.table member
      → IsAfterStep old.array.table member rows (Position q) new.array.table → ¬ HasEnded answer
      → SetIsLeft honest (OnSet (RebuildStep rows)) old new (Progressed (Position q))
  left_on q member rebuilding after unended =
      set_left_by honest (RebuildStep rows) old new (Progressed (Position q)) (devices_in old.array new.array) None
      (are_devices honest old.array new.array (λ fair. is.steps.failure fair unended))
      (admits member rebuilding (step_table old.array.table new.array.table member rows (Position q) rebuilding after))
      (ap (λ (p : ℕ). Progressed (Position p)) after.0 ∙ sym (answer_is false (not_last q member after)))
      (ap (settled (devices_in old.array new.array)) (changed_is false (not_last q member after))
      ∙ ap (λ states. settled (devices_in old.array new.array) (made states (end_of_step old.array.table rows))) (same_states q member after)
      ∙ devices_leave old.array new.array (end_of_step old.array.table rows) (position_counts q member rebuilding after))

  -- the last rows
  rebuilt_now : (member : ℕ) → IsRebuilding old.array.table member
      → IsAfterStep old.array.table member rows Complete new.array.table
      → rebuilt (states_in old.array.table) ≡ states_in new.array.table
  rebuilt_now member rebuilding after =
      rebuilt_is (states_in old.array.table) member (state_in old.array.table member (of_the_set old.array.table member rebuilding) ∙ rebuilding.state)
      (alone old.array.table member rebuilding)
      ∙ sym (take-set-lt (slots_of old.array.table) old.array.table.states member InSync (of_the_set old.array.table member rebuilding))
      ∙ ap (take (slots_of old.array.table)) (sym after.1.has_states)
      ∙ ap (λ (n : ℕ). take n new.array.table.states) (sym slots_same)

  no_position_now : (member : ℕ) → IsAfterStep old.array.table member rows Complete new.array.table
      → position_in (states_in new.array.table) 0 ≡ new.array.table.position
  no_position_now member after = either (has_rebuilding (states_in new.array.table)) ∙ sym after.1.has_position
    where
      either : (b : Bool) → cond {A = ℕ} b 0 0 ≡ 0
      either true = refl
      either false = refl

  left_complete : (member : ℕ) → IsRebuilding old.array.table member
      → IsAfterStep old.array.table member rows Complete new.array.table → ¬ HasEnded answer
      → SetIsLeft honest (OnSet (RebuildStep rows)) old new (Progressed Complete)
  left_complete member rebuilding after unended =
      let last = eq-eqb (end_of_step old.array.table rows) (row_count old.array.table) after.0 in
      set_left_by honest (RebuildStep rows) old new (Progressed Complete) (devices_in old.array new.array) None
      (are_devices honest old.array new.array (λ fair. is.steps.failure fair unended))
      (admits member rebuilding (step_table old.array.table new.array.table member rows Complete rebuilding after))
      (sym (answer_is true last))
      (ap (settled (devices_in old.array new.array)) (changed_is true last)
      ∙ ap (λ states. settled (devices_in old.array new.array) (made states 0)) (rebuilt_now member rebuilding after)
      ∙ devices_leave old.array new.array 0 (no_position_now member after))

  -- ---- nothing is to be rebuilt

  keeps_each : IsNoStep old.array new.array NothingToRebuild → (slot : ℕ) → slot < slots_of old.array.table
      → KeepsItsState old.array new.array slot
  keeps_each cause slot of_set = elim (rebuilding_or_none old.array.table) [
    | inl (member, rebuilding) ↦ elim (cases_eq slot member) [
      | inl same ↦
          let lost = cause.1 member rebuilding in
          record { state = inr (ap new.array.panel.down same ∙ lost.0, ap (state_at new.array.table.states) same ∙ lost.1) }
      | inr apart ↦ is.steps.others member rebuilding slot of_set apart
    ]
    | inr none ↦ record { state = inl (ap (λ (a : ArrayView). state_at a.table.states slot) (is.steps.nothing none).1) }
  ]

  left_none : IsNoStep old.array new.array NothingToRebuild → ¬ HasEnded answer
      → SetIsLeft honest (OnSet (RebuildStep rows)) old new (Refused NothingToRebuild)
  left_none cause unended =
      let left = states_left old.array new.array is.steps.goes_on (keeps_each cause) in
      let none : has_rebuilding (states_in new.array.table) ≡ false = none_in_set new.array.table cause.0 in
      set_left_by honest (RebuildStep rows) old new (Refused NothingToRebuild) (devices_in old.array new.array) (Some NothingToRebuild)
      (are_devices honest old.array new.array (λ fair. is.steps.failure fair unended))
      (ap (λ states. cond (not (has_rebuilding states)) (Some NothingToRebuild) None) left
      ∙ ap (λ (b : Bool). cond (not b) (Some NothingToRebuild) None) none) refl
      (ap (λ (states : List State). made states (position_in states old.array.table.position)) left
      ∙ ap (λ (p : ℕ). made (states_in new.array.table) p)
      (ap (λ (b : Bool). cond b old.array.table.position 0) none ∙ sym (no_position new.array.table none)))

  -- ---- what is common to all answers

  step_acts : Counts old.array.table new.array.table
      → (¬ HasEnded answer → SetIsLeft honest (OnSet (RebuildStep rows)) old new (progress_reply answer))
      → ActsOnSet honest (RebuildStep rows) Progress old new answer (progress_reply answer)
  step_acts counts left = record {
    kept = is.kept;
    goes_on = is.steps.goes_on;
    keeps = is.steps.keeps;
    lost_stays = λ lost. refl;
    generation = counts.generation;
    incarnations = λ slot. inl (counts.incarnations slot);
    spared = spared;
    left = left;
    cause = λ refusal refused ends. end_of old.array new.array rows refusal (is.steps.cause refusal refused) ends;
    scrubs = λ fair scrub. absurd scrub;
  }

-- ---- by what the array's call did

left_refused : (honest : Type 0) (rows : ℕ) (old new : StoreView) (refusal : Refusal)
    → TakesStep honest rows old new (Err refusal)
    → IsNoStep old.array new.array refusal → ¬ EndsIt refusal
    → SetIsLeft honest (OnSet (RebuildStep rows)) old new (Refused refusal)
left_refused honest rows old new NothingToRebuild is cause goes = left_none honest rows old new (Err NothingToRebuild) is cause goes
left_refused honest rows old new TwoLost is cause goes = absurd (goes tt)
left_refused honest rows old new Worn is cause goes = absurd (goes tt)
left_refused honest rows old new refusal is cause goes = absurd cause

left_stepped : (honest : Type 0) (rows : ℕ) (old new : StoreView) (progress : Progress)
    → TakesStep honest rows old new (Ok progress) → (member : ℕ) → IsRebuilding old.array.table member
    → SetIsLeft honest (OnSet (RebuildStep rows)) old new (Progressed progress)
left_stepped honest rows old new (Position q) is member rebuilding =
    left_on honest rows old new (Ok (Position q)) is q member rebuilding (is.steps.stepped (Position q) refl member rebuilding) (λ e. e)
left_stepped honest rows old new Complete is member rebuilding =
    left_complete honest rows old new (Ok Complete) is member rebuilding (is.steps.stepped Complete refl member rebuilding) (λ e. e)

counts_of : (honest : Type 0) (rows : ℕ) (old new : StoreView) (refusal : Refusal)
    → TakesStep honest rows old new (Err refusal) → Counts old.array.table new.array.table
counts_of honest rows old new refusal is = elim (rebuilding_or_none old.array.table) [
  | inl (member, rebuilding) ↦ counts_refused old.array.table new.array.table member rows (is.steps.refused refusal refl member rebuilding)
  | inr none ↦ counts_same old.array.table new.array.table (ap (λ (a : ArrayView). a.table) (is.steps.nothing none).1)
]

pub step_applies : (honest : Type 0) (rows : ℕ) (old new : StoreView) (answer : Result Progress Refusal)
    → TakesStep honest rows old new answer → RebuildsRows honest rows old new answer
step_applies honest rows old new (Ok progress) is = elim (rebuilding_or_none old.array.table) [
  | inl (member, rebuilding) ↦
      acts_on_set honest (RebuildStep rows) Progress old new (Ok progress) (Progressed progress)
      record { refused = λ refusal same. absurd (progressed_differs progress refusal same); unended = λ unended. unended }
      (step_acts honest rows old new (Ok progress) is
      (counts_after old.array.table new.array.table member rows progress (is.steps.stepped progress refl member rebuilding))
      (λ unended. left_stepped honest rows old new progress is member rebuilding))
  | inr none ↦ absurd (is.steps.has_member progress refl none)
]
step_applies honest rows old new (Err refusal) is =
    acts_on_set honest (RebuildStep rows) Progress old new (Err refusal) (Refused refusal) (refused_replies Progress refusal)
    (step_acts honest rows old new (Err refusal) is (counts_of honest rows old new refusal is)
    (λ unended. left_refused honest rows old new refusal is (is.steps.cause refusal refl) unended))

-- the refusal that is kept is that of the code's answer
pub kept_by_code : (old new : StoreView) (answer : Result declared.Progress Refusal)
    → KeepsRefusal declared.Progress old new answer → KeepsRefusal Progress old new (answer_by answer)
kept_by_code old new (Ok progress) is = kept_if_done declared.Progress Progress old new progress (progress_by progress) is
kept_by_code old new (Err cause) is = kept_if_refused declared.Progress Progress old new cause is
