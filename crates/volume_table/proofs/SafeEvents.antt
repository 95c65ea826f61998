-- What a store is refused with, and what a refusal leaves: by the records of its calls.
use Rattle.std.proofs.Common.{◌≡◌, ◌≢◌, ◌⊎◌, inl, inr, ℕ, zero, suc, ◌+◌, ◌<◌, Bool, true, false, cond, not, ◌||◌, nat_le, nat_lt, List, [], ◌∷◌, length}
use Rattle.std.proofs.Common.{get_or, Option, Some, None, Err, refl, sym, ap, ap₂, subst, ◌∙◌, arith}
use Rattle.std.specs.Prelude.{Contains, replicate, slice_set}
use Rattle.std.proofs.lemmas.Bool.{ltb-true, true≢false}
use Rattle.std.proofs.lemmas.List.Folds.{list_any_at}
use Rattle.std.proofs.lemmas.Option.{none-some, same_Some}
use Rattle.sector_model.specs.declared.refusal.Refusal.{Refusal}
use Rattle.sector_model.specs.declared.refusal.Refusal.TheVariants.{BadTable, Incomplete, Memory, NotMissing, NothingToRebuild, NotUsable, TwoLost, WouldLose}
use Rattle.sector_model.specs.declared.refusal.Refusal.TheVariants.{Worn}
use Rattle.superblock.specs.declared.state.State.{State}
use Rattle.superblock.specs.declared.state.State.TheVariants.{InSync, Missing, Rebuilding}
use Rattle.superblock.specs.declared.table.Table.{Table}
use Rattle.superblock.specs.Cases.{Lost}
use Rattle.superblock.specs.Counted.{least_sectors}
use Rattle.superblock.specs.NextTables.{slots_of}
use Rattle.superblock.specs.States.{has_rebuilding, is_complete, is_rebuilding}
use Rattle.array_io.specs.Believed.Views.{ArrayView, EndsIt}
use Rattle.rebuild.specs.Rebuilding.{Complete, IsNotMissing, IsRebuilding, IsUnusable, Position}
use Rattle.recovery.specs.Making.{BankView}
use Rattle.volume_table.specs.Volumes.{VolumeMap}
use Rattle.volume_table.specs.VolumeStep.{Command, Done, Event, Fail, OnSet, OnVolumes, Progressed}
use Rattle.volume_table.specs.VolumeStep.{RebuildStep, Refused, Replace, Reply, Scrub, ScrubRows, Scrubbed}
use Rattle.volume_table.specs.VolumeStep.{SetCommand, first_refusal, left_by, or_refused, volumes_after}
use Rattle.volume_table.specs.SetReplies.{Devices, set_answer, set_refusal, set_reply, with_faults}
use Rattle.volume_table.specs.Stands.{IsSettledAfter, IsSettledOn, StoreView}
use Rattle.volume_table.specs.StoreCalls.{Applies, AreDevicesOf, GoesThrough, IsAnswered, SetIsLeft, extents_for_store, lost_in, lost_unless, no_devices}
use Rattle.volume_table.specs.StoreCalls.{set_of}
use Rattle.volume_table.specs.StoreFunctions.{Answer, DoesNothing, EndsAtEvent, RunEnds}
use Rattle.volume_table.specs.Opening.{IsNoOpening, WasGivenUp}
use Rattle.volume_table.specs.SafeLaw.{AnswersAlways, Asks, EndedStoresAnswerAlways, EventsAreRefusedForCause}
use Rattle.volume_table.specs.SafeLaw.{IsOutOrDown, IsOwnRefusal, IsSetRefused, OpenStoresGoOn}
use Rattle.volume_table.specs.SafeLaw.{OpeningIsRefusedForCause, RefusalsLeaveVolumes, RunsAreRefusedForCause, none_asked, then_asked}
use Rattle.volume_table.proofs.EndedStore.{ends_or_not}
use Rattle.volume_table.proofs.OnSet.{refused_differ, state_in}
use Rattle.volume_table.proofs.ReplacedDevice.{filled_if, is_filled, missing_or_not, not_filled}
use Rattle.volume_table.proofs.SetLemmas.{length-with_faults}
use Rattle.volume_table.proofs.StepLemmas.{refused_changes_nothing}
use Rattle.volume_table.proofs.StoreSteps.{length-set_of}

done_differs : (refusal : Refusal) → Done ≡ Refused refusal → ⊥
done_differs refusal is = cc

-- ---- which check refused

by_two : (b c : Bool) (first second refusal : Refusal) → or_refused (first_refusal ((b, first) ∷ (c, second) ∷ [])) Done ≡ Refused refusal
    → ((b ≡ true) × (refusal ≡ first)) ⊎ ((b ≡ false) × (c ≡ true) × (refusal ≡ second))
by_two true c first second refusal is = inl (refl, sym (refused_differ first refusal is))
by_two false true first second refusal is = inr (refl, refl, sym (refused_differ second refusal is))
by_two false false first second refusal is = absurd (done_differs refusal is)

by_one : (b : Bool) (first refusal : Refusal) (answer : Reply) → (answer ≡ Refused refusal → ⊥)
    → or_refused (first_refusal ((b, first) ∷ [])) answer ≡ Refused refusal → (b ≡ true) × (refusal ≡ first)
by_one true first refusal answer never is = (refl, sym (refused_differ first refusal is))
by_one false first refusal answer never is = absurd (never is)

either_true : (b c : Bool) → (b || c) ≡ true → (b ≡ true) ⊎ (c ≡ true)
either_true true c is = inl refl
either_true false c is = inr is

not_true : (b : Bool) → not b ≡ true → b ≡ false
not_true true is = sym is
not_true false is = refl

-- ---- a slot is given up

fail_refused : (devices : Devices) (slot : ℕ) (old new : ArrayView) (refusal : Refusal) → Refused refusal ≡ set_reply devices (Fail slot) (set_of old.table)
    → IsSetRefused (Fail slot) old new refusal
fail_refused devices slot old new refusal is =
    let others = not (is_complete (slice_set (set_of old.table).states slot InSync)) in
    let beyond = nat_le (length (set_of old.table).states) slot in
    elim (by_two others beyond WouldLose NotMissing refusal (sym is)) [
      | inl (out, which) ↦ subst (λ (r : Refusal). IsSetRefused (Fail slot) old new r) (sym which)
          (ap (λ (b : Bool). first_refusal ((b, WouldLose) ∷ (beyond, NotMissing) ∷ [])) out)
      | inr (none, past, which) ↦ subst (λ (r : Refusal). IsSetRefused (Fail slot) old new r) (sym which)
          (ap₂ (λ (b c : Bool). first_refusal ((b, WouldLose) ∷ (c, NotMissing) ∷ [])) none past)
    ]

-- ---- a slot is given a device

filled_is : (table : Table) (slot : ℕ) → is_filled table slot ≡ true → IsNotMissing table slot
filled_is table slot filled = elim (missing_or_not table slot) [
  | inl (of_set, missing) ↦ absurd (true≢false (sym filled ∙ not_filled table slot of_set missing))
  | inr other_than ↦ other_than
]

of_set_if_not : (table : Table) (slot : ℕ) → is_filled table slot ≡ false → slot < slots_of table
of_set_if_not table slot not_so = elim (missing_or_not table slot) [
  | inl (of_set, missing) ↦ of_set
  | inr other_than ↦ absurd (true≢false (sym (filled_if table slot other_than) ∙ not_so))
]

unusable_is : (old : ArrayView) (slot : ℕ) → (old.panel.down slot || nat_lt (old.panel.sectors slot) (least_sectors old.table.geometry slot)) ≡ true
    → IsUnusable old slot
unusable_is old slot is = elim (either_true (old.panel.down slot) (nat_lt (old.panel.sectors slot) (least_sectors old.table.geometry slot)) is) [
  | inl down ↦ inl down
  | inr short ↦ inr (ltb-true (old.panel.sectors slot) (least_sectors old.table.geometry slot) short)
]

replace_refused : (honest : Type 0) (devices : Devices) (slot : ℕ) (old new : ArrayView) (refusal : Refusal)
    → AreDevicesOf honest old.table old.panel new.panel new.history devices
    → Refused refusal ≡ set_reply devices (Replace slot) (set_of old.table) → IsSetRefused (Replace slot) old new refusal
replace_refused honest devices slot old new refusal are is =
    elim (by_two (is_filled old.table slot) (devices.unusable slot || devices.faults slot) NotMissing NotUsable refusal (sym is)) [
      | inl (filled, which) ↦ subst (λ (r : Refusal). IsSetRefused (Replace slot) old new r) (sym which) (filled_is old.table slot filled)
      | inr (there, useless, which) ↦ subst (λ (r : Refusal). IsSetRefused (Replace slot) old new r) (sym which)
          (elim (either_true (devices.unusable slot) (devices.faults slot) useless) [
            | inl unusable ↦ inl (unusable_is old slot (sym (are.unusable slot (of_set_if_not old.table slot there)) ∙ unusable))
            | inr fault ↦ inr (are.is_down slot (of_set_if_not old.table slot there) fault)
          ])
    ]

-- ---- a step of a rebuild

-- a slot whose device answers no fault keeps its state
spared_state : (faults : ℕ → Bool) (states : List State) (slot : ℕ) → faults slot ≡ false
    → get_or (with_faults faults states) slot Missing ≡ get_or states slot Missing
spared_state faults [] slot none = refl
spared_state faults (state ∷ states) zero none = ap (λ (b : Bool). cond b Missing state) none
spared_state faults (state ∷ states) (suc k) none =
    let next : k + 1 ≡ suc k = omega arith in spared_state (λ slot. faults (slot + 1)) states k (ap faults next ∙ none)

no_progress_is_refused : (b : Bool) (position : ℕ) (refusal : Refusal)
    → cond {A = Reply} b (Progressed Complete) (Progressed (Position position)) ≡ Refused refusal → ⊥
no_progress_is_refused true position refusal is = cc
no_progress_is_refused false position refusal is = cc

step_is_no_refusal : (devices : Devices) (rows : ℕ) (table : Table) (refusal : Refusal) → set_answer devices (RebuildStep rows) (set_of table) ≡ Refused refusal
    → ⊥
step_is_no_refusal devices rows table refusal is = no_progress_is_refused _ _ refusal is

step_refused : (honest : Type 0) (devices : Devices) (rows : ℕ) (old new : ArrayView) (refusal : Refusal)
    → AreDevicesOf honest old.table old.panel new.panel new.history devices
    → Refused refusal ≡ set_reply devices (RebuildStep rows) (set_of old.table) → IsSetRefused (RebuildStep rows) old new refusal
step_refused honest devices rows old new refusal are is =
    subst (λ (r : Refusal). IsSetRefused (RebuildStep rows) old new r) (sym refused.1)
    (λ member rebuilding. by_fault member rebuilding (devices.faults member) refl)
  where
    refused : (not (has_rebuilding (with_faults devices.faults (set_of old.table).states)) ≡ true) × (refusal ≡ NothingToRebuild)
    refused = by_one (not (has_rebuilding (with_faults devices.faults (set_of old.table).states))) NothingToRebuild refusal
        (set_answer devices (RebuildStep rows) (set_of old.table)) (step_is_no_refusal devices rows old.table refusal) (sym is)

    of_set : (member : ℕ) → IsRebuilding old.table member → member < slots_of old.table
    of_set member rebuilding = omega (arith, rebuilding.of_set)

    by_fault : (member : ℕ) → IsRebuilding old.table member → (b : Bool) → devices.faults member ≡ b → new.panel.down member ≡ true
    by_fault member rebuilding true fault = are.is_down member (of_set member rebuilding) fault
    by_fault member rebuilding false none = absurd (true≢false
        (sym (list_any_at is_rebuilding (with_faults devices.faults (set_of old.table).states) member Missing
        (omega (arith, of_set member rebuilding, length-set_of old.table, length-with_faults devices.faults (set_of old.table).states))
        (ap is_rebuilding (spared_state devices.faults (set_of old.table).states member none ∙ state_in old.table member (of_set member rebuilding)
        ∙ rebuilding.state)))
        ∙ not_true (has_rebuilding (with_faults devices.faults (set_of old.table).states)) refused.0))

-- ---- a scrub

-- a slot that is not in sync, or whose device answers a fault
record IsOutAt (faults : ℕ → Bool) (states : List State) : Type 0 where
  slot : ℕ
  within : slot < length states
  out : (get_or states slot Missing ≢ InSync) ⊎ (faults slot ≡ true)

one_more_out : (faults : ℕ → Bool) (state : State) (states : List State) → IsOutAt (λ slot. faults (slot + 1)) states → IsOutAt faults (state ∷ states)
one_more_out faults state states is = record {
  slot = suc is.slot;
  within = omega (arith, is.within);
  out = elim is.out [
    | inl other ↦ inl other
    | inr fault ↦ let next : is.slot + 1 ≡ suc is.slot = omega arith in inr (sym (ap faults next) ∙ fault)
  ];
}

some_out_from : (faults : ℕ → Bool) (state : State) (states : List State) → is_complete (with_faults faults (state ∷ states)) ≡ false
    → (is_complete (with_faults (λ slot. faults (slot + 1)) states) ≡ false → IsOutAt (λ slot. faults (slot + 1)) states) → IsOutAt faults (state ∷ states)
some_out_from faults state states is rest = by_fault (faults 0) refl
  where
    by_state : (s : State) → state ≡ s → faults 0 ≡ false → IsOutAt faults (state ∷ states)
    by_state InSync same none = one_more_out faults state states (rest
        (sym (ap (λ (t : State). is_complete (t ∷ with_faults (λ slot. faults (slot + 1)) states)) (ap (λ (b : Bool). cond b Missing state) none ∙ same)) ∙ is))
    by_state Missing same none = record { slot = 0; within = omega arith; out = inl (λ in_sync. let never : Missing ≡ InSync = sym same ∙ in_sync in cc) }
    by_state Rebuilding same none = record { slot = 0; within = omega arith; out = inl (λ in_sync. let never : Rebuilding ≡ InSync = sym same ∙ in_sync in cc) }

    by_fault : (b : Bool) → faults 0 ≡ b → IsOutAt faults (state ∷ states)
    by_fault true fault = record { slot = 0; within = omega arith; out = inr fault }
    by_fault false none = by_state state refl none

some_out : (faults : ℕ → Bool) (states : List State) → is_complete (with_faults faults states) ≡ false → IsOutAt faults states
some_out faults [] is = absurd (true≢false is)
some_out faults (state ∷ states) is = some_out_from faults state states is (λ rest. some_out (λ slot. faults (slot + 1)) states rest)

no_report_is_refused : (rows bad : ℕ) (first_bad : Option ℕ) (refusal : Refusal) → Scrubbed rows bad first_bad ≡ Refused refusal → ⊥
no_report_is_refused rows bad first_bad refusal is = cc

-- whatever a scrub would have told
scrub_refused : (honest : Type 0) (devices : Devices) (old new : ArrayView) (refusal : Refusal) (rows bad : ℕ) (first_bad : Option ℕ)
    → AreDevicesOf honest old.table old.panel new.panel new.history devices
    → Refused refusal ≡ or_refused (set_refusal devices Scrub (set_of old.table)) (Scrubbed rows bad first_bad)
    → (refusal ≡ Incomplete) × IsOutOrDown old new
scrub_refused honest devices old new refusal rows bad first_bad are is = (
  refused.1,
  record {
    slot = there.slot;
    of_set = of_set;
    out = elim there.out [
      | inl other ↦ inl (λ in_sync. other (state_in old.table there.slot of_set ∙ in_sync))
      | inr fault ↦ inr (are.is_down there.slot of_set fault)
    ];
  },
)
  where
    refused : (not (is_complete (with_faults devices.faults (set_of old.table).states)) ≡ true) × (refusal ≡ Incomplete)
    refused = by_one (not (is_complete (with_faults devices.faults (set_of old.table).states))) Incomplete refusal
        (Scrubbed rows bad first_bad) (no_report_is_refused rows bad first_bad refusal) (sym is)

    there : IsOutAt devices.faults (set_of old.table).states
    there = some_out devices.faults (set_of old.table).states (not_true (is_complete (with_faults devices.faults (set_of old.table).states)) refused.0)

    of_set : there.slot < slots_of old.table
    of_set = omega (arith, there.within, length-set_of old.table)

-- ---- an event, a run and an opening

set_refused : (honest : Type 0) (command : SetCommand) (old new : StoreView) (refusal : Refusal) → SetIsLeft honest (OnSet command) old new (Refused refusal)
    → IsSetRefused command old.array new.array refusal
set_refused honest (Fail slot) old new refusal is = fail_refused is.devices slot old.array new.array refusal is.left.replied
set_refused honest (Replace slot) old new refusal is = replace_refused honest is.devices slot old.array new.array refusal is.are is.left.replied
set_refused honest (RebuildStep rows) old new refusal is = step_refused honest is.devices rows old.array new.array refusal is.are is.left.replied
set_refused honest Scrub old new refusal is =
    let why = scrub_refused honest is.devices old.array new.array refusal _ _ _ is.are is.left.replied in
    subst (λ (r : Refusal). IsSetRefused Scrub old.array new.array r) (sym why.0) why.1
set_refused honest (ScrubRows first rows) old new refusal is =
    let why = scrub_refused honest is.devices old.array new.array refusal _ _ _ is.are is.left.replied in
    subst (λ (r : Refusal). IsSetRefused (ScrubRows first rows) old.array new.array r) (sym why.0) why.1

own_refusal : (honest : Type 0) (event : Event) (old new : StoreView) (refusal : Refusal) → ¬ EndsIt refusal
    → GoesThrough honest event old new (Refused refusal)
    → IsOwnRefusal event old.array new.array refusal
own_refusal honest (OnVolumes command) old new refusal goes is = elim is.listed [ inl among ↦ among | inr ends ↦ absurd (goes ends) ]
own_refusal honest (OnSet command) old new refusal goes is = set_refused honest command old new refusal (is.set_left goes)

pub events_are_refused_for_cause : (honest : Type 0) → EventsAreRefusedForCause honest
events_are_refused_for_cause honest event old new reply refusal going applies is = elim (ends_or_not refusal) [
  | inl ends ↦ inl ((applies.going going).ends refusal is ends).1
  | inr goes ↦ inr (own_refusal honest event old new refusal goes (subst (λ (r : Reply). GoesThrough honest event old new r) is (applies.going going)))
]

run_by_refusal : (honest : Type 0) (events : List Event) (old new : StoreView) (acks_before acks_after : List ℕ) (refusal : Refusal)
    → RunEnds honest events old new acks_before acks_after (Err refusal)
    → ((refusal ≡ Memory) × DoesNothing old new acks_before acks_after) ⊎ EndsAtEvent honest events old new acks_before acks_after refusal
run_by_refusal honest events old new acks_before acks_after Memory is = inl (refl, is)
run_by_refusal honest events old new acks_before acks_after refusal is = inr is

pub runs_are_refused_for_cause : (honest : Type 0) → RunsAreRefusedForCause honest
runs_are_refused_for_cause honest events old new acks_before acks_after result refusal going runs is =
    run_by_refusal honest events old new acks_before acks_after refusal
    (subst (λ (a : Answer). RunEnds honest events old new acks_before acks_after a) is (runs.going going))

opening_by_refusal : (honest : Type 0) (old : ArrayView) (bank : BankView) (refusal : Refusal) → IsNoOpening honest old bank refusal
    → (refusal ≡ BadTable) ⊎ WasGivenUp honest old bank refusal
opening_by_refusal honest old bank BadTable is = inl refl
opening_by_refusal honest old bank TwoLost is = inr is
opening_by_refusal honest old bank Worn is = inr is
opening_by_refusal honest old bank refusal is = absurd is

pub opening_is_refused_for_cause : (honest : Type 0) → OpeningIsRefusedForCause honest
opening_is_refused_for_cause honest old outcome bank refusal opens is = opening_by_refusal honest old bank refusal (opens.cause bank refusal is)

-- ---- what a refusal leaves

volumes_stay : (event : Event) (old : StoreView) (refusal : Refusal) (lost : Option Lost) (volumes : VolumeMap) → IsSettledOn old lost volumes
    → IsAnswered event old (Refused refusal) → left_by (extents_for_store old) event volumes ≡ volumes
volumes_stay (OnVolumes command) old refusal lost volumes settled answered = elim (answered lost volumes settled) [
  | inl said ↦ refused_changes_nothing (extents_for_store old) command volumes refusal (sym said)
  | inr lacks ↦ ap (λ (c : Command). volumes_after (extents_for_store old) c volumes) lacks.listing
]
volumes_stay (OnSet command) old refusal lost volumes settled answered = refl

lost_unless_done : (refused : Option Refusal) (refusal : Refusal) (lost : Option Lost) (slot : ℕ) → or_refused refused Done ≡ Refused refusal
    → lost_unless refused lost slot ≡ lost
lost_unless_done None refusal lost slot is = absurd (done_differs refusal is)
lost_unless_done (Some other) refusal lost slot is = refl

lost_stays : (honest : Type 0) (event : Event) (old new : StoreView) (refusal : Refusal) (lost : Option Lost) → SetIsLeft honest event old new (Refused refusal)
    → lost_in event old.array.table lost ≡ lost
lost_stays honest (OnVolumes command) old new refusal lost is = refl
lost_stays honest (OnSet (Fail slot)) old new refusal lost is =
    lost_unless_done (set_refusal no_devices (Fail slot) (set_of old.array.table)) refusal lost slot (sym is.left.replied)
lost_stays honest (OnSet (Replace slot)) old new refusal lost is = refl
lost_stays honest (OnSet (RebuildStep rows)) old new refusal lost is = refl
lost_stays honest (OnSet Scrub) old new refusal lost is = refl
lost_stays honest (OnSet (ScrubRows first rows)) old new refusal lost is = refl

pub refusals_leave_volumes : RefusalsLeaveVolumes
refusals_leave_volumes event old new reply refusal applies is goes lost volumes settled =
    subst (λ (l : Option Lost). IsSettledAfter l new volumes) (lost_stays (Unit {0}) event old new refusal lost (through.set_left goes))
    (subst (λ (those : VolumeMap). IsSettledAfter (lost_in event old.array.table lost) new those)
    (volumes_stay event old refusal lost volumes settled (through.answered tt goes)) (through.settled tt goes lost volumes settled))
  where
    through : GoesThrough (Unit {0}) event old new (Refused refusal)
    through = subst (λ (r : Reply). GoesThrough (Unit {0}) event old new r) is (applies.going settled.going)

-- ---- a store that was ended

asks_stay : (honest : Type 0) (events : List Event) (replies : List Reply) (store new : StoreView) (refusal : Refusal) → store.ended ≡ Some refusal
    → Asks honest events replies store new → (replies ≡ replicate (length events) (Refused refusal)) × (new ≡ store)
asks_stay honest [] [] store new refusal ended none_asked = (refl, refl)
asks_stay honest [] (_ ∷ replies) store new refusal ended asks = elim asks [ ]
asks_stay honest (_ ∷ events) [] store new refusal ended asks = elim asks [ ]
asks_stay honest (_ ∷ events) (_ ∷ replies) store new refusal ended (then_asked mid event reply applies rest) =
    let stays = applies.ended refusal ended in
    let later = asks_stay honest events replies mid new refusal (subst (λ (s : StoreView). s.ended ≡ Some refusal) (sym stays.same) ended) rest in
    (ap₂ (λ (r : Reply) (those : List Reply). r ∷ those) (stays.refused refusal ended) later.0, later.1 ∙ stays.same)

answers_always : (honest : Type 0) (store : StoreView) (refusal : Refusal) → store.ended ≡ Some refusal → AnswersAlways honest store refusal
answers_always honest store refusal ended = record {
  events = λ events replies new asks. asks_stay honest events replies store new refusal ended asks;
  runs = λ events new acks_before acks_after result runs. ((runs.ended refusal ended).refused, (runs.ended refusal ended).nothing);
  status = λ result told. told.ended refusal ended;
}

pub ended_stores_answer_always : (honest : Type 0) → EndedStoresAnswerAlways honest
ended_stores_answer_always honest event old new reply refusal going applies is ends =
    answers_always honest new refusal ((applies.going going).ends refusal is ends).0

-- what ended it was its reply
ended_by : (honest : Type 0) (event : Event) (old new : StoreView) (reply : Reply) (refusal : Refusal) → Applies honest event old new reply → old.ended ≡ None
    → new.ended ≡ Some refusal → EndsIt refusal × (reply ≡ Refused refusal)
ended_by honest event old new (Refused said) refusal applies going ended = elim (ends_or_not said) [
  | inl ends ↦
      let same : said ≡ refusal = same_Some said refusal (sym ((applies.going going).ends said refl ends).0 ∙ ended) in
      (subst EndsIt same ends, ap Refused same)
  | inr on ↦ absurd (none-some refusal (sym ((applies.going going).goes on) ∙ ended))
]
ended_by honest event old new reply refusal applies going ended = absurd (none-some refusal (sym ((applies.going going).goes (λ no. no)) ∙ ended))

past_one : (first : Reply) (replies : List Reply) (reply : Reply) → Contains replies reply → Contains (first ∷ replies) reply
past_one first replies reply (k, below, at) = (suc k, omega (arith, below), at)

-- by what ended the store, if its first event did
ended_among : (honest : Type 0) (event : Event) (events : List Event) (reply : Reply) (replies : List Reply) (old mid new : StoreView) (refusal : Refusal)
    → old.ended ≡ None → Applies honest event old mid reply → Asks honest events replies mid new → new.ended ≡ Some refusal
    → (mid.ended ≡ None → EndsIt refusal × Contains replies (Refused refusal))
    → (o : Option Refusal) → mid.ended ≡ o → EndsIt refusal × Contains (reply ∷ replies) (Refused refusal)
ended_among honest event events reply replies old mid new refusal going applies rest ended later None on =
    ((later on).0, past_one reply replies (Refused refusal) (later on).1)
ended_among honest event events reply replies old mid new refusal going applies rest ended later (Some said) over =
    let same : said ≡ refusal = same_Some said refusal
    (sym over ∙ sym (ap (λ (s : StoreView). s.ended) (asks_stay honest events replies mid new said over rest).1) ∙ ended) in
    let by = ended_by honest event old mid reply refusal applies going (over ∙ ap (λ (r : Refusal). Some r) same) in
    (by.0, (0, omega arith, by.1))

pub open_stores_go_on : (honest : Type 0) → OpenStoresGoOn honest
open_stores_go_on honest [] [] old new going none_asked refusal ended = absurd (none-some refusal (sym going ∙ ended))
open_stores_go_on honest [] (_ ∷ replies) old new going asks refusal ended = elim asks [ ]
open_stores_go_on honest (_ ∷ events) [] old new going asks refusal ended = elim asks [ ]
open_stores_go_on honest (_ ∷ events) (_ ∷ replies) old new going (then_asked mid event reply applies rest) refusal ended =
    ended_among honest event events reply replies old mid new refusal going applies rest ended
    (λ on. open_stores_go_on honest events replies mid new on rest refusal ended) mid.ended refl
