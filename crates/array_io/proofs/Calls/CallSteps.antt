-- One row of steps after another.
use Rattle.std.proofs.Common.{◌≡◌, ◌≢◌, ◌⊎◌, inl, inr, ℕ, ◌+◌, ◌<◌, ◌≤◌, Bool, true, false, List, refl, sym, ◌∙◌, ap, subst, subst₂, arith}
use Rattle.std.specs.Prelude.{Ok, Err}
use Rattle.std.proofs.lemmas.Bool.{cases_eq}
use Rattle.sector_model.specs.declared.refusal.Refusal.{Refusal}
use Rattle.sector_model.specs.declared.refusal.Refusal.TheVariants.{TwoLost, Worn}
use Rattle.sector_model.specs.declared.calls.TheConstants.{GREATEST_COUNT}
use Rattle.sector_model.specs.History.{History}
use Rattle.sector_model.specs.Moments.{Throughout}
use Rattle.sector_model.proofs.Panels.{later_both}
use Rattle.sector_model.proofs.Steps.{throughout_last, throughout_more, throughout_on}
use Rattle.superblock.specs.declared.state.State.TheVariants.{InSync, Missing}
use Rattle.superblock.specs.declared.table.Table.{Table}
use Rattle.superblock.specs.NextTables.{IsMarked, slots_of}
use Rattle.superblock.specs.Publishing.{place_of}
use Rattle.superblock.specs.Tables.{state_at}
use Rattle.superblock.proofs.LaterTables.{not_older_both}
use Rattle.layout_map.specs.declared.geometry.Geometry.{Geometry}
use Rattle.array_io.specs.Believed.ArrayCalls.{Answer}
use Rattle.array_io.specs.Steps.CallSteps.{IsCarriedOn, IsPublishedAnew, IsPublishedOn, IsStepEnd, StaysDown, StepsOf}
use Rattle.array_io.specs.Believed.Views.{ArrayView, DeviceFailed, GoesOn, HasEnded, HasLostOne, IsEndOf, StaysButForFailures}
use Rattle.array_io.proofs.Marks.MarkingHolds.{missing_then, state_stays}

-- what an array keeps over two stretches
pub goes_on_both : (old mid new : ArrayView) → GoesOn old mid → GoesOn mid new → GoesOn old new
goes_on_both old mid new first second = record {
  later = later_both old.panel mid.panel new.panel first.later second.later;
  not_older = not_older_both old.table mid.table new.table first.not_older second.not_older;
  number = omega (arith, first.number, second.number);
  its_slots = λ has. second.its_slots (first.its_slots has);
}

-- an answer that is a refusal
abbrev pub refused : Refusal → Answer
refused refusal = Err refusal

none_differ : ¬ (Missing ≡ InSync)
none_differ e = cc

-- two slots can't be missing
two_missing : (table : Table) (first second : ℕ) → first < slots_of table → second < slots_of table → state_at table.states first ≡ Missing
    → state_at table.states second ≡ Missing → first ≡ second
two_missing table first second below below' is is' =
    table.allowed.one_out first second below below' (λ in_sync. none_differ (sym is ∙ in_sync)) (λ in_sync. none_differ (sym is' ∙ in_sync))

-- what is missing stays so
missing_stays : (honest : Type 0) (mid new : ArrayView) (ended : Type 0) → StaysButForFailures honest mid new ended → (slot : ℕ) → slot < slots_of mid.table
    → state_at mid.table.states slot ≡ Missing → state_at new.table.states slot ≡ Missing
missing_stays honest mid new ended stays slot of_set missing = elim stays.table [
  | inl same ↦ ap (λ (t : Table). state_at t.states slot) same ∙ missing
  | inr lost ↦ elim (cases_eq slot lost.slot) [
    | inl is ↦ ap (state_at new.table.states) is ∙ missing_then mid.table new.table lost.slot lost.marked lost.of_set
    | inr apart ↦ state_stays mid.table new.table lost.slot lost.marked slot apart ∙ missing
  ]
]

same_set : (old mid : ArrayView) → GoesOn old mid → slots_of mid.table ≡ slots_of old.table
same_set old mid goes = ap (λ (g : Geometry). g.members + 2) goes.not_older.same_geometry

-- one slot may be missing after both, no more
table_both : (honest : Type 0) (old mid new : ArrayView) (ended ended' : Type 0) → GoesOn old mid → GoesOn mid new → StaysButForFailures honest old mid ended
    → StaysButForFailures honest mid new ended'
    → (new.table ≡ old.table) ⊎ HasLostOne old new
table_both honest old mid new ended ended' goes goes' first second = elim first.table [
  | inl same ↦ elim second.table [
    | inl same' ↦ inl (same' ∙ same)
    | inr lost ↦ inr record {
      slot = lost.slot;
      of_set = subst (λ (t : Table). lost.slot < slots_of t) same lost.of_set;
      counted = subst (λ (t : Table). state_at t.states lost.slot ≢ Missing) same lost.counted;
      is_down = lost.is_down;
      marked = subst (λ (t : Table). IsMarked t lost.slot new.table) same lost.marked;
    }
  ]
  | inr lost ↦ elim second.table [
    | inl same' ↦ inr record {
      slot = lost.slot;
      of_set = lost.of_set;
      counted = lost.counted;
      is_down = goes'.later.down lost.slot lost.is_down;
      marked = subst (IsMarked old.table lost.slot) (sym same') lost.marked;
    }
    | inr also ↦
        let gone : state_at mid.table.states lost.slot ≡ Missing = missing_then old.table mid.table lost.slot lost.marked lost.of_set in
        let of_mid : lost.slot < slots_of mid.table = subst (λ (n : ℕ). lost.slot < n) (sym (same_set old mid goes)) lost.of_set in
        let still = missing_stays honest mid new ended' second lost.slot of_mid gone in
        let also_gone = missing_then mid.table new.table also.slot also.marked also.of_set in
        let one = two_missing new.table lost.slot also.slot (subst (λ (n : ℕ). lost.slot < n) (sym (same_set mid new goes')) of_mid)
        (subst (λ (n : ℕ). also.slot < n) (sym (same_set mid new goes')) also.of_set) still also_gone in
        absurd (also.counted (subst (λ (s : ℕ). state_at mid.table.states s ≡ Missing) one gone))
  ]
]

-- a device that failed in both stretches failed in one
failed_in_one : (slot : ℕ) (old mid new : ArrayView) → DeviceFailed slot old.panel new.panel → DeviceFailed slot old.panel mid.panel
    ⊎ DeviceFailed slot mid.panel new.panel
failed_in_one slot old mid new failed = by_state (mid.panel.down slot) refl
  where
    by_state : (b : Bool) → mid.panel.down slot ≡ b → DeviceFailed slot old.panel mid.panel ⊎ DeviceFailed slot mid.panel new.panel
    by_state true down = inl record { was_up = failed.was_up; is_down = down }
    by_state false up = inr record { was_up = up; is_down = failed.is_down }

pub stays_both : (honest : Type 0) (old mid new : ArrayView) (ended : Type 0) → GoesOn old mid → GoesOn mid new → StaysButForFailures honest old mid ⊥
    → StaysButForFailures honest mid new ended
    → StaysButForFailures honest old new ended
stays_both honest old mid new ended goes goes' first second = record {
  table = table_both honest old mid new ⊥ ended goes goes' first second;
  failure = λ is goes_open slot of_set failed. elim (failed_in_one slot old mid new failed) [
    | inl before ↦ missing_stays honest mid new ended second slot (subst (λ (n : ℕ). slot < n) (sym (same_set old mid goes)) of_set)
        (first.failure is (λ e. e) slot of_set before)
    | inr later ↦ second.failure is goes_open slot (subst (λ (n : ℕ). slot < n) (sym (same_set old mid goes)) of_set) later
  ];
}

-- the table's generation went up by one at most
pub one_more : (honest : Type 0) (old mid : ArrayView) (ended : Type 0) → StaysButForFailures honest old mid ended
    → mid.table.generation ≤ old.table.generation + 1
one_more honest old mid ended stays = elim stays.table [
  | inl same ↦ omega (arith, ap (λ (t : Table). t.generation) same)
  | inr lost ↦ omega (arith, lost.marked.generation)
]

-- why steps ended, and why the call did

pub two_or_worn : (old new : ArrayView) (refusal : Refusal) → IsStepEnd old new refusal → (refusal ≡ TwoLost) ⊎ (refusal ≡ Worn)
two_or_worn old new refusal (inl (is, two)) = inl is
two_or_worn old new refusal (inr (inl (is, calls))) = inr is
two_or_worn old new refusal (inr (inr (is, worn, same, there))) = inr is

-- a call whose steps ended so ended for it
pub step_is_end : (old new : ArrayView) (refusal : Refusal) → IsStepEnd old new refusal → IsEndOf old new ⊥ refusal
step_is_end old new refusal (inl (is, two)) = subst (IsEndOf old new ⊥) (sym is) two
step_is_end old new refusal (inr (inl (is, calls))) = subst (IsEndOf old new ⊥) (sym is) (inl (inl calls))
step_is_end old new refusal (inr (inr (is, worn, same, there))) =
    subst (IsEndOf old new ⊥) (sym is) (inl (inr (omega (arith, worn), omega (arith, worn, ap (λ (t : Table). t.generation) same))))

-- what it answered ends the array
pub ended_by : (old new : ArrayView) (refusal : Refusal) → IsStepEnd old new refusal → HasEnded (refused refusal)
ended_by old new refusal end = elim (two_or_worn old new refusal end) [
  | inl two ↦ subst (λ (r : Refusal). HasEnded (refused r)) (sym two) tt
  | inr worn ↦ subst (λ (r : Refusal). HasEnded (refused r)) (sym worn) tt
]

-- the second row of steps ended why both did: the first marked no slot, if the table could have no further generation
pub end_after : (honest : Type 0) (old mid new : ArrayView) → StaysButForFailures honest old mid ⊥ → (refusal : Refusal) → IsStepEnd mid new refusal
    → IsStepEnd old new refusal
end_after honest old mid new stays refusal (inl two) = inl two
end_after honest old mid new stays refusal (inr (inl calls)) = inr (inl calls)
end_after honest old mid new stays refusal (inr (inr (is, worn, same, there))) = elim stays.table [
  | inl as_old ↦ inr (inr (
    is,
    subst (λ (t : Table). GREATEST_COUNT ≤ t.generation) as_old worn,
    same ∙ as_old,
    subst (λ (t : Table). (slot : ℕ) → slot < slots_of t → state_at t.states slot ≢ Missing) as_old there,
  ))
  | inr lost ↦ absurd (there lost.slot (subst (λ (g : Geometry). lost.slot < g.members + 2) (sym lost.marked.same_geometry) lost.of_set)
      (missing_then old.table mid.table lost.slot lost.marked lost.of_set))
]

-- why the second row of steps ended is why both ended: over both the generation went up by one at most
pub end_of_both : (honest : Type 0) (old mid new : ArrayView) (ended : Type 0) → StaysButForFailures honest old new ended → (refusal : Refusal)
    → IsEndOf mid new ⊥ refusal
    → (refusal ≡ TwoLost) ⊎ (refusal ≡ Worn) → IsEndOf old new ⊥ refusal
end_of_both honest old mid new ended stays refusal end (inl is) = subst (IsEndOf old new ⊥) (sym is) (subst (IsEndOf mid new ⊥) is end)
end_of_both honest old mid new ended stays refusal end (inr is) = subst (IsEndOf old new ⊥) (sym is) (by_why (subst (IsEndOf mid new ⊥) is end))
  where
    by_why : IsEndOf mid new ⊥ Worn → IsEndOf old new ⊥ Worn
    by_why (inl (inl calls)) = inl (inl calls)
    by_why (inl (inr (before, worn))) = inl (inr (omega (arith, worn, one_more honest old new ended stays), worn))
    by_why (inr none) = absurd none

-- rows of steps

-- steps that did not end the call are answered
pub answered_steps : (honest : Type 0) {From : Type 0} (holds : From → History → Type 0) (before after : From → Table → History → Type 0) (old new : ArrayView)
    (answer : Answer)
    → StepsOf honest holds before after old new answer → ¬ HasEnded answer → answer ≡ Ok tt
answered_steps honest holds before after old new answer steps goes = by_answer answer refl
  where
    by_answer : (a : Answer) → answer ≡ a → answer ≡ Ok tt
    by_answer (Ok done) is = is
    by_answer (Err refusal) is = absurd (goes (subst HasEnded (sym is) (ended_by old new refusal (steps.cause refusal is))))

-- what was down stays so over both stretches
pub down_on : {old mid new : History} → Throughout (StaysDown old) old mid → Throughout (StaysDown mid) mid new → Throughout (StaysDown old) old new
down_on {mid = mid} {new = new} first second = throughout_on mid first new
    (throughout_more (λ h stays device down. stays device (throughout_last mid first device down)) new second)

-- the table and its superblocks over both: they stayed, or a slot was marked in one of them
pub carried_on : (old mid new : ArrayView) → GoesOn old mid → GoesOn mid new → IsCarriedOn old mid ⊎ IsPublishedAnew old mid → IsCarriedOn mid new
    ⊎ IsPublishedAnew mid new
    → IsCarriedOn old new ⊎ IsPublishedAnew old new
carried_on old mid new goes goes' (inl first) (inl second) = inl record {
  table = second.table ∙ first.table;
  front = λ device at below. second.front device at below ∙ first.front device at below;
  down = λ device. second.down device ∙ first.down device;
}
carried_on old mid new goes goes' (inr first) (inl second) = inr record {
  slot = first.slot;
  of_set = subst (λ (t : Table). first.slot < slots_of t) (sym second.table) first.of_set;
  missing = subst (λ (t : Table). state_at t.states first.slot ≡ Missing) (sym second.table) first.missing;
  published = subst (λ (t : Table). IsPublishedOn old.table.id old.panel.devices t new.history) (sym second.table) record {
    slot = first.published.slot;
    sector = first.published.sector;
    same_id = first.published.same_id;
    room = first.published.room;
    stands = first.published.stands;
    up = second.down first.published.slot ∙ first.published.up;
    is_there = second.front first.published.slot (place_of mid.table) (omega arith) ∙ first.published.is_there;
  };
}
carried_on old mid new goes goes' first (inr second) = inr record {
  slot = second.slot;
  of_set = second.of_set;
  missing = second.missing;
  published = subst₂ (λ (id : List ℕ) (n : ℕ). IsPublishedOn id n new.table new.history) goes.not_older.same_id goes.later.devices second.published;
}

-- two rows of steps are one; what is honest at the start is so between them
pub steps_both : (honest still : Type 0) → (honest → still)
    → {From : Type 0} (holds : From → History → Type 0) (before between after : From → Table → History → Type 0) (old mid new : ArrayView) (answer : Answer)
    → StepsOf honest holds before between old mid (Ok tt) → StepsOf still holds between after mid new answer → StepsOf honest holds before after old new answer
steps_both honest still more holds before between after old mid new answer first second = record {
  goes_on = goes_on_both old mid new first.goes_on second.goes_on;
  stays = stays_both honest old mid new (HasEnded answer) first.goes_on second.goes_on first.stays
      record { table = second.stays.table; failure = λ is. second.stays.failure (more is) };
  number = second.number ∙ first.number;
  moments = λ is from at. throughout_on mid.history (first.moments is from at) new.history (second.moments (more is) from (first.reached is refl from at));
  reached = λ is ok from at. second.reached (more is) ok from (first.reached is refl from at);
  runs = λ is. down_on (first.runs is) (second.runs (more is));
  carried = λ is ok. carried_on old mid new first.goes_on second.goes_on (first.carried is refl) (second.carried (more is) ok);
  cause = λ refusal is. end_after honest old mid new first.stays refusal (second.cause refusal is);
}

-- where they were refused, what they would have reached is free
pub steps_refused : (honest : Type 0) {From : Type 0} (holds : From → History → Type 0) (before after beyond : From → Table → History → Type 0)
    (old new : ArrayView) (refusal : Refusal)
    → StepsOf honest holds before after old new (Err refusal) → StepsOf honest holds before beyond old new (Err refusal)
steps_refused honest holds before after beyond old new refusal steps = record {
  goes_on = steps.goes_on;
  stays = steps.stays;
  number = steps.number;
  moments = steps.moments;
  reached = λ fair ok. absurd (cc);
  runs = steps.runs;
  carried = λ fair ok. absurd (cc);
  cause = steps.cause;
}

-- they lead from whatever is more, to whatever is less
pub steps_more : (honest : Type 0) {From : Type 0} (holds : From → History → Type 0) (before before' after after' : From → Table → History → Type 0)
    (old new : ArrayView) (answer : Answer)
    → ((from : From) → before' from old.table old.history → before from old.table old.history)
    → (honest → answer ≡ Ok tt → (from : From) → before' from old.table old.history → after from new.table new.history → after' from new.table new.history)
    → StepsOf honest holds before after old new answer → StepsOf honest holds before' after' old new answer
steps_more honest holds before before' after after' old new answer was then steps = record {
  goes_on = steps.goes_on;
  stays = steps.stays;
  number = steps.number;
  moments = λ fair from at. steps.moments fair from (was from at);
  reached = λ fair ok from at. then fair ok from at (steps.reached fair ok from (was from at));
  runs = steps.runs;
  carried = steps.carried;
  cause = steps.cause;
}
