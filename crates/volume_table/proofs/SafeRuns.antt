-- The theorem over all runs, by induction on them.
use Rattle.std.proofs.Common.{◌≡◌, inl, inr, ℕ, ◌+◌, List, [], ◌∷◌, ◌++◌, length, None, refl, sym, ◌∙◌, ap, subst, subst₂, arith}
use Rattle.std.specs.Prelude.{Contains, fold, map}
use Rattle.std.proofs.Math.Logic.{∥∥₁_map}
use Rattle.std.proofs.Math.Seq.{take-append_seam, take-length}
use Rattle.std.proofs.lemmas.List.{length-append}
use Rattle.std.proofs.lemmas.List.Sums.{fold-append}
use Rattle.std.proofs.lemmas.List.Elements.{Contains-append_cases, Contains-push_cases}
use Rattle.sector_model.specs.declared.refusal.Refusal.{Refusal}
use Rattle.sector_model.specs.declared.refusal.Refusal.TheVariants.{BadTable, TwoLost, Worn}
use Rattle.sector_model.specs.Bank.{IsTrueTo, Panel}
use Rattle.sector_model.specs.History.{Began, History}
use Rattle.sector_model.specs.Moments.{Throughout, here}
use Rattle.sector_model.specs.Readable.{readable}
use Rattle.sector_model.proofs.Steps.{throughout_last}
use Rattle.layout_map.specs.declared.geometry.Geometry.{Geometry}
use Rattle.superblock.specs.declared.table.Table.{Table}
use Rattle.superblock.specs.Losses.{IsSingleFailure}
use Rattle.superblock.specs.NextTables.{IsNotOlder, slots_of}
use Rattle.superblock.proofs.LaterTables.{not_older_both, not_older_same}
use Rattle.array_io.specs.Believed.DeviceRules.{Replaced}
use Rattle.array_io.specs.Believed.Fresh.{zeros_of}
use Rattle.array_io.specs.Believed.Settled.{IsSettled}
use Rattle.array_io.specs.Believed.Views.{ArrayView, RestsOn}
use Rattle.recovery.specs.Making as recovery
use Rattle.recovery.specs.Making.{IsQuietBeyond, Makes}
use Rattle.volume_table.specs.Volumes.{VolumeMap, no_volumes}
use Rattle.volume_table.specs.VolumeStep.{Command, Event, Fail, OnSet, OnVolumes, RebuildStep, Replace, Reply, Scrub, ScrubRows, after, left_by, volumes_after}
use Rattle.volume_table.specs.Shows.{Shows}
use Rattle.volume_table.specs.Stands.{StandsNow, StandsThroughout, StoreView}
use Rattle.volume_table.specs.StoreCalls.{GoesThrough, lost_in}
use Rattle.volume_table.specs.Staging.{AreDone, CommitsWrites, after_all}
use Rattle.array_io.specs.Believed.ArrayCalls.{Answer}
use Rattle.volume_table.specs.Opening.{IsNoOpening, Opened, Opens, Outcome, Returned, bank_after}
use Rattle.volume_table.specs.Runs.{Does, Fate, IsAssembled, IsDone, IsServing, Run, Runs, Serving, Session, World, assembled, between_events, in_assembling}
use Rattle.volume_table.specs.Runs.{AreCommitted, in_commit, in_event, in_opening, next_run, no_more, none_done, only_read, then_committed, then_done, unopened}
use Rattle.volume_table.specs.Headline.{AreRight, Before, Headline, IsAfterPrefix, IsOpenedUnlessWorn, IsRight, RunKeeps, RunsKeep, SessionKeeps}
use Rattle.volume_table.specs.Headline.{nothing_before, nothing_lost}
use Rattle.volume_table.proofs.Assembled.{assembled_unless_worn, assembling_holds, assembling_stands, may_start, reading_holds}
use Rattle.volume_table.proofs.SingleFailure.{commit_not_two, not_two, opening_not_two}
use Rattle.volume_table.proofs.FreshLemmas.{fresh_set_shows_none}
use Rattle.volume_table.proofs.Opened.{IsSafeArray, IsSafeStore, holds_readable, rests_on, stands_at_rest, store_after}
use Rattle.volume_table.proofs.SafeWorlds.{IsSafe, begins_safe, goes_over, same_slots, crashes_safe}
use Rattle.volume_table.proofs.Scrubbed.{part_finds_none, scrub_finds_none}
use Rattle.extents.specs.declared.extent_layout.ExtentLayout.{ExtentLayout}
use Rattle.extents.specs.SetExtents.{extents_in}

same_extents : (old new : Table) → IsNotOlder old new → extents_in new.geometry ≡ extents_in old.geometry
same_extents old new later = ap extents_in later.same_geometry

-- an event of a store that is safe
goes_through : (made : Table) (devices : ℕ) (slots : ℕ) (event : Event) (reply : Reply) (old new : Serving) (volumes : VolumeMap)
    → IsSafeStore made devices old volumes
    → IsDone slots event reply old new → GoesThrough (Unit {0}) event old.store new.store reply
goes_through made devices slots event reply old new volumes safe done = done.applies.going safe.settled.going

-- a store is safe after an event
safe_after : (made : Table) (devices : ℕ) (event : Event) (reply : Reply) (old new : Serving) (volumes : VolumeMap) → IsSafeStore made devices old volumes
    → IsDone (slots_of made) event reply old new → IsSafeStore made devices new (left_by (extents_in made.geometry) event volumes)
safe_after made devices event reply old new volumes safe done =
    let goes = goes_through made devices (slots_of made) event reply old new volumes safe done in
    let moments = subst (λ (d : ℕ). StandsThroughout old.store.array.table d (lost_in event old.store.array.table old.fate.lost)
    (volumes ∷ left_by (extents_in old.store.array.table.geometry) event volumes ∷ []) old.store.array.history new.store.array.history) safe.of_bank
    (goes.moments tt old.fate.lost volumes safe.settled) in
    subst (λ (e : ExtentLayout). IsSafeStore made devices new (left_by e event volumes)) (same_extents made old.store.array.table safe.not_older)
    (store_after made devices old.store.array.table (lost_in event old.store.array.table old.fate.lost)
    (volumes ∷ left_by (extents_in old.store.array.table.geometry) event volumes ∷ []) old.fate new
    (left_by (extents_in old.store.array.table.geometry) event volumes)
    safe.not_older goes.goes_on.not_older (goes.goes_on.later.devices ∙ safe.of_bank) safe.replaced done.goes_over
    (throughout_last new.store.array.history moments)
    (goes.settled tt done.goes old.fate.lost volumes safe.settled))

-- and the event was answered rightly
right_answer : (made : Table) (devices : ℕ) (event : Event) (reply : Reply) (old new : Serving) (volumes : VolumeMap) → IsSafeStore made devices old volumes
    → IsDone (slots_of made) event reply old new → IsRight (extents_in made.geometry) volumes event new.store reply
right_answer made devices (OnVolumes command) reply old new volumes safe done =
    let goes = goes_through made devices (slots_of made) (OnVolumes command) reply old new volumes safe done in
    subst (λ (e : ExtentLayout). IsRight e volumes (OnVolumes command) new.store reply) (same_extents made old.store.array.table safe.not_older)
    (goes.answered tt done.goes old.fate.lost volumes safe.settled)
right_answer made devices (OnSet (Fail slot)) reply old new volumes safe done = tt
right_answer made devices (OnSet (Replace slot)) reply old new volumes safe done = tt
right_answer made devices (OnSet (RebuildStep rows)) reply old new volumes safe done = tt
right_answer made devices (OnSet Scrub) reply old new volumes safe done = λ complete.
    let goes = goes_through made devices (slots_of made) (OnSet Scrub) reply old new volumes safe done in
    let set = goes.set_left done.goes in
    scrub_finds_none old.store.array.table new.store.array.table (readable new.store.array.history) set.devices reply goes.goes_on.not_older.same_geometry
    set.are.rows set.left (set.are.unsound tt)
    complete (safe_after made devices (OnSet Scrub) reply old new volumes safe done).settled.rests.sound
right_answer made devices (OnSet (ScrubRows first rows)) reply old new volumes safe done = λ complete.
    let goes = goes_through made devices (slots_of made) (OnSet (ScrubRows first rows)) reply old new volumes safe done in
    let set = goes.set_left done.goes in
    part_finds_none first rows old.store.array.table new.store.array.table (readable new.store.array.history) set.devices reply
    goes.goes_on.not_older.same_geometry set.are.rows set.left (set.are.unsound tt)
    complete (safe_after made devices (OnSet (ScrubRows first rows)) reply old new volumes safe done).settled.rests.sound

-- a store is safe after writes that were committed together
safe_committed : (made : Table) (devices : ℕ) (writes : List Command) (old new : Serving) (volumes : VolumeMap) → IsSafeStore made devices old volumes
    → AreCommitted (slots_of made) writes old new → IsSafeStore made devices new (after_all (extents_in made.geometry) writes volumes)
safe_committed made devices writes old new volumes safe done =
    let commits = done.commits.going safe.settled.going in
    let moments = subst (λ (d : ℕ). StandsThroughout old.store.array.table d old.fate.lost
    (volumes ∷ after_all (extents_in old.store.array.table.geometry) writes volumes ∷ []) old.store.array.history new.store.array.history) safe.of_bank
    (commits.moments tt old.fate.lost volumes safe.settled) in
    subst (λ (e : ExtentLayout). IsSafeStore made devices new (after_all e writes volumes)) (same_extents made old.store.array.table safe.not_older)
    (store_after made devices old.store.array.table old.fate.lost
    (volumes ∷ after_all (extents_in old.store.array.table.geometry) writes volumes ∷ []) old.fate new
    (after_all (extents_in old.store.array.table.geometry) writes volumes)
    safe.not_older commits.goes_on.not_older (commits.goes_on.later.devices ∙ safe.of_bank) safe.replaced done.goes_over
    (throughout_last new.store.array.history moments)
    (commits.settled tt refl old.fate.lost volumes safe.settled))

-- and each of them was done as the volume machine does it
right_writes : (made : Table) (devices : ℕ) (writes : List Command) (old new : Serving) (volumes : VolumeMap) → IsSafeStore made devices old volumes
    → AreCommitted (slots_of made) writes old new → AreDone (extents_in made.geometry) writes volumes
right_writes made devices writes old new volumes safe done =
    subst (λ (e : ExtentLayout). AreDone e writes volumes) (same_extents made old.store.array.table safe.not_older)
    ((done.commits.going safe.settled.going).done old.fate.lost volumes safe.settled)

-- the volumes after some events
abbrev pub left_by_all : ExtentLayout → List Event → VolumeMap → VolumeMap
left_by_all extents events volumes = fold (λ left event. left_by extents event left) volumes events

-- commands on volumes are such events
commands_left : (extents : ExtentLayout) (writes : List Command) (volumes : VolumeMap)
    → left_by_all extents (map OnVolumes writes) volumes ≡ after_all extents writes volumes
commands_left extents [] volumes = refl
commands_left extents (write ∷ writes) volumes = commands_left extents writes (volumes_after extents write volumes)

-- and events may come after them
then_left : (extents : ExtentLayout) (writes : List Command) (events : List Event) (volumes : VolumeMap)
    → left_by_all extents (map OnVolumes writes ++ events) volumes ≡ left_by_all extents events (after_all extents writes volumes)
then_left extents writes events volumes =
    fold-append (λ (left : VolumeMap) (e : Event). left_by extents e left) volumes (map OnVolumes writes) events
    ∙ ap (left_by_all extents events) (commands_left extents writes volumes)

-- events that are done leave a safe store, and were answered rightly
record AllDone (made : Table) (devices : ℕ) {events : List Event} {replies : List Reply} {old new : Serving}
    (does : Does (slots_of made) events replies old new) (volumes : VolumeMap) : Type 0 where
  pub safe : IsSafeStore made devices new (left_by_all (extents_in made.geometry) events volumes)
  pub right : AreRight (extents_in made.geometry) volumes does

all_done : (made : Table) (devices : ℕ) {events : List Event} {replies : List Reply} {old new : Serving} (does : Does (slots_of made) events replies old new)
    (volumes : VolumeMap)
    → IsSafeStore made devices old volumes → AllDone made devices does volumes
all_done made devices none_done volumes safe = record { safe = safe; right = tt }
all_done made devices (then_done {old = old} mid event reply done rest) volumes safe =
    let then = all_done made devices rest (left_by (extents_in made.geometry) event volumes) (safe_after made devices event reply old mid volumes safe done) in
    record { safe = then.safe; right = (right_answer made devices event reply old mid volumes safe done, then.right) }
all_done made devices (then_committed {old = old} {new = new} {events = events} mid writes done rest) volumes safe =
    let then = all_done made devices rest (after_all (extents_in made.geometry) writes volumes) (safe_committed made devices writes old mid volumes safe done)
    in
    record {
      safe = subst (λ (those : VolumeMap). IsSafeStore made devices new those) (sym (then_left (extents_in made.geometry) writes events volumes)) then.safe;
      right = (right_writes made devices writes old mid volumes safe done, then.right);
    }

-- the volumes after all events, and after one more
all_are : (extents : ExtentLayout) (volumes : VolumeMap) (events : List Event)
    → left_by_all extents events volumes ≡ after extents events volumes (length events)
all_are extents volumes events = ap (λ (l : List Event). left_by_all extents l volumes) (sym (take-length events))

but_last : (extents : ExtentLayout) (volumes : VolumeMap) (events : List Event) (event : Event)
    → left_by_all extents events volumes ≡ after extents (events ++ event ∷ []) volumes (length events)
but_last extents volumes events event = ap (λ (l : List Event). left_by_all extents l volumes) (sym (take-append_seam events (event ∷ [])))

with_last : (extents : ExtentLayout) (volumes : VolumeMap) (events : List Event) (event : Event)
    → left_by extents event (left_by_all extents events volumes) ≡ after extents (events ++ event ∷ []) volumes (length (events ++ event ∷ []))
with_last extents volumes events event =
    sym (fold-append (λ (left : VolumeMap) (e : Event). left_by extents e left) volumes events (event ∷ [])) ∙ all_are extents volumes (events ++ event ∷ [])

-- and after some more, of commands that were committed together
but_writes : (extents : ExtentLayout) (volumes : VolumeMap) (events : List Event) (writes : List Command)
    → left_by_all extents events volumes ≡ after extents (events ++ map OnVolumes writes) volumes (length events)
but_writes extents volumes events writes = ap (λ (l : List Event). left_by_all extents l volumes) (sym (take-append_seam events (map OnVolumes writes)))

with_writes : (extents : ExtentLayout) (volumes : VolumeMap) (events : List Event) (writes : List Command)
    → after_all extents writes (left_by_all extents events volumes)
    ≡ after extents (events ++ map OnVolumes writes) volumes (length (events ++ map OnVolumes writes))
with_writes extents volumes events writes =
    sym (commands_left extents writes (left_by_all extents events volumes))
    ∙ sym (fold-append (λ (left : VolumeMap) (e : Event). left_by extents e left) volumes events (map OnVolumes writes))
    ∙ all_are extents volumes (events ++ map OnVolumes writes)

no_map : (volumes : VolumeMap) → Contains [] volumes → ⊥
no_map volumes (k, below, is) = omega (arith, below)

one_of_one : (only volumes : VolumeMap) → Contains (only ∷ []) volumes → only ≡ volumes
one_of_one only volumes among = elim (Contains-push_cases [] only volumes among) [ inl none ↦ absurd (no_map volumes none) | inr is ↦ is ]

prefix_of_all : (extents : ExtentLayout) (volumes : VolumeMap) (events : List Event) (left : VolumeMap)
    → Contains (left_by_all extents events volumes ∷ []) left
    → IsAfterPrefix extents record { volumes = volumes; events = events; acknowledged = length events } left
prefix_of_all extents volumes events left among = record {
  n = length events;
  has_acknowledged = omega arith;
  is_prefix = omega arith;
  is = sym (one_of_one (left_by_all extents events volumes) left among) ∙ all_are extents volumes events;
}

prefix_with_last : (extents : ExtentLayout) (volumes : VolumeMap) (events : List Event) (event : Event) (left : VolumeMap)
    → Contains (left_by_all extents events volumes ∷ left_by extents event (left_by_all extents events volumes) ∷ []) left
    → IsAfterPrefix extents record { volumes = volumes; events = events ++ event ∷ []; acknowledged = length events } left
prefix_with_last extents volumes events event left among =
    elim (Contains-append_cases (left_by_all extents events volumes ∷ []) (left_by extents event (left_by_all extents events volumes) ∷ []) left among) [
      | inl before ↦ record {
        n = length events;
        has_acknowledged = omega arith;
        is_prefix = omega (arith, length-append events (event ∷ []));
        is = sym (one_of_one (left_by_all extents events volumes) left before) ∙ but_last extents volumes events event;
      }
      | inr last ↦ record {
        n = length (events ++ event ∷ []);
        has_acknowledged = omega (arith, length-append events (event ∷ []));
        is_prefix = omega arith;
        is = sym (one_of_one (left_by extents event (left_by_all extents events volumes)) left last) ∙ with_last extents volumes events event;
      }
    ]

prefix_with_writes : (extents : ExtentLayout) (volumes : VolumeMap) (events : List Event) (writes : List Command) (left : VolumeMap)
    → Contains (left_by_all extents events volumes ∷ after_all extents writes (left_by_all extents events volumes) ∷ []) left
    → IsAfterPrefix extents record { volumes = volumes; events = events ++ map OnVolumes writes; acknowledged = length events } left
prefix_with_writes extents volumes events writes left among =
    elim (Contains-append_cases (left_by_all extents events volumes ∷ []) (after_all extents writes (left_by_all extents events volumes) ∷ []) left among) [
      | inl before ↦ record {
        n = length events;
        has_acknowledged = omega arith;
        is_prefix = omega (arith, length-append events (map OnVolumes writes));
        is = sym (one_of_one (left_by_all extents events volumes) left before) ∙ but_writes extents volumes events writes;
      }
      | inr last ↦ record {
        n = length (events ++ map OnVolumes writes);
        has_acknowledged = omega (arith, length-append events (map OnVolumes writes));
        is_prefix = omega arith;
        is = sym (one_of_one (after_all extents writes (left_by_all extents events volumes)) left last) ∙ with_writes extents volumes events writes;
      }
    ]

-- what comes later keeps the promise, from whatever is safe and stands for volumes after a prefix
abbrev pub KeepsLater : (made : Table) (devices : ℕ) (left : World) → (Before → Type 0) → Type 0
KeepsLater made devices left later = (next : Before) (maps : List VolumeMap)
    → ((volumes : VolumeMap) → Contains maps volumes → IsAfterPrefix (extents_in made.geometry) next volumes)
    → IsSafe made devices maps left → later next

-- a store that is opened over a safe array is safe
safe_first : (made : Table) (devices : ℕ) (array : ArrayView) (fate : Fate) (volumes : VolumeMap) (first : Serving)
    → IsSafeArray made devices array fate volumes
    → IsServing (slots_of made) array fate first → IsSafeStore made devices first volumes
safe_first made devices array fate volumes first safe serving =
    let rests = rests_on made devices array fate volumes safe in
    let moments = subst (λ (d : ℕ). StandsThroughout array.table d fate.lost (volumes ∷ []) array.history first.store.array.history) safe.of_bank
    (serving.opens.moments tt fate.lost safe.logical volumes rests safe.shown) in
    let goes_on = serving.opens.goes_on first.store refl in
    store_after made devices array.table fate.lost (volumes ∷ []) fate first volumes safe.not_older goes_on.not_older (goes_on.later.devices ∙ safe.of_bank)
    safe.over.replaced
    serving.goes_over (throughout_last first.store.array.history moments)
    (serving.opens.settled tt fate.lost safe.logical volumes rests safe.shown first.store refl)

refused_opening : (made : Table) (devices : ℕ) (array : ArrayView) (fate : Fate) (volumes : VolumeMap) (bank : recovery.BankView) (refusal : Refusal)
    → IsSafeArray made devices array fate volumes
    → IsTrueTo bank.panel bank.history → IsSingleFailure (slots_of array.table) fate.lost bank.history → IsNoOpening (Unit {0}) array bank refusal
    → (refusal ≡ Worn) × IsNoOpening (Unit {0}) array bank Worn
refused_opening made devices array fate volumes bank BadTable safe true_to one why =
    absurd (why.0 tt fate.lost safe.logical volumes (rests_on made devices array fate volumes safe) safe.shown)
refused_opening made devices array fate volumes bank TwoLost safe true_to one why =
    absurd (opening_not_two _ array why.array fate.lost why.stays why.goes_on.not_older.same_geometry safe.over.settled.lost_slot
    (subst₂ (λ (p : Panel) (h : History). IsTrueTo p h) (sym why.panel) (sym why.history) true_to)
    (subst (λ (h : History). IsSingleFailure (slots_of array.table) fate.lost h) (sym why.history) one) why.ends)
refused_opening made devices array fate volumes bank Worn safe true_to one why = (refl, why)
refused_opening made devices array fate volumes bank refusal safe true_to one why = absurd why

opened_unless_worn : (made : Table) (devices : ℕ) (array : ArrayView) (fate : Fate) (volumes : VolumeMap) (outcome : Outcome)
    → IsSafeArray made devices array fate volumes
    → Opens (Unit {0}) array outcome → IsTrueTo (bank_after outcome).panel (bank_after outcome).history
    → IsOpenedUnlessWorn (slots_of made) fate.lost array outcome
opened_unless_worn made devices array fate volumes (Opened store) safe opens true_to = tt
opened_unless_worn made devices array fate volumes (Returned bank refusal) safe opens true_to = λ one.
    refused_opening made devices array fate volumes bank refusal safe true_to
    (subst (λ (n : ℕ). IsSingleFailure n fate.lost bank.history) (sym (same_slots made array.table safe.not_older)) one) (opens.cause bank refusal refl)

-- each case of a safe store that makes no call stands for its volumes
stands_between : (made : Table) (devices : ℕ) (serving : Serving) (volumes : VolumeMap) → IsSafeStore made devices serving volumes
    → Throughout (StandsNow serving.store.array.table devices serving.fate.lost (volumes ∷ [])) serving.store.array.history serving.store.array.history
stands_between made devices serving volumes safe = here
    (stands_at_rest devices serving.store.array.table serving.store.array.number serving.store.array.history serving.fate.lost
    safe.settled.logical volumes
    (subst (λ (d : ℕ). IsSettled d serving.store.array.table serving.store.array.number serving.store.array.history serving.fate.lost safe.settled.logical)
    safe.of_bank safe.settled.rests)
    safe.settled.shown)

stands_in_event : (made : Table) (devices : ℕ) (event : Event) (store : StoreView) (reply : Reply) (serving : Serving) (volumes : VolumeMap)
    (safe : IsSafeStore made devices serving volumes)
    → GoesThrough (Unit {0}) event serving.store store reply
    → Throughout (StandsNow serving.store.array.table devices (lost_in event serving.store.array.table serving.fate.lost)
    (volumes ∷ left_by (extents_in made.geometry) event volumes ∷ []))
    serving.store.array.history store.array.history
stands_in_event made devices event store reply serving volumes safe goes =
    subst₂ (λ (d : ℕ) (e : ExtentLayout). StandsThroughout serving.store.array.table d (lost_in event serving.store.array.table serving.fate.lost)
    (volumes ∷ left_by e event volumes ∷ [])
    serving.store.array.history store.array.history) safe.of_bank (same_extents made serving.store.array.table safe.not_older)
    (goes.moments tt serving.fate.lost volumes safe.settled)

stands_in_commit : (made : Table) (devices : ℕ) (writes : List Command) (store : StoreView) (answer : Answer) (serving : Serving) (volumes : VolumeMap)
    (safe : IsSafeStore made devices serving volumes)
    → CommitsWrites (Unit {0}) writes serving.store store answer
    → Throughout (StandsNow serving.store.array.table devices serving.fate.lost (volumes ∷ after_all (extents_in made.geometry) writes volumes ∷ []))
    serving.store.array.history store.array.history
stands_in_commit made devices writes store answer serving volumes safe commits =
    subst₂ (λ (d : ℕ) (e : ExtentLayout). StandsThroughout serving.store.array.table d serving.fate.lost (volumes ∷ after_all e writes volumes ∷ [])
    serving.store.array.history store.array.history) safe.of_bank (same_extents made serving.store.array.table safe.not_older)
    (commits.moments tt serving.fate.lost volumes safe.settled)

-- a session over a safe array keeps the promise
session_keeps : (made : Table) (devices : ℕ) (before : Before) (array : ArrayView) (fate : Fate) (volumes : VolumeMap) (left : World)
    → IsSafeArray made devices array fate volumes
    → IsAfterPrefix (extents_in made.geometry) before volumes → (session : Session (slots_of made) array fate left) → (later : Before → Type 0)
    → KeepsLater made devices left later → SessionKeeps (extents_in made.geometry) (slots_of made) before session later
session_keeps made devices before array fate volumes left safe prefix (unopened crashes) later keeps =
    keeps before (volumes ∷ []) (λ other among. subst (λ (v : VolumeMap). IsAfterPrefix (extents_in made.geometry) before v) (one_of_one volumes other among)
    prefix)
    (crashes_safe made array.table devices fate.lost (volumes ∷ []) fate array.history array.history left safe.not_older safe.over.replaced
    (here (stands_at_rest devices array.table array.number array.history fate.lost safe.logical volumes safe.over.settled safe.shown)) crashes)
session_keeps made devices before array fate volumes left safe prefix (in_opening outcome opens true_to crashes) later keeps = (
  opened_unless_worn made devices array fate volumes outcome safe opens true_to,
  keeps before (volumes ∷ []) (λ other among. subst (λ (v : VolumeMap). IsAfterPrefix (extents_in made.geometry) before v) (one_of_one volumes other among)
      prefix)
      (crashes_safe made array.table devices fate.lost (volumes ∷ []) fate array.history (bank_after outcome).history left safe.not_older safe.over.replaced
      (subst (λ (d : ℕ). StandsThroughout array.table d fate.lost (volumes ∷ []) array.history (bank_after outcome).history) safe.of_bank
      (opens.moments tt fate.lost safe.logical volumes (rests_on made devices array fate volumes safe) safe.shown)) crashes),
)
session_keeps made devices before array fate volumes left safe prefix (between_events first serving events replies opened does crashes) later keeps =
    let begun = safe_first made devices array fate volumes first safe opened in
    let done = all_done made devices does volumes begun in (
      volumes,
      record { after_prefix = prefix; settled = begun.settled; right = done.right },
      keeps record { volumes = volumes; events = events; acknowledged = length events } (left_by_all (extents_in made.geometry) events volumes ∷ [])
          (prefix_of_all (extents_in made.geometry) volumes events)
          (crashes_safe made serving.store.array.table devices serving.fate.lost (left_by_all (extents_in made.geometry) events volumes ∷ []) serving.fate
          serving.store.array.history serving.store.array.history left done.safe.not_older done.safe.replaced
          (stands_between made devices serving (left_by_all (extents_in made.geometry) events volumes) done.safe) crashes),
    )
session_keeps made devices before array fate volumes left safe prefix
    (in_event first serving events replies event store reply opened does applies true_to crashes) later keeps =
    let begun = safe_first made devices array fate volumes first safe opened in
    let done = all_done made devices does volumes begun in
    let goes = applies.going done.safe.settled.going in (
      volumes,
      record { after_prefix = prefix; settled = begun.settled; right = done.right },
      λ one. not_two event serving.store store reply serving.fate.lost goes done.safe.settled.rests.lost_slot true_to
          (subst (λ (n : ℕ). IsSingleFailure n (lost_in event serving.store.array.table serving.fate.lost) store.array.history)
          (sym (same_slots made serving.store.array.table done.safe.not_older)) one),
      keeps record { volumes = volumes; events = events ++ event ∷ []; acknowledged = length events }
          (left_by_all (extents_in made.geometry) events volumes
          ∷ left_by (extents_in made.geometry) event (left_by_all (extents_in made.geometry) events volumes) ∷ [])
          (prefix_with_last (extents_in made.geometry) volumes events event)
          (crashes_safe made serving.store.array.table devices (lost_in event serving.store.array.table serving.fate.lost)
          (left_by_all (extents_in made.geometry) events volumes
          ∷ left_by (extents_in made.geometry) event (left_by_all (extents_in made.geometry) events volumes) ∷ []) serving.fate
          serving.store.array.history store.array.history left done.safe.not_older done.safe.replaced
          (stands_in_event made devices event store reply serving (left_by_all (extents_in made.geometry) events volumes) done.safe goes) crashes),
    )
session_keeps made devices before array fate volumes left safe prefix
    (in_commit first serving events replies writes store answer opened does commits true_to crashes) later keeps =
    let begun = safe_first made devices array fate volumes first safe opened in
    let done = all_done made devices does volumes begun in
    let goes = commits.going done.safe.settled.going in (
      volumes,
      record { after_prefix = prefix; settled = begun.settled; right = done.right },
      λ one. commit_not_two writes serving.store store answer serving.fate.lost goes done.safe.settled.rests.lost_slot true_to
          (subst (λ (n : ℕ). IsSingleFailure n serving.fate.lost store.array.history)
          (sym (same_slots made serving.store.array.table done.safe.not_older)) one),
      keeps record { volumes = volumes; events = events ++ map OnVolumes writes; acknowledged = length events }
          (left_by_all (extents_in made.geometry) events volumes
          ∷ after_all (extents_in made.geometry) writes (left_by_all (extents_in made.geometry) events volumes) ∷ [])
          (prefix_with_writes (extents_in made.geometry) volumes events writes)
          (crashes_safe made serving.store.array.table devices serving.fate.lost
          (left_by_all (extents_in made.geometry) events volumes
          ∷ after_all (extents_in made.geometry) writes (left_by_all (extents_in made.geometry) events volumes) ∷ []) serving.fate
          serving.store.array.history store.array.history left done.safe.not_older done.safe.replaced
          (stands_in_commit made devices writes store answer serving (left_by_all (extents_in made.geometry) events volumes) done.safe goes) crashes),
    )

-- an array that is assembled from what is safe is safe
record SafeAssembly (made : Table) (devices : ℕ) (maps : List VolumeMap) (array : ArrayView) (fate : Fate) : Type 0 where
  pub volumes : VolumeMap
  pub among : Contains maps volumes
  pub safe : IsSafeArray made devices array fate volumes

safe_assembly : (made : Table) (devices : ℕ) (maps : List VolumeMap) (world : World) (panel : Panel) (array : ArrayView) (fate : Fate) → panel.devices ≡ devices
    → IsSafe made devices maps world
    → IsAssembled made.id (slots_of made) panel world array fate → SafeAssembly made devices maps array fate
safe_assembly made devices maps world panel array fate of_bank safe is =
    let may = may_start made devices maps world panel of_bank safe in
    let same = same_slots made safe.base safe.not_older in
    let opens = is.assembles.rests tt safe.base world.fate.lost safe.stands.lists safe.not_older.same_id may array refl
    (subst (λ (n : ℕ). IsSingleFailure n world.fate.lost array.history) (sym same) is.goes_over.single_failure) in
    let shows = safe.stands.shown opens.logical opens.among in
    let bank = is.assembles.later.devices ∙ of_bank in
    let moments = assembling_stands made devices maps world array.history safe
    (assembling_holds made devices maps world panel (recovery.Opened array) of_bank safe is.assembles) in
    record {
      volumes = shows.volumes;
      among = shows.among;
      safe = record {
        of_bank = bank;
        not_older = not_older_both made safe.base array.table safe.not_older opens.not_older;
        logical = opens.logical;
        over = goes_over (slots_of made) devices safe.base array.table array.number array.history world.fate.lost opens.rests.lost world.fate fate opens.logical
            opens.not_older safe.replaced is.goes_over opens.rests.is_lost
            (subst (λ (d : ℕ). IsSettled d array.table array.number array.history opens.rests.lost opens.logical) bank opens.rests.rests)
            (holds_readable (slots_of made) devices safe.base world.fate.lost maps array.history same (throughout_last array.history moments)
            is.goes_over.single_failure);
        shown = subst (λ (e : ExtentLayout). Shows e opens.logical shows.volumes) (sym (same_extents safe.base array.table opens.not_older)) shows.shown;
      };
    }

-- so does a run
run_keeps : (made : Table) (devices : ℕ) (before : Before) (maps : List VolumeMap) (panel : Panel) (world left : World)
    → ((volumes : VolumeMap) → Contains maps volumes → IsAfterPrefix (extents_in made.geometry) before volumes)
    → panel.devices ≡ devices
    → IsSafe made devices maps world
    → (run : Run made.id (slots_of made) panel world left) → (later : Before → Type 0) → KeepsLater made devices left later
    → RunKeeps made.id (extents_in made.geometry) (slots_of made) before run later
run_keeps made devices before maps panel world left each of_bank safe (only_read h reads crashes) later keeps =
    keeps before maps each (crashes_safe made safe.base devices world.fate.lost maps world.fate (Began world.image) h left safe.not_older safe.replaced
    (assembling_stands made devices maps world h safe (reading_holds made devices maps world h safe reads)) crashes)
run_keeps made devices before maps panel world left each of_bank safe (in_assembling outcome assembles crashes) later keeps = (
  assembled_unless_worn made devices maps world panel outcome of_bank safe assembles,
  keeps before maps each (crashes_safe made safe.base devices world.fate.lost maps world.fate (Began world.image) (recovery.bank_after outcome).history left
      safe.not_older safe.replaced
      (assembling_stands made devices maps world (recovery.bank_after outcome).history safe
      (assembling_holds made devices maps world panel outcome of_bank safe assembles)) crashes),
)
run_keeps made devices before maps panel world left each of_bank safe (assembled array fate is session) later keeps =
    let assembly = safe_assembly made devices maps world panel array fate of_bank safe is in
    session_keeps made devices before array fate assembly.volumes left assembly.safe (each assembly.volumes assembly.among) session later keeps

-- and so do all
pub runs_keep : (made : Table) (devices : ℕ) (before : Before) (maps : List VolumeMap) (world : World)
    → ((volumes : VolumeMap) → Contains maps volumes → IsAfterPrefix (extents_in made.geometry) before volumes)
    → IsSafe made devices maps world
    → (runs : Runs made.id devices (slots_of made) world) → RunsKeep made.id (extents_in made.geometry) devices (slots_of made) before runs
runs_keep made devices before maps world each safe no_more = tt
runs_keep made devices before maps world each safe (next_run begun left panel begins same of_bank run runs) =
    run_keeps made devices before maps panel begun left each of_bank (begins_safe made devices maps world begun safe begins same) run
    (λ then. RunsKeep made.id (extents_in made.geometry) devices (slots_of made) then runs)
    (λ next others each' safe'. runs_keep made devices next others left each' safe' runs)

no_device : (device : Replaced) → Contains [] device → ⊥
no_device device (k, below, is) = omega (arith, below)

-- what making a set gives is safe
made_safe : (id : List ℕ) (geometry : Geometry) (bank : recovery.BankView) (array : ArrayView) → Makes (Unit {0}) id geometry bank (recovery.Opened array)
    → IsQuietBeyond id (geometry.members + 2) bank
    → Shows (extents_in array.table.geometry) (zeros_of array.table.geometry) (no_volumes array.table.geometry.format)
    → IsSafeArray array.table array.panel.devices array nothing_lost (no_volumes array.table.geometry.format)
made_safe id geometry bank array makes quiet shows = record {
  of_bank = refl;
  not_older = not_older_same array.table;
  logical = zeros_of array.table.geometry;
  over = record {
    settled = subst (λ (g : Geometry). RestsOn array None (zeros_of g)) (sym (makes.first array refl).of_geometry) (makes.rests tt quiet array refl);
    replaced = λ device among. absurd (no_device device among);
  };
  shown = shows;
}

-- the theorem
pub headline : Headline
headline id geometry bank array left makes quiet session runs = ∥∥₁_map (fresh_set_shows_none array.table.geometry) (λ shows.
    session_keeps array.table array.panel.devices (nothing_before array.table.geometry.format) array nothing_lost
    (no_volumes array.table.geometry.format) left (made_safe id geometry bank array makes quiet shows)
    record { n = 0; has_acknowledged = omega arith; is_prefix = omega arith; is = refl } session
    (λ before. RunsKeep array.table.id (extents_in array.table.geometry) array.panel.devices (slots_of array.table) before runs)
    (λ next maps each safe. runs_keep array.table array.panel.devices next maps left each safe runs))
