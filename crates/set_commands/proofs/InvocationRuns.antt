-- Invocations of the program are runs of a set, so that the headline holds of them.
use Rattle.std.proofs.Common.{◌≢◌, ℕ, List, [], ◌∷◌, ◌++◌, length, Ok, Err, ap, sym, subst}
use Rattle.std.specs.Prelude.{map}
use Rattle.sector_model.specs.declared.refusal.Refusal.{Refusal}
use Rattle.std.proofs.Math.Logic.{∥∥₁_map}
use Rattle.std.proofs.lemmas.List.{append-nil}
use Rattle.sector_model.specs.Bank.{IsTrueTo, Panel}
use Rattle.sector_model.specs.declared.refusal.Refusal.TheVariants.{TwoLost}
use Rattle.superblock.specs.Losses.{IsSingleFailure}
use Rattle.superblock.specs.NextTables.{slots_of}
use Rattle.array_io.specs.Believed.Views.{ArrayView}
use Rattle.recovery.specs.Making as recovery
use Rattle.recovery.specs.Making.{BankView}
use Rattle.volume_table.specs.Volumes.{VolumeMap}
use Rattle.volume_table.specs.VolumeStep.{Command, Done, Event, OnVolumes, Refused, Reply, left_by}
use Rattle.volume_table.specs.Staging.{AreDone, CommitsStaged, after_all}
use Rattle.array_io.specs.Believed.ArrayCalls.{Answer}
use Rattle.volume_table.specs.Stands.{IsSettledOn, StoreView}
use Rattle.volume_table.specs.StoreCalls.{Applies, lost_in}
use Rattle.volume_table.specs.Opening.{Opened, Returned}
use Rattle.volume_table.specs.Runs as runs
use Rattle.volume_table.specs.Runs.{AreCommitted, Crashes, Does, Fate, IsServing, Run, Runs, Serving, Session, World, begun_with, none_done, then_committed}
use Rattle.volume_table.specs.Runs.{then_done}
use Rattle.volume_table.specs.Headline.{AreRight, Before, IsAfterPrefix, IsRight, RunKeeps, RunsKeep, SessionKeeps, nothing_before}
use Rattle.volume_table.proofs.SafeRuns.{headline}
use Rattle.set_commands.specs.Invocations.{AnswersRightly, BankKeeps, DoneOn, EndsOn, EndsServing, HeadlineOfTheProgram, Invocations}
use Rattle.set_commands.specs.Invocations.{InvocationsKeep, Served, answered, crashed_in, here, kept_by, later, next_bank, no_more, none_asked}
use Rattle.set_commands.specs.Invocations.{not_assembled, not_opened, only_read, served, then_answered, then_ended, then_no_event, then_writes}
use Rattle.set_commands.specs.Invocations.{then_writes_ended}
use Rattle.extents.specs.declared.extent_layout.ExtentLayout.{ExtentLayout}
use Rattle.extents.specs.SetExtents.{extents_in}

abbrev refused_as : Refusal → Answer
refused_as refusal = Err refusal

-- ---- what is left of a session from an open store on

data Rest (slots : ℕ) (serving : Serving) (left : World) : (answered crashed : List Event) → Type 0 where
  between : {events : List Event} (replies : List Reply) (last : Serving) → Does slots events replies serving last
      → Crashes slots last.fate.lost last.fate last.store.array.history last.store.array.history left → Rest slots serving left events []
  in_one : {events : List Event} (replies : List Reply) (last : Serving) (event : Event) (store : StoreView) (reply : Reply)
      → Does slots events replies serving last → Applies (Unit {0}) event last.store store reply → IsTrueTo store.array.panel store.array.history
      → Crashes slots (lost_in event last.store.array.table last.fate.lost) last.fate last.store.array.history store.array.history left
      → Rest slots serving left events (event ∷ [])
  in_writes : {events : List Event} (replies : List Reply) (last : Serving) (writes : List Command) (store : StoreView) (answer : Answer)
      → Does slots events replies serving last → CommitsStaged (Unit {0}) writes last.store store answer → IsTrueTo store.array.panel store.array.history
      → Crashes slots last.fate.lost last.fate last.store.array.history store.array.history left
      → Rest slots serving left events (map OnVolumes writes)

abbrev right_in : {slots : ℕ} {serving : Serving} {left : World} {events crashed : List Event} → ExtentLayout → VolumeMap
    → Rest slots serving left events crashed → Type 0
right_in extents volumes (between replies last does crashes) = AreRight extents volumes does
right_in {slots = slots} extents volumes (in_one replies last event store reply does applies true_to crashes) = AreRight extents volumes does
    × (IsSingleFailure slots (lost_in event last.store.array.table last.fate.lost) store.array.history → reply ≢ Refused TwoLost)
right_in {slots = slots} extents volumes (in_writes replies last writes store answer does commits true_to crashes) = AreRight extents volumes does
    × (IsSingleFailure slots last.fate.lost store.array.history → answer ≢ Err TwoLost)

-- an event is answered first
one_more : {slots : ℕ} {old mid : Serving} {left : World} {events crashed : List Event} (event : Event) (reply : Reply) → runs.IsDone slots event reply old mid
    → Rest slots mid left events crashed → Rest slots old left (event ∷ events) crashed
one_more {mid = mid} event reply done (between replies last does crashes) = between (reply ∷ replies) last (then_done mid event reply done does) crashes
one_more {mid = mid} event reply done (in_one replies last other store answer does applies true_to crashes) =
    in_one (reply ∷ replies) last other store answer (then_done mid event reply done does) applies true_to crashes
one_more {mid = mid} event reply done (in_writes replies last writes store answer does commits true_to crashes) =
    in_writes (reply ∷ replies) last writes store answer (then_done mid event reply done does) commits true_to crashes

-- or writes are committed
writes_more : {slots : ℕ} {old mid : Serving} {left : World} {events crashed : List Event} (writes : List Command) → AreCommitted slots writes old mid
    → Rest slots mid left events crashed → Rest slots old left (map OnVolumes writes ++ events) crashed
writes_more {mid = mid} writes done (between replies last does crashes) =
    between (map (λ write. Done) writes ++ replies) last (then_committed mid writes done does) crashes
writes_more {mid = mid} writes done (in_one replies last other store answer does applies true_to crashes) =
    in_one (map (λ write. Done) writes ++ replies) last other store answer (then_committed mid writes done does) applies true_to crashes
writes_more {mid = mid} writes done (in_writes replies last others store answer does commits true_to crashes) =
    in_writes (map (λ write. Done) writes ++ replies) last others store answer (then_committed mid writes done does) commits true_to crashes

right_more : {slots : ℕ} {old mid : Serving} {left : World} {events crashed : List Event} (extents : ExtentLayout) (volumes : VolumeMap) (event : Event)
    (reply : Reply)
    (done : runs.IsDone slots event reply old mid) (rest : Rest slots mid left events crashed) → right_in extents volumes (one_more event reply done rest)
    → IsRight extents volumes event mid.store reply × right_in extents (left_by extents event volumes) rest
unfolding one_more
right_more extents volumes event reply done (between replies last does crashes) right = right
right_more extents volumes event reply done (in_one replies last other store answer does applies true_to crashes) right =
    (right.0.0, (right.0.1, right.1))
right_more extents volumes event reply done (in_writes replies last writes store answer does commits true_to crashes) right =
    (right.0.0, (right.0.1, right.1))

right_writes : {slots : ℕ} {old mid : Serving} {left : World} {events crashed : List Event} (extents : ExtentLayout) (volumes : VolumeMap)
    (writes : List Command) (done : AreCommitted slots writes old mid) (rest : Rest slots mid left events crashed)
    → right_in extents volumes (writes_more writes done rest) → AreDone extents writes volumes × right_in extents (after_all extents writes volumes) rest
unfolding writes_more
right_writes extents volumes writes done (between replies last does crashes) right = right
right_writes extents volumes writes done (in_one replies last other store answer does applies true_to crashes) right = (right.0.0, (right.0.1, right.1))
right_writes extents volumes writes done (in_writes replies last others store answer does commits true_to crashes) right =
    (right.0.0, (right.0.1, right.1))

rest_of : (slots : ℕ) {replies : List Reply} {old new : StoreView} (asks : Served replies old new) (fate : Fate) (left : World)
    (ends : EndsServing slots asks fate left)
    → Rest slots (record { store = old; fate = fate }) left (answered slots asks fate left ends) (crashed_in slots asks fate left ends)
rest_of slots (none_asked {store = store}) fate left ends = between [] (record { store = store; fate = fate }) none_done ends
rest_of slots (then_answered {old = old} mid event reply applies goes rest) fate left (here is) =
    in_one [] (record { store = old; fate = fate }) event mid reply none_done applies is.true_to is.crashes
rest_of slots (then_answered mid event reply applies goes rest) fate left (later next (over, ends)) =
    one_more event reply (record { applies = applies; goes = goes; goes_over = over }) (rest_of slots rest next left ends)
rest_of slots (then_no_event rest) fate left ends = rest_of slots rest fate left ends
rest_of slots (then_ended {old = old} {new = new} event reply applies last) fate left ends =
    in_one [] (record { store = old; fate = fate }) event new reply none_done applies ends.true_to ends.crashes
rest_of slots (then_writes {old = old} mid writes commits rest) fate left (here is) =
    in_writes [] (record { store = old; fate = fate }) writes mid (Ok tt) none_done commits is.true_to is.crashes
rest_of slots (then_writes mid writes commits rest) fate left (later next (over, ends)) =
    writes_more writes (record { commits = commits; goes_over = over }) (rest_of slots rest next left ends)
rest_of slots (then_writes_ended {old = old} {new = new} writes refusal commits) fate left ends =
    in_writes [] (record { store = old; fate = fate }) writes new (Err refusal) none_done commits ends.true_to ends.crashes

not_that : (refusal : Refusal) → refused_as refusal ≢ Err TwoLost → refusal ≢ TwoLost
not_that refusal not_two is = not_two (ap (λ (r : Refusal). refused_as r) is)

rightly : (slots : ℕ) (extents : ExtentLayout) (volumes : VolumeMap) {replies : List Reply} {old new : StoreView} (asks : Served replies old new)
    (fate : Fate) (left : World)
    (ends : EndsServing slots asks fate left)
    → right_in extents volumes (rest_of slots asks fate left ends) → AnswersRightly slots extents volumes asks fate left ends
unfolding one_more writes_more rest_of
rightly slots extents volumes none_asked fate left ends right = tt
rightly slots extents volumes (then_answered mid event reply applies goes rest) fate left (here is) right = tt
rightly slots extents volumes (then_answered mid event reply applies goes rest) fate left (later next (over, ends)) right =
    let both = right_more extents volumes event reply (record { applies = applies; goes = goes; goes_over = over })
    (rest_of slots rest next left ends) right in
    (both.0, rightly slots extents (left_by extents event volumes) rest next left ends both.1)
rightly slots extents volumes (then_no_event rest) fate left ends right = rightly slots extents volumes rest fate left ends right
rightly slots extents volumes (then_ended event reply applies last) fate left ends right = right.1
rightly slots extents volumes (then_writes mid writes commits rest) fate left (here is) right = tt
rightly slots extents volumes (then_writes mid writes commits rest) fate left (later next (over, ends)) right =
    let both = right_writes extents volumes writes (record { commits = commits; goes_over = over }) (rest_of slots rest next left ends) right in
    (both.0, rightly slots extents (after_all extents writes volumes) rest next left ends both.1)
rightly slots extents volumes (then_writes_ended writes refusal commits) fate left ends right = λ one. not_that refusal (right.1 one)

-- ---- a session, and what it keeps

session_by : {slots : ℕ} {array : ArrayView} {fate : Fate} {first : Serving} {left : World} {events crashed : List Event} → IsServing slots array fate first
    → Rest slots first left events crashed → Session slots array fate left
session_by {first = first} {events = events} opened (between replies last does crashes) = runs.between_events first last events replies opened does crashes
session_by {first = first} {events = events} opened (in_one replies last event store reply does applies true_to crashes) =
    runs.in_event first last events replies event store reply opened does applies true_to crashes
session_by {first = first} {events = events} opened (in_writes replies last writes store answer does commits true_to crashes) =
    runs.in_commit first last events replies writes store answer opened does commits true_to crashes

session_keeps : {slots : ℕ} {array : ArrayView} {fate : Fate} {first : Serving} {left : World} {events crashed : List Event} (extents : ExtentLayout)
    (before : Before)
    (opened : IsServing slots array fate first) (rest : Rest slots first left events crashed) (Later : Before → Type 0)
    → SessionKeeps extents slots before (session_by opened rest) Later
    → (volumes : VolumeMap) × IsAfterPrefix extents before volumes × IsSettledOn first.store first.fate.lost volumes × right_in extents volumes rest
    × Later (record { volumes = volumes; events = events ++ crashed; acknowledged = length events })
unfolding session_by
session_keeps {events = events} extents before opened (between replies last does crashes) Later keeps = (
  keeps.0,
  keeps.1.after_prefix,
  keeps.1.settled,
  keeps.1.right,
  subst (λ (e : List Event). Later (record { volumes = keeps.0; events = e; acknowledged = length events })) (sym (append-nil events)) keeps.2,
)
session_keeps extents before opened (in_one replies last event store reply does applies true_to crashes) Later keeps =
    (keeps.0, keeps.1.after_prefix, keeps.1.settled, (keeps.1.right, keeps.2), keeps.3)
session_keeps extents before opened (in_writes replies last writes store answer does commits true_to crashes) Later keeps =
    (keeps.0, keeps.1.after_prefix, keeps.1.settled, (keeps.1.right, keeps.2), keeps.3)

-- ---- a run, and what it keeps

module _ (id : List ℕ) (slots : ℕ) (panel : Panel) (begun left : World) where
  run_of : {replies : List Reply} (done : DoneOn id (begun_with panel begun.image) replies) → EndsOn slots done begun.fate left
      → Run id slots panel begun left
  run_of (only_read after reads) crashes = runs.only_read after.history reads crashes
  run_of (not_assembled after refusal assembles) crashes = runs.in_assembling (recovery.Returned after refusal) assembles crashes
  run_of (not_opened array after refusal assembles opens) (here crashes) = runs.in_assembling (recovery.Opened array) assembles crashes
  run_of (not_opened array after refusal assembles opens) (later next (over, (true_to, crashes))) =
      runs.assembled array next (record { assembles = assembles; goes_over = over }) (runs.in_opening (Returned after refusal) opens true_to crashes)
  run_of (served array first last assembles opens asks) (here crashes) = runs.in_assembling (recovery.Opened array) assembles crashes
  run_of (served array first last assembles opens asks) (later next (over, here (true_to, crashes))) =
      runs.assembled array next (record { assembles = assembles; goes_over = over }) (runs.in_opening (Opened first) opens true_to crashes)
  run_of (served array first last assembles opens asks) (later next (over, later then (over', ends))) =
      runs.assembled array next (record { assembles = assembles; goes_over = over })
      (session_by (record { opens = opens; goes_over = over' }) (rest_of slots asks then left ends))

  run_keeps : (extents : ExtentLayout) (before : Before) {replies : List Reply} (done : DoneOn id (begun_with panel begun.image) replies)
      (ends : EndsOn slots done begun.fate left) (Later Other : Before → Type 0) → ((next : Before) → Later next → Other next)
      → RunKeeps id extents slots before (run_of done ends) Later → BankKeeps slots extents before done begun.fate left ends Other
  unfolding run_of
  run_keeps extents before (only_read after reads) crashes Later Other more keeps = more before keeps
  run_keeps extents before (not_assembled after refusal assembles) crashes Later Other more keeps = (keeps.0, more before keeps.1)
  run_keeps extents before (not_opened array after refusal assembles opens) (here crashes) Later Other more keeps = more before keeps.1
  run_keeps extents before (not_opened array after refusal assembles opens) (later next (over, (true_to, crashes))) Later Other more keeps =
      (keeps.0, more before keeps.1)
  run_keeps extents before (served array first last assembles opens asks) (here crashes) Later Other more keeps = more before keeps.1
  run_keeps extents before (served array first last assembles opens asks) (later next (over, here (true_to, crashes))) Later Other more keeps =
      more before keeps.1
  run_keeps extents before (served array first last assembles opens asks) (later next (over, later then (over', ends))) Later Other more keeps =
      let is = session_keeps extents before (record { opens = opens; goes_over = over' }) (rest_of slots asks then left ends) Later keeps in (
        is.0,
        is.1,
        is.2,
        rightly slots extents is.0 asks then left ends is.3,
        more (kept_by slots is.0 asks then left ends) is.4,
      )

-- Invocations are runs.
pub runs_of : (id : List ℕ) (devices slots : ℕ) {world : World} → Invocations id devices slots world → Runs id devices slots world
runs_of id devices slots no_more = runs.no_more
runs_of id devices slots (next_bank begun left panel replies begins same of_bank done ends rest) =
    runs.next_run begun left panel begins same of_bank (run_of id slots panel begun left done ends) (runs_of id devices slots rest)

keep : (id : List ℕ) (extents : ExtentLayout) (devices slots : ℕ) (before : Before) {world : World} (invocations : Invocations id devices slots world)
    → RunsKeep id extents devices slots before (runs_of id devices slots invocations) → InvocationsKeep id extents devices slots before invocations
unfolding runs_of
keep id extents devices slots before no_more keeps = tt
keep id extents devices slots before (next_bank begun left panel replies begins same of_bank done ends rest) keeps =
    run_keeps id slots panel begun left extents before done ends
    (λ then. RunsKeep id extents devices slots then (runs_of id devices slots rest)) (λ then. InvocationsKeep id extents devices slots then rest)
    (λ next after. keep id extents devices slots next rest after) keeps

pub headline_of_the_program : HeadlineOfTheProgram
headline_of_the_program id geometry bank array left makes quiet crashes invocations =
    ∥∥₁_map (headline id geometry bank array left makes quiet (runs.unopened crashes)
    (runs_of array.table.id array.panel.devices (slots_of array.table) invocations))
    (keep array.table.id (extents_in array.table.geometry) array.panel.devices (slots_of array.table) (nothing_before array.table.geometry.format) invocations)
