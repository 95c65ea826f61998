-- Invocations of the program on a set, one after another: what each did on its banks, what it answered, where a crash came in it, and what is kept.
use Rattle.std.specs.Prelude.{◌≡◌, ◌≢◌, ℕ, ◌+◌, List, [], ◌∷◌, ◌++◌, length, map, Ok, Err}
use Rattle.sector_model.specs.declared.refusal.Refusal.{Refusal}
use Rattle.sector_model.specs.declared.refusal.Refusal.TheVariants.{BadLine, TwoLost}
use Rattle.sector_model.specs.Bank.{IsTrueTo, Panel}
use Rattle.sector_model.specs.Reads.{HasRead}
use Rattle.layout_map.specs.declared.geometry.Geometry.{Geometry}
use Rattle.superblock.specs.Losses.{IsSingleFailure}
use Rattle.superblock.specs.NextTables.{slots_of}
use Rattle.array_io.specs.Believed.DeviceRules.{MayBegin}
use Rattle.array_io.specs.Believed.Views.{ArrayView}
use Rattle.recovery.specs.Making as recovery
use Rattle.recovery.specs.Making.{BankView, IsQuietBeyond, Makes}
use Rattle.recovery.specs.Assembling.{Assembles}
use Rattle.volume_table.specs.Volumes.{VolumeMap}
use Rattle.volume_table.specs.VolumeStep.{Command, Done, Event, OnVolumes, Refused, Reply, left_by}
use Rattle.volume_table.specs.Staging.{AreDone, CommitsStaged, after_all}
use Rattle.volume_table.specs.Stands.{IsSettledOn, StoreView}
use Rattle.volume_table.specs.StoreCalls.{Applies, EndsStore, lost_in}
use Rattle.volume_table.specs.Opening.{Opened, Opens, Returned}
use Rattle.volume_table.specs.Runs.{Crashes, Fate, GoesOver, World, begun_with, case_of}
use Rattle.volume_table.specs.Headline.{Before, IsAfterPrefix, IsAssembledUnlessWorn, IsOpenedUnlessWorn, IsRight, nothing_before, nothing_lost}
use Rattle.extents.specs.declared.extent_layout.ExtentLayout.{ExtentLayout}
use Rattle.extents.specs.SetExtents.{extents_in}

-- ---- what a command does on a bank

-- A store was asked one thing after another, and answered these replies: events; writes that waited together, each answered after their commit; and lines of a
-- script that say none, which change nothing. An event or a commit that ended it is the last.
pub data Served : List Reply → (old new : StoreView) → Type 0 where
  none_asked : {store : StoreView} → Served [] store store
  then_answered : {old new : StoreView} {replies : List Reply} (mid : StoreView) (event : Event) (reply : Reply) → Applies (Unit {0}) event old mid reply
      → ¬ EndsStore reply → Served replies mid new → Served (reply ∷ replies) old new
  then_no_event : {old new : StoreView} {replies : List Reply} → Served replies old new → Served (Refused BadLine ∷ replies) old new
  then_ended : {old new : StoreView} (event : Event) (reply : Reply) → Applies (Unit {0}) event old new reply → EndsStore reply
      → Served (reply ∷ []) old new
  then_writes : {old new : StoreView} {replies : List Reply} (mid : StoreView) (writes : List Command) → CommitsStaged (Unit {0}) writes old mid (Ok tt)
      → Served replies mid new → Served (map (λ write. Done) writes ++ replies) old new
  then_writes_ended : {old new : StoreView} (writes : List Command) (refusal : Refusal) → CommitsStaged (Unit {0}) writes old new (Err refusal)
      → Served (map (λ write. Refused refusal) writes) old new

-- What was done on a bank, and answered: devices were read alone; the set of the id was not assembled, or its volumes were not opened; or a store was
-- opened, and asked one thing after another.
pub data DoneOn (id : List ℕ) (bank : BankView) : List Reply → Type 0 where
  only_read : (after : BankView) → HasRead bank.history after.history → DoneOn id bank []
  not_assembled : (after : BankView) (refusal : Refusal) → Assembles (Unit {0}) id bank (recovery.Returned after refusal) → DoneOn id bank []
  not_opened : (array : ArrayView) (after : BankView) (refusal : Refusal) → Assembles (Unit {0}) id bank (recovery.Opened array)
      → Opens (Unit {0}) array (Returned after refusal) → DoneOn id bank []
  served : {replies : List Reply} (array : ArrayView) (first last : StoreView) → Assembles (Unit {0}) id bank (recovery.Opened array)
      → Opens (Unit {0}) array (Opened first) → Served replies first last → DoneOn id bank replies

-- the events that a store was asked
abbrev pub events_in : {replies : List Reply} {old new : StoreView} → Served replies old new → List Event
events_in none_asked = []
events_in (then_answered mid event reply applies goes rest) = event ∷ events_in rest
events_in (then_no_event rest) = events_in rest
events_in (then_ended event reply applies ends) = event ∷ []
events_in (then_writes mid writes commits rest) = map OnVolumes writes ++ events_in rest
events_in (then_writes_ended writes refusal commits) = map OnVolumes writes

abbrev pub events_on : {id : List ℕ} {bank : BankView} {replies : List Reply} → DoneOn id bank replies → List Event
events_on (only_read after reads) = []
events_on (not_assembled after refusal assembles) = []
events_on (not_opened array after refusal assembles opens) = []
events_on (served array first last assembles opens asks) = events_in asks

-- ---- where it ends: a crash comes in it, or after it. One slot is lost at most until then.

-- The crash comes here, or later, and this becomes of the devices before.
pub data Comes (Here : Type 0) (Later : Fate → Type 0) : Type 0 where
  here : Here → Comes Here Later
  later : (next : Fate) → Later next → Comes Here Later

-- the crash comes in an event, or before its reply is written
pub record EndsIn (slots : ℕ) (event : Event) (old new : StoreView) (fate : Fate) (left : World) : Type 0 where
  pub true_to : IsTrueTo new.array.panel new.array.history
  pub crashes : Crashes slots (lost_in event old.array.table fate.lost) fate old.array.history new.array.history left

-- the crash comes in a commit of writes that waited together, or before the reply to one of them is written
pub record EndsInCommit (slots : ℕ) (old new : StoreView) (fate : Fate) (left : World) : Type 0 where
  pub true_to : IsTrueTo new.array.panel new.array.history
  pub crashes : Crashes slots fate.lost fate old.array.history new.array.history left

-- The crash comes in one of the events or commits, or after all of them.
abbrev pub EndsServing : (slots : ℕ) {replies : List Reply} {old new : StoreView} → Served replies old new → Fate → World → Type 0
EndsServing slots (none_asked {store = store}) fate left = Crashes slots fate.lost fate store.array.history store.array.history left
EndsServing slots (then_answered {old = old} mid event reply applies goes rest) fate left =
    Comes (EndsIn slots event old mid fate left) (λ next.
    GoesOver slots (lost_in event old.array.table fate.lost) fate mid.array.table mid.array.history next × EndsServing slots rest next left)
EndsServing slots (then_no_event rest) fate left = EndsServing slots rest fate left
EndsServing slots (then_ended {old = old} {new = new} event reply applies ends) fate left = EndsIn slots event old new fate left
EndsServing slots (then_writes {old = old} mid writes commits rest) fate left =
    Comes (EndsInCommit slots old mid fate left) (λ next. GoesOver slots fate.lost fate mid.array.table mid.array.history next × EndsServing slots rest next
    left)
EndsServing slots (then_writes_ended {old = old} {new = new} writes refusal commits) fate left = EndsInCommit slots old new fate left

-- The crash comes in opening the volumes; or they were opened, and it comes in one of the events, or after all of them.
abbrev pub EndsOpened : (slots : ℕ) (array : ArrayView) (first : StoreView) {replies : List Reply} {last : StoreView} → Served replies first last
    → Fate → World → Type 0
EndsOpened slots array first asks fate left =
    Comes (IsTrueTo first.array.panel first.array.history × Crashes slots fate.lost fate array.history first.array.history left) (λ next.
    GoesOver slots fate.lost fate first.array.table first.array.history next × EndsServing slots asks next left)

-- The crash comes in assembling the set; or it was assembled, and it comes after that.
abbrev pub EndsAssembled : (slots : ℕ) (bank : BankView) (array : ArrayView) → Fate → World → (Later : Fate → Type 0) → Type 0
EndsAssembled slots bank array fate left Later =
    Comes (Crashes slots fate.lost fate bank.history array.history left) (λ next.
    GoesOver slots fate.lost fate array.table array.history next × Later next)

abbrev pub EndsOn : (slots : ℕ) {id : List ℕ} {bank : BankView} {replies : List Reply} → DoneOn id bank replies → Fate → World → Type 0
EndsOn slots {bank = bank} (only_read after reads) fate left = Crashes slots fate.lost fate bank.history after.history left
EndsOn slots {bank = bank} (not_assembled after refusal assembles) fate left = Crashes slots fate.lost fate bank.history after.history left
EndsOn slots {bank = bank} (not_opened array after refusal assembles opens) fate left =
    EndsAssembled slots bank array fate left (λ next. IsTrueTo after.panel after.history × Crashes slots next.lost next array.history after.history left)
EndsOn slots {bank = bank} (served array first last assembles opens asks) fate left =
    EndsAssembled slots bank array fate left (λ next. EndsOpened slots array first asks next left)

-- Of the events those that were answered before the crash, and the one in which it came, if it came in one. A reply is written after the event is answered:
-- so whatever was written of the replies when the crash came is of events that were answered.
abbrev pub answered : (slots : ℕ) {replies : List Reply} {old new : StoreView} (asks : Served replies old new) (fate : Fate) (left : World)
    → EndsServing slots asks fate left → List Event
answered slots none_asked fate left ends = []
answered slots (then_answered mid event reply applies goes rest) fate left (here is) = []
answered slots (then_answered mid event reply applies goes rest) fate left (later next (over, ends)) = event ∷ answered slots rest next left ends
answered slots (then_no_event rest) fate left ends = answered slots rest fate left ends
answered slots (then_ended event reply applies last) fate left ends = []
answered slots (then_writes mid writes commits rest) fate left (here is) = []
answered slots (then_writes mid writes commits rest) fate left (later next (over, ends)) = map OnVolumes writes ++ answered slots rest next left ends
answered slots (then_writes_ended writes refusal commits) fate left ends = []

abbrev pub crashed_in : (slots : ℕ) {replies : List Reply} {old new : StoreView} (asks : Served replies old new) (fate : Fate) (left : World)
    → EndsServing slots asks fate left → List Event
crashed_in slots none_asked fate left ends = []
crashed_in slots (then_answered mid event reply applies goes rest) fate left (here is) = event ∷ []
crashed_in slots (then_answered mid event reply applies goes rest) fate left (later next (over, ends)) = crashed_in slots rest next left ends
crashed_in slots (then_no_event rest) fate left ends = crashed_in slots rest fate left ends
crashed_in slots (then_ended event reply applies last) fate left ends = event ∷ []
crashed_in slots (then_writes mid writes commits rest) fate left (here is) = map OnVolumes writes
crashed_in slots (then_writes mid writes commits rest) fate left (later next (over, ends)) = crashed_in slots rest next left ends
crashed_in slots (then_writes_ended writes refusal commits) fate left ends = map OnVolumes writes

-- ---- invocations

-- Banks of invocations, one after another: each begins with what the one before left, as far as the rules on devices allow. An invocation has one bank or
-- several: `replace` finds out first what its slot's file needs, and each command whether a slot is missing whose file it can't open.
pub data Invocations (id : List ℕ) (devices slots : ℕ) : World → Type 0 where
  no_more : {world : World} → Invocations id devices slots world
  next_bank : {world : World} (begun left : World) (panel : Panel) (replies : List Reply)
      → MayBegin id devices slots world.fate.replaced (case_of world) (case_of begun) → begun.fate.replaced ≡ world.fate.replaced
      → panel.devices ≡ devices → (done : DoneOn id (begun_with panel begun.image) replies) → EndsOn slots done begun.fate left
      → Invocations id devices slots left → Invocations id devices slots world

-- What was answered before the crash was answered rightly, from these volumes on; and with one slot lost at most no store is ended by 15.
abbrev pub AnswersRightly : (slots : ℕ) (extents : ExtentLayout) → VolumeMap
    → {replies : List Reply} {old new : StoreView} (asks : Served replies old new) (fate : Fate)
    (left : World) → EndsServing slots asks fate left → Type 0
AnswersRightly slots extents volumes none_asked fate left ends = Unit {0}
AnswersRightly slots extents volumes (then_answered mid event reply applies goes rest) fate left (here is) = Unit {0}
AnswersRightly slots extents volumes (then_answered mid event reply applies goes rest) fate left (later next (over, ends)) =
    IsRight extents volumes event mid reply × AnswersRightly slots extents (left_by extents event volumes) rest next left ends
AnswersRightly slots extents volumes (then_no_event rest) fate left ends = AnswersRightly slots extents volumes rest fate left ends
AnswersRightly slots extents volumes (then_ended {old = old} {new = new} event reply applies last) fate left ends =
    IsSingleFailure slots (lost_in event old.array.table fate.lost) new.array.history → reply ≢ Refused TwoLost
AnswersRightly slots extents volumes (then_writes mid writes commits rest) fate left (here is) = Unit {0}
AnswersRightly slots extents volumes (then_writes mid writes commits rest) fate left (later next (over, ends)) =
    AreDone extents writes volumes × AnswersRightly slots extents (after_all extents writes volumes) rest next left ends
AnswersRightly slots extents volumes (then_writes_ended {new = new} writes refusal commits) fate left ends =
    IsSingleFailure slots fate.lost new.array.history → refusal ≢ TwoLost

-- what was kept by the volumes, and what is to be kept of them
abbrev pub kept_by : (slots : ℕ) (volumes : VolumeMap) {replies : List Reply} {old new : StoreView} (asks : Served replies old new) (fate : Fate) (left : World)
    → EndsServing slots asks fate left → Before
kept_by slots volumes asks fate left ends = record {
  volumes = volumes;
  events = answered slots asks fate left ends ++ crashed_in slots asks fate left ends;
  acknowledged = length (answered slots asks fate left ends);
}

-- A store was opened, and is settled on volumes after a prefix of the events before that has each one answered; it answered rightly; and then what comes later
-- is kept.
abbrev pub ServingKeeps : (slots : ℕ) (extents : ExtentLayout) → Before
    → {replies : List Reply} {old new : StoreView} (asks : Served replies old new) (fate : Fate)
    (left : World) → EndsServing slots asks fate left → (Before → Type 0) → Type 0
ServingKeeps slots extents before {old = old} asks fate left ends Later =
    (volumes : VolumeMap) × IsAfterPrefix extents before volumes × IsSettledOn old fate.lost volumes × AnswersRightly slots extents volumes asks fate left ends
    × Later (kept_by slots volumes asks fate left ends)

abbrev pub BankKeeps : (slots : ℕ) (extents : ExtentLayout) → Before
    → {id : List ℕ} {bank : BankView} {replies : List Reply} (done : DoneOn id bank replies) (fate : Fate)
    (left : World) → EndsOn slots done fate left → (Before → Type 0) → Type 0
BankKeeps slots extents before (only_read after reads) fate left ends Later = Later before
BankKeeps slots extents before {id = id} {bank = bank} (not_assembled after refusal assembles) fate left ends Later =
    IsAssembledUnlessWorn id slots fate.lost bank (recovery.Returned after refusal) × Later before
BankKeeps slots extents before (not_opened array after refusal assembles opens) fate left (here is) Later = Later before
BankKeeps slots extents before (not_opened array after refusal assembles opens) fate left (later next is) Later =
    IsOpenedUnlessWorn slots next.lost array (Returned after refusal) × Later before
BankKeeps slots extents before (served array first last assembles opens asks) fate left (here is) Later = Later before
BankKeeps slots extents before (served array first last assembles opens asks) fate left (later next (over, here is)) Later = Later before
BankKeeps slots extents before (served array first last assembles opens asks) fate left (later next (over, later then (opened, ends))) Later =
    ServingKeeps slots extents before asks then left ends Later

-- Invocations keep the promise.
abbrev pub InvocationsKeep : (id : List ℕ) (extents : ExtentLayout) (devices slots : ℕ) → Before → {world : World} → Invocations id devices slots world → Type 0
InvocationsKeep id extents devices slots before no_more = Unit {0}
InvocationsKeep id extents devices slots before (next_bank begun left panel replies begins same of_bank done ends rest) =
    BankKeeps slots extents before done begun.fate left ends (λ then. InvocationsKeep id extents devices slots then rest)

-- The theorem: from a set that `make` has made, whatever invocations of the program follow, each ended by a crash at any moment, or after it: each that opens
-- the set is settled on volumes that are those after a prefix of the events of the last one that opened it, with every event among them that was answered then.
abbrev pub HeadlineOfTheProgram : Type 0
HeadlineOfTheProgram = (id : List ℕ) (geometry : Geometry) (bank : BankView) (array : ArrayView) (left : World)
    → Makes (Unit {0}) id geometry bank (recovery.Opened array) → IsQuietBeyond id (geometry.members + 2) bank
    → Crashes (slots_of array.table) nothing_lost.lost nothing_lost array.history array.history left
    → (invocations : Invocations array.table.id array.panel.devices (slots_of array.table) left)
    → ∥ InvocationsKeep array.table.id (extents_in array.table.geometry) array.panel.devices (slots_of array.table)
    (nothing_before array.table.geometry.format) invocations ∥₁
