-- Runs of a set, one after another: each begins with what the one before left, and ends with a crash.
use Rattle.std.specs.Prelude.{◌≡◌, ℕ, ◌≤◌, List, [], ◌∷◌, ◌++◌, map, Ok, Option, Some, None}
use Rattle.sector_model.specs.Bank.{IsTrueTo, Panel}
use Rattle.sector_model.specs.History.{Began, History, MayLeave, Slots, calls_of, cut_at}
use Rattle.sector_model.specs.Reads.{HasRead}
use Rattle.superblock.specs.declared.table.Table.{Table}
use Rattle.superblock.specs.Cases.{Case, IsLostAfter, Lost}
use Rattle.superblock.specs.Losses.{IsLostAt, IsSingleFailure}
use Rattle.array_io.specs.Believed.DeviceRules.{MayBegin, Replaced}
use Rattle.array_io.specs.Believed.Views.{ArrayView}
use Rattle.recovery.specs.Making as recovery
use Rattle.recovery.specs.Making.{BankView}
use Rattle.recovery.specs.Assembling.{Assembles}
use Rattle.array_io.specs.Believed.ArrayCalls.{Answer}
use Rattle.volume_table.specs.VolumeStep.{Command, Done, Event, OnVolumes, Reply}
use Rattle.volume_table.specs.Staging.{CommitsStaged}
use Rattle.volume_table.specs.Stands.{StoreView}
use Rattle.volume_table.specs.StoreCalls.{Applies, EndsStore, lost_in}
use Rattle.volume_table.specs.Opening.{Opened, Opens, Outcome, bank_after}

-- What becomes of a set's devices, beside what its calls see: the slot that is lost, if one is, with what its devices that are away last held, and
-- the devices that were replaced.
pub record Fate : Type 0 where
  pub lost : Option Lost
  pub replaced : List Replaced

-- the devices that were away when a loss ended are replaced
abbrev pub replaced_by : Option Lost → Option Lost → List Replaced
replaced_by (Some lost) None = map (λ disk. record { slot = lost.slot; disk = disk }) lost.away
replaced_by before after = []

-- A call of a set returned: one slot is lost at most, by what was lost during the call; and from now on the slot that the set's table lacks.
pub record GoesOver (slots : ℕ) (during : Option Lost) (old : Fate) (table : Table) (h : History) (new : Fate) : Type 0 where
  pub single_failure : IsSingleFailure slots during h
  pub lost : IsLostAfter during table new.lost
  pub replaced : new.replaced ≡ replaced_by during new.lost ++ old.replaced

-- between two runs: what stands in the slots, and the devices' fate
pub record World : Type 0 where
  pub image : Slots
  pub fate : Fate

abbrev pub case_of : World → Case
case_of world = record { image = world.image; lost = world.fate.lost }

-- A crash comes in a call, after so many device calls, with one slot lost at most, and leaves one of the images that it may leave.
pub record Crashes (slots : ℕ) (during : Option Lost) (fate : Fate) (old new : History) (left : World) : Type 0 where
  pub t : ℕ
  pub from : calls_of old ≤ t
  pub until : t ≤ calls_of new
  pub lost : IsLostAt slots during (cut_at t new) left.fate.lost
  pub leaves : MayLeave (cut_at t new) left.image
  pub replaced : left.fate.replaced ≡ fate.replaced

-- an open store, and the devices' fate
pub record Serving : Type 0 where
  pub store : StoreView
  pub fate : Fate

-- an event is done: it was answered, and did not end the store
pub record IsDone (slots : ℕ) (event : Event) (reply : Reply) (old new : Serving) : Type 0 where
  pub applies : Applies (Unit {0}) event old.store new.store reply
  pub goes : ¬ EndsStore reply
  pub goes_over : GoesOver slots (lost_in event old.store.array.table old.fate.lost) old.fate new.store.array.table new.store.array.history new.fate

-- writes that waited together are committed: they were answered, and did not end the store
pub record AreCommitted (slots : ℕ) (writes : List Command) (old new : Serving) : Type 0 where
  pub commits : CommitsStaged (Unit {0}) writes old.store new.store (Ok tt)
  pub goes_over : GoesOver slots old.fate.lost old.fate new.store.array.table new.store.array.history new.fate

-- events with their replies, done one after another; writes that are committed together are each answered then
pub data Does (slots : ℕ) : List Event → List Reply → Serving → Serving → Type 0 where
  none_done : {serving : Serving} → Does slots [] [] serving serving
  then_done : {old new : Serving} {events : List Event} {replies : List Reply} (mid : Serving) (event : Event) (reply : Reply)
      → IsDone slots event reply old mid → Does slots events replies mid new → Does slots (event ∷ events) (reply ∷ replies) old new
  then_committed : {old new : Serving} {events : List Event} {replies : List Reply} (mid : Serving) (writes : List Command)
      → AreCommitted slots writes old mid → Does slots events replies mid new
      → Does slots (map OnVolumes writes ++ events) (map (λ write. Done) writes ++ replies) old new

-- a store is opened over an array
pub record IsServing (slots : ℕ) (array : ArrayView) (fate : Fate) (serving : Serving) : Type 0 where
  pub opens : Opens (Unit {0}) array (Opened serving.store)
  pub goes_over : GoesOver slots fate.lost fate serving.store.array.table serving.store.array.history serving.fate

-- What is done with an open array until a crash: nothing; the crash comes in opening a store; between events, or in one, after some were done; or in a commit
-- of writes that waited together.
-- Events after one that ended the store change nothing (`StaysEnded`), so the crash then comes in that one.
pub data Session (slots : ℕ) (array : ArrayView) (fate : Fate) (left : World) : Type 0 where
  unopened : Crashes slots fate.lost fate array.history array.history left → Session slots array fate left
  in_opening : (outcome : Outcome) → Opens (Unit {0}) array outcome → IsTrueTo (bank_after outcome).panel (bank_after outcome).history
      → Crashes slots fate.lost fate array.history (bank_after outcome).history left → Session slots array fate left
  between_events : (first serving : Serving) (events : List Event) (replies : List Reply)
      → IsServing slots array fate first → Does slots events replies first serving
      → Crashes slots serving.fate.lost serving.fate serving.store.array.history serving.store.array.history left → Session slots array fate left
  in_event : (first serving : Serving) (events : List Event) (replies : List Reply) (event : Event) (store : StoreView) (reply : Reply)
      → IsServing slots array fate first → Does slots events replies first serving
      → Applies (Unit {0}) event serving.store store reply → IsTrueTo store.array.panel store.array.history
      → Crashes slots (lost_in event serving.store.array.table serving.fate.lost) serving.fate serving.store.array.history store.array.history left
      → Session slots array fate left
  in_commit : (first serving : Serving) (events : List Event) (replies : List Reply) (writes : List Command) (store : StoreView) (answer : Answer)
      → IsServing slots array fate first → Does slots events replies first serving
      → CommitsStaged (Unit {0}) writes serving.store store answer → IsTrueTo store.array.panel store.array.history
      → Crashes slots serving.fate.lost serving.fate serving.store.array.history store.array.history left
      → Session slots array fate left

-- a run begins with an image, and the bank shows what its run says
abbrev pub begun_with : Panel → Slots → BankView
begun_with panel image = record { panel = panel; history = Began image }

-- a set is assembled from what stands in the slots
pub record IsAssembled (id : List ℕ) (slots : ℕ) (panel : Panel) (world : World) (array : ArrayView) (fate : Fate) : Type 0 where
  pub assembles : Assembles (Unit {0}) id (begun_with panel world.image) (recovery.Opened array)
  pub goes_over : GoesOver slots world.fate.lost world.fate array.table array.history fate

-- A run: devices are read alone, and no set is assembled; the crash comes in assembling; or the set is assembled, and then a session.
pub data Run (id : List ℕ) (slots : ℕ) (panel : Panel) (world left : World) : Type 0 where
  only_read : (h : History) → HasRead (Began world.image) h
      → Crashes slots world.fate.lost world.fate (Began world.image) h left → Run id slots panel world left
  in_assembling : (outcome : recovery.Outcome) → Assembles (Unit {0}) id (begun_with panel world.image) outcome
      → Crashes slots world.fate.lost world.fate (Began world.image) (recovery.bank_after outcome).history left → Run id slots panel world left
  assembled : (array : ArrayView) (fate : Fate) → IsAssembled id slots panel world array fate → Session slots array fate left → Run id slots panel world left

-- Runs one after another, of a bank with so many slots: each begins with what the one before left, as far as the rules on devices allow.
pub data Runs (id : List ℕ) (devices slots : ℕ) : World → Type 0 where
  no_more : {world : World} → Runs id devices slots world
  next_run : {world : World} (begun left : World) (panel : Panel)
      → MayBegin id devices slots world.fate.replaced (case_of world) (case_of begun) → begun.fate.replaced ≡ world.fate.replaced
      → panel.devices ≡ devices → Run id slots panel begun left → Runs id devices slots left → Runs id devices slots world
