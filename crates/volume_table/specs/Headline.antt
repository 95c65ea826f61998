-- The theorem over all runs of a set, from the contracts of its calls.
use Rattle.std.specs.Prelude.{◌≡◌, ◌≢◌, ◌⊎◌, ℕ, ◌+◌, ◌≤◌, List, [], ◌∷◌, ◌++◌, length, map, Err, Option, None}
use Rattle.sector_model.specs.declared.refusal.Refusal.TheVariants.{TwoLost, Worn}
use Rattle.sector_model.specs.Bank.{Panel}
use Rattle.layout_map.specs.declared.format.Format.{Format}
use Rattle.layout_map.specs.declared.geometry.Geometry.{Geometry}
use Rattle.superblock.specs.Cases.{Lost}
use Rattle.superblock.specs.Losses.{IsSingleFailure}
use Rattle.superblock.specs.NextTables.{IsComplete, slots_of}
use Rattle.array_io.specs.Believed.Holds.{row_count}
use Rattle.array_io.specs.Believed.Views.{ArrayView}
use Rattle.recovery.specs.Making as recovery
use Rattle.recovery.specs.Making.{BankView, IsQuietBeyond, Makes}
use Rattle.recovery.specs.Assembling.{IsNoAssembly}
use Rattle.scrub.specs.Scrubbing.{rows_in_part}
use Rattle.volume_table.specs.Volumes.{VolumeMap, no_volumes}
use Rattle.volume_table.specs.VolumeStep.{Event, OnSet, OnVolumes, Refused, Reply, Scrub, ScrubRows, Scrubbed, after, left_by, reply_to}
use Rattle.volume_table.specs.Stands.{IsSettledOn, StoreView}
use Rattle.volume_table.specs.StoreCalls.{LacksMemory, lost_in}
use Rattle.volume_table.specs.Staging.{AreDone, after_all}
use Rattle.volume_table.specs.Opening.{IsNoOpening, Opened, Outcome, Returned}
use Rattle.volume_table.specs.Runs.{Does, Fate, Run, Runs, Serving, Session, none_done, then_committed, then_done, World, in_assembling, assembled}
use Rattle.volume_table.specs.Runs.{between_events, in_commit, in_event, in_opening, no_more, unopened, next_run, begun_with, only_read}
use Rattle.extents.specs.declared.extent_layout.ExtentLayout.{ExtentLayout}
use Rattle.extents.specs.SetExtents.{extents_in}

-- What went before: the volumes that a store was opened with, the events of its run, and how many of them were acknowledged.
pub record Before : Type 0 where
  pub volumes : VolumeMap
  pub events : List Event
  pub acknowledged : ℕ

-- the volumes after a prefix of the events that has every acknowledged one
pub record IsAfterPrefix (extents : ExtentLayout) (before : Before) (volumes : VolumeMap) : Type 0 where
  pub n : ℕ
  pub has_acknowledged : before.acknowledged ≤ n
  pub is_prefix : n ≤ length before.events
  pub is : volumes ≡ after extents before.events before.volumes n

-- An event is answered rightly: a command on volumes as the volume machine does, but that there may be no memory for a list; and a scrub of a set that
-- is complete looks at all of its rows, or at all of the part that it is asked of, and finds none whose parity is not the XOR of its data.
abbrev pub IsRight : ExtentLayout → VolumeMap → Event → (after : StoreView) → Reply → Type 0
IsRight extents volumes (OnVolumes command) after reply = (reply ≡ reply_to extents command volumes) ⊎ LacksMemory command reply
IsRight extents volumes (OnSet Scrub) after reply = IsComplete after.array.table → reply ≡ Scrubbed (row_count after.array.table) 0 None
IsRight extents volumes (OnSet (ScrubRows first rows)) after reply = IsComplete after.array.table
    → reply ≡ Scrubbed (rows_in_part (row_count after.array.table) first rows) 0 None
IsRight extents volumes (OnSet command) after reply = Unit {0}

-- so are events that are done one after another
abbrev pub AreRight : {slots : ℕ} {events : List Event} {replies : List Reply} {old new : Serving} → (extents : ExtentLayout) → VolumeMap
    → Does slots events replies old new → Type 0
AreRight extents volumes none_done = Unit {0}
AreRight extents volumes (then_done mid event reply done rest) = IsRight extents volumes event mid.store reply
    × AreRight extents (left_by extents event volumes) rest
AreRight extents volumes (then_committed mid writes done rest) = AreDone extents writes volumes × AreRight extents (after_all extents writes volumes) rest

-- with one slot lost at most, assembling is refused only where a counter stands at 2^62
abbrev pub IsAssembledUnlessWorn : List ℕ → (slots : ℕ) → Option Lost → BankView → recovery.Outcome → Type 0
IsAssembledUnlessWorn id slots lost old (recovery.Opened array) = Unit {0}
IsAssembledUnlessWorn id slots lost old (recovery.Returned bank refusal) = IsSingleFailure slots lost bank.history → (refusal ≡ Worn)
    × IsNoAssembly id old bank Worn

-- and so is opening
abbrev pub IsOpenedUnlessWorn : (slots : ℕ) → Option Lost → ArrayView → Outcome → Type 0
IsOpenedUnlessWorn slots lost array (Opened store) = Unit {0}
IsOpenedUnlessWorn slots lost array (Returned bank refusal) = IsSingleFailure slots lost bank.history → (refusal ≡ Worn)
    × IsNoOpening (Unit {0}) array bank Worn

-- The store was opened with volumes after a prefix, with every acknowledged event, of the events before; and all events were answered rightly.
pub record IsServed {slots : ℕ} {events : List Event} {replies : List Reply} {first serving : Serving} (extents : ExtentLayout) (before : Before)
    (does : Does slots events replies first serving)
    (volumes : VolumeMap) : Type 0 where
  pub after_prefix : IsAfterPrefix extents before volumes
  pub settled : IsSettledOn first.store first.fate.lost volumes
  pub right : AreRight extents volumes does

-- A session keeps the promise, and what comes after it by what then went before.
abbrev pub SessionKeeps : (extents : ExtentLayout) (slots : ℕ) → Before → {array : ArrayView} {fate : Fate} {left : World} → Session slots array fate left
    → (Before → Type 0)
    → Type 0
SessionKeeps extents slots before (unopened crashes) later = later before
SessionKeeps extents slots before {array = array} {fate = fate} (in_opening outcome opens true_to crashes) later =
    IsOpenedUnlessWorn slots fate.lost array outcome × later before
SessionKeeps extents slots before (between_events first serving events replies opened does crashes) later =
    (volumes : VolumeMap) × IsServed extents before does volumes
    × later (record { volumes = volumes; events = events; acknowledged = length events })
SessionKeeps extents slots before (in_event first serving events replies event store reply opened does applies true_to crashes) later =
    (volumes : VolumeMap) × IsServed extents before does volumes
    × (IsSingleFailure slots (lost_in event serving.store.array.table serving.fate.lost) store.array.history → reply ≢ Refused TwoLost)
    × later (record { volumes = volumes; events = events ++ event ∷ []; acknowledged = length events })
SessionKeeps extents slots before (in_commit first serving events replies writes store answer opened does commits true_to crashes) later =
    (volumes : VolumeMap) × IsServed extents before does volumes
    × (IsSingleFailure slots serving.fate.lost store.array.history → answer ≢ Err TwoLost)
    × later (record { volumes = volumes; events = events ++ map OnVolumes writes; acknowledged = length events })

abbrev pub RunKeeps : (id : List ℕ) (extents : ExtentLayout) (slots : ℕ) → Before → {panel : Panel} {world left : World} → Run id slots panel world left
    → (Before → Type 0)
    → Type 0
RunKeeps id extents slots before (only_read h reads crashes) later = later before
RunKeeps id extents slots before {panel = panel} {world = world} (in_assembling outcome assembles crashes) later =
    IsAssembledUnlessWorn id slots world.fate.lost (begun_with panel world.image) outcome × later before
RunKeeps id extents slots before (assembled array fate is session) later = SessionKeeps extents slots before session later

-- Runs keep the promise: each gives volumes that are those after a prefix, with every acknowledged event, of the events of the last run that was opened.
abbrev pub RunsKeep : (id : List ℕ) (extents : ExtentLayout) (devices slots : ℕ) → Before → {world : World} → Runs id devices slots world → Type 0
RunsKeep id extents devices slots before no_more = Unit {0}
RunsKeep id extents devices slots before (next_run begun left panel begins same of_bank run runs) =
    RunKeeps id extents slots before run (λ then. RunsKeep id extents devices slots then runs)

-- no store of a set of this format was opened yet: there are no volumes
abbrev pub nothing_before : Format → Before
nothing_before format = record { volumes = no_volumes format; events = []; acknowledged = 0 }

-- no slot is lost, and no device was replaced
abbrev pub nothing_lost : Fate
nothing_lost = record { lost = None; replaced = [] }

-- The theorem: from a set that `make` has answered, whatever is done with it until a crash, and in all runs after that.
abbrev pub Headline : Type 0
Headline = (id : List ℕ) (geometry : Geometry) (bank : BankView) (array : ArrayView) (left : World)
    → Makes (Unit {0}) id geometry bank (recovery.Opened array) → IsQuietBeyond id (geometry.members + 2) bank
    → (session : Session (slots_of array.table) array nothing_lost left)
    → (runs : Runs array.table.id array.panel.devices (slots_of array.table) left)
    → ∥ SessionKeeps (extents_in array.table.geometry) (slots_of array.table) (nothing_before array.table.geometry.format) session
    (λ before. RunsKeep array.table.id (extents_in array.table.geometry) array.panel.devices (slots_of array.table) before runs) ∥₁
