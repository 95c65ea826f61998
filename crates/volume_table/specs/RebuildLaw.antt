-- What becomes of the rebuild of a member: it goes on after a crash from where it was, and it ends after so many steps.
use Rattle.std.specs.Prelude.{◌≡◌, ◌≢◌, ℕ, ◌+◌, ◌*◌, ◌<◌, false, List, [], ◌∷◌, Option, None}
use Rattle.sector_model.specs.declared.refusal.Refusal.TheVariants.{Worn}
use Rattle.sector_model.specs.Bank.{Panel}
use Rattle.sector_model.specs.History.{MayLeave, Slots, is_down}
use Rattle.superblock.specs.declared.table.Table.{Table}
use Rattle.superblock.specs.Cases.{Lost}
use Rattle.superblock.specs.Losses.{IsSingleFailure}
use Rattle.superblock.specs.NextTables.{IsComplete, slots_of}
use Rattle.array_io.specs.Believed.Holds.{row_count}
use Rattle.array_io.specs.Believed.Views.{ArrayView}
use Rattle.recovery.specs.Making.{Opened}
use Rattle.recovery.specs.Assembling.{Assembles}
use Rattle.rebuild.specs.Rebuilding.{Complete, IsRebuilding, Position, steps_left_of}
use Rattle.volume_table.specs.Volumes.{VolumeMap}
use Rattle.volume_table.specs.VolumeStep.{Event, Fail, OnSet, Progressed, RebuildStep, Refused, Reply}
use Rattle.volume_table.specs.SetLaw.{steps_of}
use Rattle.volume_table.specs.Stands.{IsSettledOn, StoreView}
use Rattle.volume_table.specs.StoreCalls.{Applies}
use Rattle.volume_table.specs.StoreFunctions.{Chain, none_done, then_done}
use Rattle.volume_table.specs.Runs.{begun_with}
use Rattle.layout_map.specs.Formats.{rebuild_rows}

-- A store crashed, and its set is assembled from an image that the crash may leave, with one slot lost at most.
pub record IsAssembledAgain (store : StoreView) (lost : Option Lost) (array : ArrayView) : Type 0 where
  pub image : Slots
  pub panel : Panel
  pub left : MayLeave store.array.history image
  pub as_many_slots : panel.devices ≡ store.array.panel.devices
  pub assembles : Assembles (Unit {0}) store.array.table.id (begun_with panel image) (Opened array)
  pub single_failure : IsSingleFailure (slots_of store.array.table) lost array.history

-- the member that was rebuilding by the old table is so by the new one, so many rows further
pub record IsRebuildingOn (member rows : ℕ) (old new : Table) : Type 0 where
  pub still : IsRebuilding new member
  pub position : new.position ≡ old.position + rows

-- A rebuild resumes: where a settled store crashes, by whose table a member is rebuilding, and its set is assembled
-- with the device of that member up at the return, the member is rebuilding at the same position.
abbrev pub RebuildResumes : Type 0
RebuildResumes = (store : StoreView) (lost : Option Lost) (volumes : VolumeMap) (array : ArrayView) (member : ℕ)
    → IsSettledOn store lost volumes → IsAssembledAgain store lost array
    → IsRebuilding store.array.table member → is_down array.history member ≡ false
    → IsRebuildingOn member 0 store.array.table array.table

-- each device of a store's set is up
abbrev pub AllUp : StoreView → Type 0
AllUp store = (slot : ℕ) → slot < slots_of store.array.table → store.array.panel.down slot ≡ false

-- as many rows as a step of a set's rebuild may have, by its format
abbrev pub step_rows : Table → ℕ
step_rows table = rebuild_rows table.geometry.format

-- An event that lets the rebuild of a member go on: it does not give the member up, a rebuild step has as many rows as it
-- may, and each device is up at the return.
pub record LeavesRebuilding (member : ℕ) (event : Event) (new : StoreView) : Type 0 where
  pub not_given_up : event ≢ OnSet (Fail member)
  pub whole : (rows : ℕ) → event ≡ OnSet (RebuildStep rows) → rows ≡ step_rows new.array.table
  pub all_up : AllUp new

-- and so do all events of a chain
abbrev pub AllLeaveRebuilding : {events : List Event} {acks : List ℕ} {old new : StoreView} (member : ℕ)
    → Chain (Unit {0}) events acks old new → Type 0
AllLeaveRebuilding member none_done = Unit {0}
AllLeaveRebuilding member (then_done mid event reply ack applies goes counted rest) =
    LeavesRebuilding member event mid × AllLeaveRebuilding member rest

-- how many rebuild steps are among these events
abbrev pub steps_in : List Event → ℕ
steps_in [] = 0
steps_in (event ∷ events) = steps_of event + steps_in events

-- how many such steps are left from a position of a set's rows on
abbrev pub steps_from : Table → (position : ℕ) → ℕ
steps_from table position = steps_left_of (step_rows table) position (row_count table)

-- how many a set has left to do by its table
abbrev pub steps_to_do : Table → ℕ
steps_to_do table = steps_from table table.position

-- From a store that no refusal ended, in which this member is rebuilding, events were done one after another, rebuild
-- steps and whatever else, all of which let the rebuild go on.
pub record RebuildsBy (member : ℕ) (events : List Event) (acks : List ℕ) (old new : StoreView) : Type 0 where
  pub going : old.ended ≡ None
  pub rebuilding : IsRebuilding old.array.table member
  pub chain : Chain (Unit {0}) events acks old new
  pub all_leave : AllLeaveRebuilding member chain

-- A rebuild goes on: while steps are left to do, the member is rebuilding, as many rows further as a step may have for each that was done.
abbrev pub RebuildAdvances : Type 0
RebuildAdvances = (member : ℕ) (events : List Event) (acks : List ℕ) (old new : StoreView)
    → RebuildsBy member events acks old new → steps_in events < steps_to_do old.array.table
    → IsRebuildingOn member (step_rows old.array.table * steps_in events) old.array.table new.array.table

-- A rebuild ends: the last of the steps that were left at the start is answered with `Complete`, and the set is
-- complete, unless the step is refused because a counter stands at 2^62.
abbrev pub RebuildEnds : Type 0
RebuildEnds = (member : ℕ) (events : List Event) (acks : List ℕ) (old mid new : StoreView) (reply : Reply)
    → RebuildsBy member events acks old mid → steps_in events + 1 ≡ steps_to_do old.array.table
    → Applies (Unit {0}) (OnSet (RebuildStep (step_rows mid.array.table))) mid new reply → AllUp new → reply ≢ Refused Worn
    → (reply ≡ Progressed Complete) × IsComplete new.array.table

-- Each step counts: one that is answered with a position leaves, from there on, one step fewer than there were.
abbrev pub RebuildCounts : Type 0
RebuildCounts = (position : ℕ) (old new : StoreView)
    → Applies (Unit {0}) (OnSet (RebuildStep (step_rows old.array.table))) old new (Progressed (Position position))
    → steps_to_do old.array.table ≡ steps_from old.array.table position + 1
