-- Writes that wait in a batch, and what a commit of them does to a store.
use Rattle.std.specs.Prelude.{◌≡◌, ◌≢◌, ◌⊎◌, ℕ, ◌+◌, ◌<◌, ◌≤◌, true, false, Bool, List, [], ◌∷◌, ◌++◌, length, Contains, Option, None, Some, Result, Ok, Err}
use Rattle.sector_model.specs.declared.refusal.Refusal.{Refusal}
use Rattle.sector_model.specs.declared.refusal.Refusal.TheVariants.{BadCount, NoVolume, OutOfRange}
use Rattle.superblock.specs.declared.state.State.TheVariants.{InSync}
use Rattle.superblock.specs.Tables.{incarnation_at, state_at}
use Rattle.superblock.specs.Cases.{Lost}
use Rattle.superblock.specs.NextTables.{slots_of}
use Rattle.batch.specs.Places.{Given, logical_at}
use Rattle.array_io.specs.Believed.ArrayCalls.{Answer, written}
use Rattle.array_io.specs.Believed.Views.{GoesOn, IsEndOf}
use Rattle.sector_model.specs.declared.calls.TheConstants.{GREATEST_COUNT}
use Rattle.extents.specs.declared.extent_layout.ExtentLayout.{ExtentLayout}
use Rattle.extents.specs.declared.volume_table.VolumeTable.{VolumeTable}
use Rattle.volume_table.specs.Admission.{ShowsBy}
use Rattle.volume_table.specs.Volumes.{Block, VolumeMap}
use Rattle.volume_table.specs.VolumeStep.{Command, Done, OnVolumes, Write, refusal_of, reply_to, volumes_after}
use Rattle.volume_table.specs.Stands.{IsSettledAfter, IsSettledOn, StandsThroughout, StoreView}
use Rattle.volume_table.specs.StoreCalls.{SetIsLeft, extents_for_store}

-- the volumes after commands on them, one after another
abbrev pub after_all : ExtentLayout → List Command → VolumeMap → VolumeMap
after_all extents [] volumes = volumes
after_all extents (command ∷ commands) volumes = after_all extents commands (volumes_after extents command volumes)

-- each of them is done by the volume machine
abbrev pub AreDone : ExtentLayout → List Command → VolumeMap → Type 0
AreDone extents [] volumes = Unit {0}
AreDone extents (command ∷ commands) volumes = (reply_to extents command volumes ≡ Done) × AreDone extents commands (volumes_after extents command volumes)

-- each of these sectors lies within a list
abbrev pub LieWithin : List Block → Given → Type 0
LieWithin logical sectors = (k : ℕ) → k < length sectors → logical_at sectors k < length logical

-- Sectors that wait hold these writes to the volumes of a table: whatever volumes a list shows by it, each write is done in its turn, and the list with the
-- sectors written shows the volumes after all of them, by the same table.
pub record HoldsWrites (extents : ExtentLayout) (table : VolumeTable) (writes : List Command) (sectors : Given) : Type 0 where
  pub done : (logical : List Block) (volumes : VolumeMap) → LieWithin logical sectors → ShowsBy extents table logical volumes
      → AreDone extents writes volumes
  pub shows : (logical : List Block) (volumes : VolumeMap) → LieWithin logical sectors → ShowsBy extents table logical volumes
      → ShowsBy extents table (written logical sectors) (after_all extents writes volumes)

-- they hold some writes
pub record HoldSome (extents : ExtentLayout) (table : VolumeTable) (sectors : Given) : Type 0 where
  pub writes : List Command
  pub holds : HoldsWrites extents table writes sectors

-- A write is refused as the volume machine does, and nothing else waits than before.
pub record RefusesStaging (store : StoreView) (name : List ℕ) (at : ℕ) (blocks : List Block) (old new : Given) (refusal : Refusal) : Type 0 where
  pub same : new ≡ old
  pub listed : Contains (NoVolume ∷ BadCount ∷ OutOfRange ∷ []) refusal
  pub decides : (extents : ExtentLayout) (logical : List Block) (volumes : VolumeMap) → ShowsBy extents store.keeps logical volumes
      → Some refusal ≡ refusal_of extents (Write name at blocks) volumes

-- what a call that has a write wait answers
abbrev pub Staged : Type 0
Staged = Result Bool Refusal

-- `stage(batch, name, at, blocks)`: the write waits after those that do, or nothing else waits than before. 15, 16 of a store that ended; 6, 7, 8.
pub record Stages (store : StoreView) (name : List ℕ) (at : ℕ) (blocks : List Block) (old new : Given) (answer : Staged) : Type 0 where
  pub ended : (refusal : Refusal) → store.ended ≡ Some refusal → (answer ≡ Err refusal) × (new ≡ old)
  pub refused : store.ended ≡ None → (refusal : Refusal) → answer ≡ Err refusal → RefusesStaging store name at blocks old new refusal
  pub full : answer ≡ Ok false → new ≡ old
  pub taken : answer ≡ Ok true → (writes : List Command) → HoldsWrites (extents_for_store store) store.keeps writes old
      → HoldsWrites (extents_for_store store) store.keeps (writes ++ Write name at blocks ∷ []) new
  -- few always fit
  pub few : length old + length blocks ≤ 32 → answer ≢ Ok false

-- Writes are committed together: all of them or none at each moment, and all at Ok. They are done as the volume machine does them, one after another.
pub record CommitsWrites (honest : Type 0) (writes : List Command) (old new : StoreView) (answer : Answer) : Type 0 where
  pub goes_on : GoesOn old.array new.array
  pub generation : new.array.table.generation ≤ old.array.table.generation + 2
  pub incarnations : (slot : ℕ) → incarnation_at new.array.table.incarnations slot ≡ incarnation_at old.array.table.incarnations slot
  pub spared : (slot : ℕ) → slot < slots_of old.array.table → state_at old.array.table.states slot ≡ InSync
      → (state_at new.array.table.states slot ≡ InSync) ⊎ (new.array.panel.down slot ≡ true)
  pub set_left : answer ≡ Ok tt → (command : Command) → SetIsLeft honest (OnVolumes command) old new Done
  pub ends : (refusal : Refusal) → answer ≡ Err refusal → (new.ended ≡ Some refusal) × IsEndOf old.array new.array (GREATEST_COUNT ≤ old.array.number) refusal
  pub goes : answer ≡ Ok tt → new.ended ≡ None
  pub keeps : new.keeps ≡ old.keeps
  pub done : (lost : Option Lost) (volumes : VolumeMap) → IsSettledOn old lost volumes → AreDone (extents_for_store old) writes volumes
  pub moments : honest → (lost : Option Lost) (volumes : VolumeMap) → IsSettledOn old lost volumes
      → StandsThroughout old.array.table old.array.panel.devices lost (volumes ∷ after_all (extents_for_store old) writes volumes ∷ []) old.array.history
      new.array.history
  pub settled : honest → answer ≡ Ok tt → (lost : Option Lost) (volumes : VolumeMap) → IsSettledOn old lost volumes
      → IsSettledAfter lost new (after_all (extents_for_store old) writes volumes)

-- `commit_staged(batch)` of a store that no refusal ended
pub record CommitsStaged (honest : Type 0) (writes : List Command) (old new : StoreView) (answer : Answer) : Type 0 where
  pub ended : (refusal : Refusal) → old.ended ≡ Some refusal → (answer ≡ Err refusal) × (new ≡ old)
  pub going : old.ended ≡ None → CommitsWrites honest writes old new answer
