-- What each public call of an open store promises, by the reply that its result stands for.
use Rattle.std.specs.Prelude.{◌≡◌, ℕ, ◌-◌, ◌<◌, List, [], ◌∷◌, ◌++◌, map, length, Option, Some, None, Result, Ok, Err}
use Rattle.sector_model.specs.declared.refusal.Refusal.{Refusal}
use Rattle.sector_model.specs.declared.refusal.Refusal.TheVariants.{Memory}
use Rattle.layout_map.specs.declared.format.Format.{Format}
use Rattle.superblock.specs.declared.state.State.{State}
use Rattle.superblock.specs.Tables.{incarnation_at, state_at}
use Rattle.superblock.specs.Cases.{Lost}
use Rattle.superblock.specs.NextTables.{slots_of}
use Rattle.array_io.specs.Believed.Holds.{row_count}
use Rattle.array_io.specs.Believed.Views.{EndsIt}
use Rattle.rebuild.specs.Rebuilding.{Progress}
use Rattle.scrub.specs.Scrubbing.{Report}
use Rattle.std.specs.declared.alloc.Global.{Global}
use Rattle.std.specs.declared.vec.Vec.{Vec}
use Rattle.volume_table.specs.declared.status.Status.{Status}
use Rattle.volume_table.specs.declared.listed.Listed.{Listed}
use Rattle.volume_table.specs.Volumes.{Block, VolumeMap, need}
use Rattle.volume_table.specs.VolumeStep.{Blocks, Create, Done, Event, Extend, Fail, Names, OnSet, OnVolumes, Progressed, Read, RebuildStep, Refused, Remove}
use Rattle.volume_table.specs.VolumeStep.{Rename, Replace, Reply, Scrub, ScrubRows, Scrubbed, Upgrade, Volumes, Write}
use Rattle.volume_table.specs.Stands.{IsSettledOn, StoreView}
use Rattle.volume_table.specs.StoreCalls.{Applies, EndsStore, extents_for_store}

-- the result of a call that answers nothing but that it was done
abbrev pub Answer : Type 0
Answer = Result (Unit {0}) Refusal

abbrev pub done_reply : Answer → Reply
done_reply (Ok done) = Done
done_reply (Err refusal) = Refused refusal

-- a read that is refused may leave anything where its blocks were to go
abbrev pub blocks_reply : (read : List Block) → Answer → Reply
blocks_reply read (Ok done) = Blocks read
blocks_reply read (Err refusal) = Refused refusal

abbrev pub listed_reply : Result (List Listed) Refusal → Reply
listed_reply (Ok listed) = Volumes (map (λ volume. (volume.name.bytes.items, volume.blocks)) listed)
listed_reply (Err refusal) = Refused refusal

abbrev pub progress_reply : Result Progress Refusal → Reply
progress_reply (Ok progress) = Progressed progress
progress_reply (Err refusal) = Refused refusal

abbrev pub scrub_reply : Result Report Refusal → Reply
scrub_reply (Ok report) = Scrubbed report.rows report.bad report.first_bad
scrub_reply (Err refusal) = Refused refusal

abbrev pub listed_of : Result (Vec Listed Global) Refusal → Result (List Listed) Refusal
listed_of (Ok listed) = Ok listed.items
listed_of (Err refusal) = Err refusal

-- `create(name, blocks)`. 1, 2, 3, 4, 5, 15, 16.
abbrev pub CreatesVolume : (honest : Type 0) (name : List ℕ) (count : ℕ) (old new : StoreView) → Answer → Type 0
CreatesVolume honest name count old new result = Applies honest (OnVolumes (Create name count)) old new (done_reply result)

-- `extend(name, by)`. 6, 2, 5, 15, 16.
abbrev pub ExtendsVolume : (honest : Type 0) (name : List ℕ) (growth : ℕ) (old new : StoreView) → Answer → Type 0
ExtendsVolume honest name growth old new result = Applies honest (OnVolumes (Extend name growth)) old new (done_reply result)

-- `remove(name)`. 6, 15, 16.
abbrev pub RemovesVolume : (honest : Type 0) (name : List ℕ) (old new : StoreView) → Answer → Type 0
RemovesVolume honest name old new result = Applies honest (OnVolumes (Remove name)) old new (done_reply result)

-- `read(name, at, to)`: as many blocks as `to` has places, which at Ok hold them. 6, 7, 8, 15, 16.
abbrev pub ReadsBlocks : (honest : Type 0) (name : List ℕ) (at : ℕ) (to_before to_after : List Block) (old new : StoreView) → Answer → Type 0
ReadsBlocks honest name at to_before to_after old new result =
    Applies honest (OnVolumes (Read name at (length to_before))) old new (blocks_reply to_after result)

-- `write(name, at, from)`. 6, 7, 8, 15, 16.
abbrev pub WritesBlocks : (honest : Type 0) (name : List ℕ) (at : ℕ) (written : List Block) (old new : StoreView) → Answer → Type 0
WritesBlocks honest name at written old new result = Applies honest (OnVolumes (Write name at written)) old new (done_reply result)

-- `rename(old, new)`. 6, 1, 3, 15, 16.
abbrev pub RenamesVolume : (honest : Type 0) (name name_after : List ℕ) (old new : StoreView) → Answer → Type 0
RenamesVolume honest name name_after old new result = Applies honest (OnVolumes (Rename name name_after)) old new (done_reply result)

-- `list()`: all volumes in rising byte order of names. 14, 15, 16.
abbrev pub ListsVolumes : (honest : Type 0) (old new : StoreView) → Result (List Listed) Refusal → Type 0
ListsVolumes honest old new result = Applies honest (OnVolumes Names) old new (listed_reply result)

-- `upgrade()`. 15, 16.
abbrev pub UpgradesTable : (honest : Type 0) (old new : StoreView) → Answer → Type 0
UpgradesTable honest old new result = Applies honest (OnVolumes Upgrade) old new (done_reply result)

-- `fail(slot)`. 9, 10, 15, 16.
abbrev pub FailsSlot : (honest : Type 0) (slot : ℕ) (old new : StoreView) → Answer → Type 0
FailsSlot honest slot old new result = Applies honest (OnSet (Fail slot)) old new (done_reply result)

-- `replace(slot)`. 10, 11, 15, 16.
abbrev pub ReplacesDevice : (honest : Type 0) (slot : ℕ) (old new : StoreView) → Answer → Type 0
ReplacesDevice honest slot old new result = Applies honest (OnSet (Replace slot)) old new (done_reply result)

-- `rebuild_step(rows)`. 12, 15, 16.
abbrev pub RebuildsRows : (honest : Type 0) (rows : ℕ) (old new : StoreView) → Result Progress Refusal → Type 0
RebuildsRows honest rows old new result = Applies honest (OnSet (RebuildStep rows)) old new (progress_reply result)

-- `scrub()`. 13, 15, 16.
abbrev pub ScrubsSet : (honest : Type 0) (old new : StoreView) → Result Report Refusal → Type 0
ScrubsSet honest old new result = Applies honest (OnSet Scrub) old new (scrub_reply result)

-- `scrub_rows(first, rows)`. 13, 15, 16.
abbrev pub ScrubsRows : (honest : Type 0) (first rows : ℕ) (old new : StoreView) → Result Report Refusal → Type 0
ScrubsRows honest first rows old new result = Applies honest (OnSet (ScrubRows first rows)) old new (scrub_reply result)

-- what a store tells of its set
pub record StatusView : Type 0 where
  pub id : List ℕ
  pub format : Format
  pub members : ℕ
  pub chunk : ℕ
  pub stripes : ℕ
  pub rows : ℕ
  pub generation : ℕ
  pub position : ℕ
  pub extent_blocks : ℕ
  pub extents : ℕ
  pub free : ℕ
  pub volumes : ℕ
  pub version : ℕ
  pub states : List State
  pub incarnations : List ℕ

-- a status tells of the array's table, and of the volumes on which the store is settled
pub record IsStatusOf (store : StoreView) (status : StatusView) : Type 0 where
  pub id : status.id ≡ store.array.table.id
  pub format : status.format ≡ store.array.table.geometry.format
  pub members : status.members ≡ store.array.table.geometry.members
  pub chunk : status.chunk ≡ store.array.table.geometry.chunk
  pub stripes : status.stripes ≡ store.array.table.geometry.stripes
  pub rows : status.rows ≡ row_count store.array.table
  pub generation : status.generation ≡ store.array.table.generation
  pub position : status.position ≡ store.array.table.position
  pub states : (slot : ℕ) → slot < slots_of store.array.table → state_at status.states slot ≡ state_at store.array.table.states slot
  pub incarnations : (slot : ℕ) → slot < slots_of store.array.table
      → incarnation_at status.incarnations slot ≡ incarnation_at store.array.table.incarnations slot
  pub extent_blocks : status.extent_blocks ≡ (extents_for_store store).blocks
  pub extents : status.extents ≡ (extents_for_store store).count
  pub free : (lost : Option Lost) (those : VolumeMap) → IsSettledOn store lost those
      → status.free ≡ (extents_for_store store).count - need (extents_for_store store).blocks those.volumes
  pub volumes : (lost : Option Lost) (those : VolumeMap) → IsSettledOn store lost those → status.volumes ≡ length those.volumes
  pub version : (lost : Option Lost) (those : VolumeMap) → IsSettledOn store lost those → status.version ≡ those.version

-- what a status says
abbrev pub status_view : Status → StatusView
status_view status = record {
  id = status.id;
  format = status.format;
  members = status.members;
  chunk = status.chunk;
  stripes = status.stripes;
  rows = status.rows;
  generation = status.generation;
  position = status.position;
  extent_blocks = status.extent_blocks;
  extents = status.extents;
  free = status.free;
  volumes = status.volumes;
  version = status.version;
  states = status.states;
  incarnations = status.incarnations;
}

abbrev pub status_of : Result Status Refusal → Result StatusView Refusal
status_of (Ok status) = Ok (status_view status)
status_of (Err refusal) = Err refusal

abbrev pub IsStatusAnswer : StoreView → Result StatusView Refusal → Type 0
IsStatusAnswer store (Ok status) = IsStatusOf store status
IsStatusAnswer store (Err refusal) = ⊥

-- `status()`, which changes nothing: a status, unless a refusal ended the store. 15, 16 for that alone.
pub record TellsStatus (store : StoreView) (result : Result StatusView Refusal) : Type 0 where
  pub ended : (refusal : Refusal) → store.ended ≡ Some refusal → result ≡ Err refusal
  pub going : store.ended ≡ None → IsStatusAnswer store result

-- Events done one after another, none of which ended the store, each with its ack: the count of device calls when it was answered, also
-- where it was refused.
pub data Chain (honest : Type 0) : List Event → (acks : List ℕ) → (old new : StoreView) → Type 0 where
  none_done : {store : StoreView} → Chain honest [] [] store store
  then_done : {old new : StoreView} {events : List Event} {acks : List ℕ} (mid : StoreView) (event : Event) (reply : Reply) (ack : ℕ)
      → Applies honest event old mid reply → ¬ EndsStore reply → ack ≡ mid.array.panel.calls
      → Chain honest events acks mid new → Chain honest (event ∷ events) (ack ∷ acks) old new

-- all events are done, and acknowledged after the acks that were there
pub record DoesAll (honest : Type 0) (events : List Event) (old new : StoreView) (acks_before acks_after : List ℕ) : Type 0 where
  pub acks : List ℕ
  pub chain : Chain honest events acks old new
  pub acknowledged : acks_after ≡ acks_before ++ acks

-- nothing is done: no device call, and no ack
pub record DoesNothing (old new : StoreView) (acks_before acks_after : List ℕ) : Type 0 where
  pub same : new ≡ old
  pub none_acknowledged : acks_after ≡ acks_before

-- The first events are done and acknowledged; the next one ended the store, and has no ack.
pub record EndsAtEvent (honest : Type 0) (events : List Event) (old new : StoreView) (acks_before acks_after : List ℕ) (refusal : Refusal) : Type 0 where
  pub done : List Event
  pub event : Event
  pub undone : List Event
  pub parts : events ≡ done ++ event ∷ undone
  pub mid : StoreView
  pub acks : List ℕ
  pub chain : Chain honest done acks old mid
  pub acknowledged : acks_after ≡ acks_before ++ acks
  pub applies : Applies honest event mid new (Refused refusal)
  pub ends : EndsIt refusal

-- how a run ends: with all events done; for want of memory for the acks before the first event; or at an event that ended the store
abbrev pub RunEnds : (honest : Type 0) (events : List Event) (old new : StoreView) (acks_before acks_after : List ℕ) → Answer → Type 0
RunEnds honest events old new acks_before acks_after (Ok done) = DoesAll honest events old new acks_before acks_after
RunEnds honest events old new acks_before acks_after (Err Memory) = DoesNothing old new acks_before acks_after
RunEnds honest events old new acks_before acks_after (Err refusal) = EndsAtEvent honest events old new acks_before acks_after refusal

-- a store that a refusal ended answers it, whatever the events are
pub record RunStaysEnded (old new : StoreView) (acks_before acks_after : List ℕ) (result : Answer) (refusal : Refusal) : Type 0 where
  pub refused : result ≡ Err refusal
  pub nothing : DoesNothing old new acks_before acks_after

-- `run(events, acks)`: the events in order, each by `apply`. 14, 15, 16.
pub record RunsEvents (honest : Type 0) (events : List Event) (old new : StoreView) (acks_before acks_after : List ℕ) (result : Answer) : Type 0 where
  pub ended : (refusal : Refusal) → old.ended ≡ Some refusal → RunStaysEnded old new acks_before acks_after result refusal
  pub going : old.ended ≡ None → RunEnds honest events old new acks_before acks_after result
