-- What each call of a store promises.
use Rattle.std.specs.Prelude.{◌≡◌, ◌⊎◌, ℕ, ◌+◌, ◌<◌, ◌≤◌, true, false, nat_lt, ◌||◌, List, [], ◌∷◌, length, take, Contains, Option, Some, None}
use Rattle.sector_model.specs.declared.refusal.Refusal.{Refusal}
use Rattle.sector_model.specs.declared.refusal.Refusal.TheVariants.{BadCount, BadName, BadSize, Exists, Memory, NoSpace, NoVolume, OutOfRange, TooManyVolumes}
use Rattle.sector_model.specs.Bank.{Panel}
use Rattle.sector_model.specs.History.{History}
use Rattle.sector_model.specs.Readable.{readable}
use Rattle.sector_model.specs.Reads.{HasRead}
use Rattle.superblock.specs.declared.state.State.TheVariants.{InSync}
use Rattle.superblock.specs.declared.table.Table.{Table}
use Rattle.superblock.specs.Tables.{incarnation_at, state_at}
use Rattle.superblock.specs.Cases.{Lost, lost_from}
use Rattle.superblock.specs.Counted.{least_sectors}
use Rattle.superblock.specs.NextTables.{slots_of}
use Rattle.array_io.specs.Believed.Holds.{row_count}
use Rattle.array_io.specs.Believed.Views.{ArrayView, EndsIt, DeviceFailed, GoesOn, IsEndOf}
use Rattle.layout_map.specs.declared.format.Format.TheVariants.{One}
use Rattle.scrub.specs.Scrubbing.{AreUnsound}
use Rattle.volume_table.specs.Volumes.{Block, VolumeMap}
use Rattle.volume_table.specs.VolumeStep.{Blocks, Command, Create, Done, Event, Extend, Fail, Names, OnSet, OnVolumes, Refused, Remove, Rename, Replace, Reply}
use Rattle.volume_table.specs.VolumeStep.{Scrub, ScrubRows, Scrubbed, Upgrade, Volumes, Write, Read, left_by, reply_to}
use Rattle.volume_table.specs.SetReplies.{AnswersSet, Devices, SetState, set_after, set_refusal}
use Rattle.volume_table.specs.Stands.{IsSettledAfter, IsSettledOn, StandsThroughout, StoreView}
use Rattle.extents.specs.declared.extent_layout.ExtentLayout.{ExtentLayout}
use Rattle.extents.specs.SetExtents.{extents_in}
use Rattle.extents.specs.VolumeTables.{most_blocks}
use Rattle.sector_model.specs.declared.calls.TheConstants.{GREATEST_COUNT}

-- the states and the position of a table's set
abbrev pub set_of : Table → SetState
set_of table = record { states = take (slots_of table) table.states; position = table.position }

-- What the set's replies say of devices is what the bank's devices do: one that failed in the call answered a fault, and whichever did is down at the
-- return; one is unusable that was down or is too short; and the unsound rows are those of what reads give.
pub record AreDevicesOf (honest : Type 0) (table : Table) (old new : Panel) (h : History) (devices : Devices) : Type 0 where
  pub failed : honest → (slot : ℕ) → slot < slots_of table → DeviceFailed slot old new → devices.faults slot ≡ true
  pub is_down : (slot : ℕ) → slot < slots_of table → devices.faults slot ≡ true → new.down slot ≡ true
  pub unusable : (slot : ℕ) → slot < slots_of table → devices.unusable slot ≡ (old.down slot || nat_lt (old.sectors slot) (least_sectors table.geometry slot))
  pub format : devices.format ≡ table.geometry.format
  pub rows : devices.rows ≡ row_count table
  pub unsound : honest → AreUnsound table (readable h) devices.unsound

-- the extents of a store's set
abbrev pub extents_for_store : StoreView → ExtentLayout
extents_for_store store = extents_in store.array.table.geometry

-- what is lost during an event: also the slot of a `fail` that is not refused
abbrev pub lost_unless : Option Refusal → Option Lost → ℕ → Option Lost
lost_unless None lost slot = lost_from lost slot
lost_unless (Some refusal) lost slot = lost

-- whether a `fail` is refused is decided by the states alone
abbrev pub no_devices : Devices
no_devices = record { faults = λ slot. false; unusable = λ slot. false; format = One; rows = 0; unsound = [] }

abbrev pub lost_in : Event → Table → Option Lost → Option Lost
lost_in (OnSet (Fail slot)) table lost = lost_unless (set_refusal no_devices (Fail slot) (set_of table)) lost slot
lost_in event table lost = lost

-- the event gives a slot up: it is a `fail` of it that is not refused
abbrev pub GivesUp : Event → Table → ℕ → Type 0
GivesUp (OnSet (Fail slot)) table other = (other ≡ slot) × (set_refusal no_devices (Fail slot) (set_of table) ≡ None)
GivesUp event table other = ⊥

-- the event is a scrub, of the whole set or of a part
abbrev pub IsScrub : Event → Type 0
IsScrub (OnSet Scrub) = Unit {0}
IsScrub (OnSet (ScrubRows first rows)) = Unit {0}
IsScrub event = ⊥

-- the reply is 15 or 16, and ends the store
abbrev pub EndsStore : Reply → Type 0
EndsStore (Refused refusal) = EndsIt refusal
EndsStore reply = ⊥

-- a list of names for which there is no memory
pub record LacksMemory (command : Command) (reply : Reply) : Type 0 where
  pub listing : command ≡ Names
  pub refused : reply ≡ Refused Memory

-- The counter that an event would raise, besides the generation, stands at 2^62. A command on volumes has an entry for each block of the largest volume
-- that the set may have, and one for the table, at most.
abbrev pub IsCounterFull : Event → (old new : ArrayView) → Type 0
IsCounterFull (OnVolumes command) old new = (GREATEST_COUNT ≤ old.number + (most_blocks (extents_in old.table.geometry).blocks + 1))
    × (GREATEST_COUNT ≤ new.number)
IsCounterFull (OnSet (Replace slot)) old new = GREATEST_COUNT ≤ incarnation_at old.table.incarnations slot
IsCounterFull (OnSet command) old new = ⊥

-- what a command on volumes may be refused with, beside 15 and 16
abbrev pub refusals_of : Command → List Refusal
refusals_of (Create name count) = BadName ∷ BadSize ∷ Exists ∷ TooManyVolumes ∷ NoSpace ∷ []
refusals_of (Extend name growth) = NoVolume ∷ BadSize ∷ NoSpace ∷ []
refusals_of (Remove name) = NoVolume ∷ []
refusals_of (Read name at count) = NoVolume ∷ BadCount ∷ OutOfRange ∷ []
refusals_of (Write name at blocks) = NoVolume ∷ BadCount ∷ OutOfRange ∷ []
refusals_of (Rename old new) = NoVolume ∷ BadName ∷ Exists ∷ []
refusals_of Names = Memory ∷ []
refusals_of Upgrade = []

-- the answer to a command that is not refused is one of its kind
abbrev pub IsOfItsKind : Command → Reply → Type 0
IsOfItsKind (Read name at count) reply = (blocks : List Block) × (reply ≡ Blocks blocks) × (length blocks ≡ count)
IsOfItsKind Names reply = (listed : List (List ℕ × ℕ)) × (reply ≡ Volumes listed)
IsOfItsKind command reply = reply ≡ Done

-- on any bank a command on volumes answers nothing else
abbrev pub IsListed : Event → Reply → Type 0
IsListed (OnVolumes command) (Refused refusal) = Contains (refusals_of command) refusal ⊎ EndsIt refusal
IsListed (OnVolumes command) reply = IsOfItsKind command reply
IsListed (OnSet command) reply = Unit {0}

-- a command on volumes is answered as the volume machine does, unless it ends the store
abbrev pub IsAnswered : Event → StoreView → Reply → Type 0
IsAnswered (OnVolumes command) old reply = (lost : Option Lost) (volumes : VolumeMap) → IsSettledOn old lost volumes
    → (reply ≡ reply_to (extents_for_store old) command volumes) ⊎ LacksMemory command reply
IsAnswered (OnSet command) old reply = Unit {0}

-- the states and position after it, by what its devices did; a command on the set is answered by these
abbrev pub LeavesSet : Event → Devices → SetState → SetState → Reply → Type 0
LeavesSet (OnVolumes command) devices before left reply = left ≡ set_after devices (OnVolumes command) before
LeavesSet (OnSet command) devices before left reply = AnswersSet devices command before reply left

-- the devices were these in the call, and the set's states and position are as they leave them
pub record SetIsLeft (honest : Type 0) (event : Event) (old new : StoreView) (reply : Reply) : Type 0 where
  pub devices : Devices
  pub are : AreDevicesOf honest old.array.table old.array.panel new.array.panel new.array.history devices
  pub left : LeavesSet event devices (set_of old.array.table) (set_of new.array.table) reply

-- each slot has its incarnation still, but that of a slot that is replaced may be one more
abbrev pub IncarnationsStay : Event → (old new : Table) → Type 0
IncarnationsStay event old new = (slot : ℕ) → (incarnation_at new.incarnations slot ≡ incarnation_at old.incarnations slot)
    ⊎ ((event ≡ OnSet (Replace slot)) × (incarnation_at new.incarnations slot ≡ incarnation_at old.incarnations slot + 1))

-- A store that a refusal ended answers it to every event, before it looks at anything else.
pub record StaysEnded (old new : StoreView) (reply : Reply) : Type 0 where
  pub same : new ≡ old
  pub refused : (refusal : Refusal) → old.ended ≡ Some refusal → reply ≡ Refused refusal

-- an event of a store that no refusal ended
pub record GoesThrough (honest : Type 0) (event : Event) (old new : StoreView) (reply : Reply) : Type 0 where
  pub goes_on : GoesOn old.array new.array
  -- whatever it answers, it makes two new tables at most
  pub generation : new.array.table.generation ≤ old.array.table.generation + 2
  pub incarnations : IncarnationsStay event old.array.table new.array.table
  -- a slot that was in sync is in sync still, or its device is down, or it was given up
  pub spared : (slot : ℕ) → slot < slots_of old.array.table → state_at old.array.table.states slot ≡ InSync → ¬ GivesUp event old.array.table slot
      → (state_at new.array.table.states slot ≡ InSync) ⊎ (new.array.panel.down slot ≡ true)
  pub set_left : ¬ EndsStore reply → SetIsLeft honest event old new reply
  pub ends : (refusal : Refusal) → reply ≡ Refused refusal → EndsIt refusal
      → (new.ended ≡ Some refusal) × IsEndOf old.array new.array (IsCounterFull event old.array new.array) refusal
  pub goes : ¬ EndsStore reply → new.ended ≡ None
  pub listed : IsListed event reply
  -- a scrub that is answered repairs nothing
  pub scrubs : honest → IsScrub event → (rows bad : ℕ) (first_bad : Option ℕ) → reply ≡ Scrubbed rows bad first_bad
      → HasRead old.array.history new.array.history
  -- at each moment the volumes are those before the event or those after it
  pub moments : honest → (lost : Option Lost) (volumes : VolumeMap) → IsSettledOn old lost volumes
      → StandsThroughout old.array.table old.array.panel.devices (lost_in event old.array.table lost)
      (volumes ∷ left_by (extents_for_store old) event volumes ∷ []) old.array.history new.array.history
  pub answered : honest → ¬ EndsStore reply → IsAnswered event old reply
  pub settled : honest → ¬ EndsStore reply → (lost : Option Lost) (volumes : VolumeMap) → IsSettledOn old lost volumes
      → IsSettledAfter (lost_in event old.array.table lost) new (left_by (extents_for_store old) event volumes)

-- `apply(event)`: the reply of the event's call
pub record Applies (honest : Type 0) (event : Event) (old new : StoreView) (reply : Reply) : Type 0 where
  pub ended : (refusal : Refusal) → old.ended ≡ Some refusal → StaysEnded old new reply
  pub going : old.ended ≡ None → GoesThrough honest event old new reply
