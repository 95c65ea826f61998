-- What a bank in memory holds.
use Rattle.std.specs.Prelude.{◌≡◌, ◌==◌, ◌&&◌, nat_lt, if◌then◌else◌, ◌<◌, ◌≤◌, ℕ, zero, suc, Bool, true, false, All, List, [], ◌∷◌, ◌++◌, length, Vec, Option}
use Rattle.std.specs.Prelude.{Some, None, is_none, slice_get, slice_index_or, slice_set, ◌+◌, ◌-◌}
use Rattle.std.specs.List.{AllPairs}
use Rattle.std.specs.declared.alloc.Global.{Global}
use Rattle.sector_model.specs.declared.memory.Entry.{Entry}
use Rattle.sector_model.specs.declared.event.Event.{Event}
use Rattle.sector_model.specs.declared.event.Event.TheVariants.{Quiet, Wrote, Lost, Flushed, DeviceFailed}
use Rattle.sector_model.specs.History.{History, Began, After, Bytes, Slots, IsSector, MayHold, disk_of, seen, is_down}

abbrev pub Disk : Type 0
Disk = Vec Bytes Global

abbrev pub sectors_in : Option Disk → Option (List Bytes)
sectors_in None = None
sectors_in (Some disk) = Some disk.items

abbrev pub slot_in : Option (Option Disk) → Option (List Bytes)
slot_in None = None
slot_in (Some slot) = sectors_in slot

-- a list of slots, as what stands in each slot; the slots after the list have no device
abbrev pub slots_of : List (Option Disk) → Slots
slots_of slots d = slot_in (slice_get slots d)

-- what the call of this number did: what the log says of it, or nothing
abbrev pub event_of : List Entry → ℕ → Event
event_of [] call = Quiet
event_of (entry ∷ log) call = if call == entry.call then entry.event else event_of log call

-- the run after n calls
abbrev pub run_of : Slots → List Entry → ℕ → History
run_of start log zero = Began start
run_of start log (suc n) = After (event_of log n) (run_of start log n)

abbrev pub contents_of : List Disk → ℕ → List Bytes
contents_of [] d = []
contents_of (disk ∷ disks) zero = disk.items
contents_of (disk ∷ disks) (suc d) = contents_of disks d

abbrev pub down_at : List Bool → ℕ → Bool
down_at flags d = slice_index_or flags d true

-- the disks and the flags are those that the run has led to
pub record IsReplayed (start : List (Option Disk)) (log : List Entry) (calls : ℕ) (disks : List Disk) (flags : List Bool) : Type 0 where
  pub seen : (d : ℕ) → contents_of disks d ≡ seen (run_of (slots_of start) log calls) d
  pub down : (d : ℕ) → down_at flags d ≡ is_down (run_of (slots_of start) log calls) d
  pub early : All (λ entry. entry.call < calls) log
  pub beyond : (d : ℕ) → length flags ≤ d → slots_of start d ≡ None
  pub whole : (d a : ℕ) (v : Bytes) → a < length (disk_of (slots_of start d)) → MayHold (run_of (slots_of start) log calls) d a v → IsSector v

-- how many devices are not down
abbrev pub ups : List Bool → ℕ
ups [] = 0
ups (true ∷ flags) = ups flags
ups (false ∷ flags) = ups flags + 1

-- the event takes this device down, and puts nothing into another
abbrev pub IsFaultOf : ℕ → Event → Type 0
IsFaultOf d (DeviceFailed device) = device ≡ d
IsFaultOf d (Lost device at value) = (device ≡ d) × IsSector value
IsFaultOf d Quiet = ⊥
IsFaultOf d (Wrote device at value) = ⊥
IsFaultOf d (Flushed device) = ⊥

-- each is a sector
pub record AreSectors (disk : List Bytes) : Type 0 where
  pub each : (a : ℕ) → a < length disk → IsSector (slice_index_or disk a [])

-- copies of what the first n slots hold
pub record AreCopies (n : ℕ) (slots : List (Option Disk)) (disks : List Disk) : Type 0 where
  pub each : (d : ℕ) → d < n → contents_of disks d ≡ disk_of (slots_of slots d)
  pub whole : (d : ℕ) → d < n → AreSectors (contents_of disks d)

-- which of the first n slots have no device
pub record AreAbsences (n : ℕ) (slots : List (Option Disk)) (flags : List Bool) : Type 0 where
  pub each : (d : ℕ) → d < n → down_at flags d ≡ is_none (slots_of slots d)

-- each entry is of a call before those of the later entries
abbrev pub IsInOrder : List Entry → Type 0
IsInOrder log = AllPairs (λ (entry later : Entry). entry.call < later.call) log

-- the entries of the calls before this one, of a log in their order
abbrev pub log_before : ℕ → List Entry → List Entry
log_before call [] = []
log_before call (entry ∷ log) = if nat_lt entry.call call then entry ∷ log_before call log else []

-- a run that goes on with the calls of these entries
abbrev pub run_on : History → List Entry → History
run_on h [] = h
run_on h (entry ∷ log) = run_on (After entry.event h) log

-- a write or a flush that was answered, which took a place of the log's room
abbrev pub is_answered : Event → Bool
is_answered Quiet = false
is_answered (Wrote device at value) = true
is_answered (Lost device at value) = false
is_answered (Flushed device) = true
is_answered (DeviceFailed device) = false

-- the room of the log after an event
abbrev pub room_after : Event → ℕ → ℕ
room_after event room = if is_answered event then room - 1 else room

-- what an event puts into a sector as a candidate, where the log has so much room
abbrev pub put_by : Event → (room d a : ℕ) → List Bytes
put_by Quiet room d a = []
put_by (Wrote device at value) room d a = if d == device && a == at then value ∷ [] else []
put_by (Lost device at value) room d a = if d == device && a == at && nat_lt 0 room then value ∷ [] else []
put_by (Flushed device) room d a = []
put_by (DeviceFailed device) room d a = []

-- what the entries put there, in order
abbrev pub put_by_all : List Entry → (room d a : ℕ) → List Bytes
put_by_all [] room d a = []
put_by_all (entry ∷ log) room d a = put_by entry.event room d a ++ put_by_all log (room_after entry.event room) d a

-- a device's sectors after a write to it that was answered
abbrev pub written : Event → ℕ → List Bytes → List Bytes
written Quiet d disk = disk
written (Wrote device at value) d disk = if d == device then slice_set disk at value else disk
written (Lost device at value) d disk = disk
written (Flushed device) d disk = disk
written (DeviceFailed device) d disk = disk

-- the same after all of them
abbrev pub all_written : List Entry → ℕ → List Bytes → List Bytes
all_written [] d disk = disk
all_written (entry ∷ log) d disk = all_written log d (written entry.event d disk)

-- the event is a flush of the device
abbrev pub flushes : Event → ℕ → Bool
flushes Quiet d = false
flushes (Wrote device at value) d = false
flushes (Lost device at value) d = false
flushes (Flushed device) d = d == device
flushes (DeviceFailed device) d = false
