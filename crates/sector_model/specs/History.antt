-- What devices did in a run, call by call; what a read gives; what a crash may leave.
use Rattle.std.specs.Prelude.{◌≡◌, ◌≢◌, ◌⊎◌, ℕ, ◌+◌, Bool, true, List, [], length, Option, Some, None, is_none, slice_index_or, slice_set, ◌==◌, nat_lt, ◌||◌}
use Rattle.std.specs.Prelude.{if◌then◌else◌}
use Rattle.sector_model.specs.declared.event.Event.{Event}
use Rattle.sector_model.specs.declared.event.Event.TheVariants.{Quiet, Wrote, Lost, Flushed, DeviceFailed}

-- the bytes of a sector
abbrev pub Bytes : Type 0
Bytes = List ℕ

-- 512 of them
abbrev pub IsSector : Bytes → Type 0
IsSector bytes = length bytes ≡ 512

-- what stands in each slot: no device, or the sectors of one
abbrev pub Slots : Type 0
Slots = ℕ → Option (List Bytes)

-- a run so far: what it began with, and what each device call did, the last first
pub data History : Type 0 where
  Began : Slots → History
  After : Event → History → History

-- the sectors in a slot, none where it has no device
abbrev pub disk_of : Option (List Bytes) → List Bytes
disk_of None = []
disk_of (Some disk) = disk

abbrev pub sector_of : List Bytes → ℕ → Bytes
sector_of disk at = slice_index_or disk at []

-- what the run began with
abbrev pub start_of : History → Slots
start_of (Began start) = start
start_of (After event before) = start_of before

-- the number of device calls that were made
abbrev pub calls_of : History → ℕ
calls_of (Began start) = 0
calls_of (After event before) = calls_of before + 1

-- what reads of a device give
abbrev pub seen : History → ℕ → List Bytes
seen (Began start) d = disk_of (start d)
seen (After Quiet before) d = seen before d
seen (After (Wrote device at value) before) d = if d == device then slice_set (seen before d) at value else seen before d
seen (After (Lost device at value) before) d = seen before d
seen (After (Flushed device) before) d = seen before d
seen (After (DeviceFailed device) before) d = seen before d

-- the device answers no more, or there is none in the slot
abbrev pub is_down : History → ℕ → Bool
is_down (Began start) d = is_none (start d)
is_down (After Quiet before) d = is_down before d
is_down (After (Wrote device at value) before) d = is_down before d
is_down (After (Lost device at value) before) d = d == device || is_down before d
is_down (After (Flushed device) before) d = is_down before d
is_down (After (DeviceFailed device) before) d = d == device || is_down before d

-- the slot has a device with these bytes in a sector
abbrev pub IsAt : Option (List Bytes) → ℕ → Bytes → Type 0
IsAt None a v = ⊥
IsAt (Some disk) a v = v ≡ sector_of disk a

-- A crash now may leave these bytes in a sector of a device: those that were safe at its last good flush, or any written since.
abbrev pub MayHold : History → ℕ → ℕ → Bytes → Type 0
MayHold (Began start) d a v = IsAt (start d) a v
MayHold (After Quiet before) d a v = MayHold before d a v
MayHold (After (Wrote device at value) before) d a v = ((d ≡ device) × (a ≡ at) × (v ≡ value)) ⊎ MayHold before d a v
MayHold (After (Lost device at value) before) d a v = ((d ≡ device) × (a ≡ at) × (v ≡ value)) ⊎ MayHold before d a v
MayHold (After (Flushed device) before) d a v = MayHold before d a v × (d ≡ device → v ≡ sector_of (seen before d) a)
MayHold (After (DeviceFailed device) before) d a v = MayHold before d a v

-- A crash now may leave this in a slot: of a device that is up its sectors, each for itself; of one that is down also absence.
abbrev pub SlotMayHold : History → ℕ → Option (List Bytes) → Type 0
SlotMayHold h d None = is_down h d ≡ true
SlotMayHold h d (Some disk) =
    (start_of h d ≢ None) × (length disk ≡ length (disk_of (start_of h d))) × ((a : ℕ) → MayHold h d a (sector_of disk a))

-- a crash now may leave this in the slots, each for itself
abbrev pub MayLeave : History → Slots → Type 0
MayLeave h slots = (d : ℕ) → SlotMayHold h d (slots d)

-- the run as it was when only its first t calls were made
abbrev pub cut_at : ℕ → History → History
cut_at t (Began start) = Began start
cut_at t (After event before) = if nat_lt t (calls_of before + 1) then cut_at t before else After event before
