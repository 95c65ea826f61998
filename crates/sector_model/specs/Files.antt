-- What the slots of a bank over files show, and how they stay what the run has led to.
use Rattle.std.specs.Prelude.{◌≡◌, ℕ, ◌+◌, ◌*◌, ◌/◌, ◌-◌, ◌^◌, ◌<◌, ◌≤◌, min, Bool, true, false, List, length, Option, Some, None, is_none, slice_index_or}
use Rattle.sector_model.specs.declared.files.Slot.{Slot}
use Rattle.sector_model.specs.Bank.{Panel, IsTrueTo}
use Rattle.sector_model.specs.DeviceFiles.{Contents}
use Rattle.sector_model.specs.History.{History, Began, Bytes, IsSector, disk_of, sector_of, seen, start_of}
use Rattle.sector_model.specs.Memory.{Disk, AreSectors}
use Rattle.sector_model.specs.Safe.{safe_in}
use Rattle.sector_model.specs.Spans.{IsShownAs}

-- no file is open: the device of the slot is down, or there is none
abbrev pub is_down : {F : Type 0} → Slot F → Bool
is_down slot = is_none slot.file

-- the slot of this number; those after the last have no device
abbrev pub slot_at : {F : Type 0} → List (Slot F) → ℕ → Slot F
slot_at slots d = slice_index_or slots d record { file = None; sectors = 0; is_synced = true }

-- ten devices, as their slots stand after this many calls
abbrev pub panel_of : {F : Type 0} → List (Slot F) → ℕ → Panel
panel_of slots calls = record { devices = 10; sectors = λ d. (slot_at slots d).sectors; down = λ d. is_down (slot_at slots d); calls = calls }

-- the slot as it is opened: nothing is written yet, and where there is no device, there are no sectors
pub record IsOpened {F : Type 0} (slot : Slot F) : Type 0 where
  pub absent : is_down slot ≡ true → slot.sectors ≡ 0
  pub synced : slot.is_synced ≡ true

-- what a file tells, where one is open
abbrev pub told_in : {F : Type 0} → (F → Contents) → Option F → Contents
told_in told None = record { size = 0; byte = λ _. 0; safe = λ _. 0 }
told_in told (Some file) = told file

-- each sector of a device stands at its bytes: sector a at 512 * a to 512 * a + 511
pub record HoldsDisk (byte : ℕ → ℕ) (disk : List Bytes) : Type 0 where
  pub each : (a k : ℕ) → a < length disk → k < 512 → byte (512 * a + k) ≡ slice_index_or (sector_of disk a) k 0

-- A file holds what the run says of its device: reads of it give what the run says that they give, and what it has synced is what the
-- device's last good flush made safe. A slot that is marked as synced has a file of which all bytes are.
pub record IsKept (contents : Contents) (synced : Bool) (h : History) (d : ℕ) : Type 0 where
  pub room : 512 * length (disk_of (start_of h d)) ≤ contents.size
  pub holds : HoldsDisk contents.byte (seen h d)
  pub safe : HoldsDisk contents.safe (safe_in h d)
  pub marked : synced ≡ true → (p : ℕ) → contents.safe p ≡ contents.byte p

-- the slots are those that the run has led to
pub record IsOver {F : Type 0} (told : F → Contents) (slots : List (Slot F)) (calls : ℕ) (h : History) : Type 0 where
  pub shown : IsTrueTo (panel_of slots calls) h
  pub kept : (d : ℕ) → is_down (slot_at slots d) ≡ false → IsKept (told_in told (slot_at slots d).file) (slot_at slots d).is_synced h d

-- a slot that was made over a file, which it shows, or without one
pub record IsMade {F G : Type 0} (told : F → Contents) (told_there : G → Contents) (file : Option F) (slot : Slot G) : Type 0 where
  pub opened : is_down slot ≡ is_none file
  pub shown : IsShownAs (told_in told file) (told_in told_there slot.file)
  pub sectors : is_none file ≡ false → slot.sectors ≡ min ((told_in told file).size / 512) (2 ^ 32 - 1)

-- what is given of the file in a slot, where a run begins
pub record BeginsIn (contents : Contents) (absent : Bool) (h : History) (d : ℕ) : Type 0 where
  pub slot : absent ≡ is_none (start_of h d)
  pub sectors : absent ≡ false → length (disk_of (start_of h d)) ≡ contents.size / 512
  pub holds : HoldsDisk contents.byte (disk_of (start_of h d))
  pub synced : (p : ℕ) → contents.safe p ≡ contents.byte p
  pub whole : (a : ℕ) → a < length (disk_of (start_of h d)) → IsSector (sector_of (disk_of (start_of h d)) a)

abbrev pub file_at : {F : Type 0} → List (Option F) → ℕ → Option F
file_at files d = slice_index_or files d None

-- a run begins with these files: with as many sectors as fit whole into each, all of them synced
pub record BeginsWith {F : Type 0} (told : F → Contents) (files : List (Option F)) (h : History) : Type 0 where
  pub began : h ≡ Began (start_of h)
  pub beyond : (d : ℕ) → 10 ≤ d → start_of h d ≡ None
  pub each : (d : ℕ) → d < 10 → BeginsIn (told_in told (file_at files d)) (is_none (file_at files d)) h d

-- a file that holds the sectors of a disk in memory, all of them synced
pub record IsFileOn (contents : Contents) (disk : List Bytes) : Type 0 where
  pub size : contents.size ≡ 512 * length disk
  pub holds : HoldsDisk contents.byte disk
  pub synced : (p : ℕ) → contents.safe p ≡ contents.byte p
  pub whole : AreSectors disk

-- such a file of a slot, none of an empty one
abbrev pub IsFileOf : {F : Type 0} → (F → Contents) → Option Disk → Option F → Type 0
IsFileOf told None None = Unit {0}
IsFileOf told None (Some file) = ⊥
IsFileOf told (Some disk) None = ⊥
IsFileOf told (Some disk) (Some file) = IsFileOn (told file) disk.items
