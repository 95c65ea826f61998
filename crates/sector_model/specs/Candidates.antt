-- Which image a crash is taken to leave, where there is a choice.
use Rattle.std.specs.Prelude.{◌≡◌, ℕ, ◌+◌, ◌-◌, ◌*◌, ◌%◌, ◌<◌, ◌==◌, ◌&&◌, nat_lt, if◌then◌else◌, List, [], ◌∷◌, ◌++◌, length, Option, Some, None}
use Rattle.std.specs.Prelude.{slice_index_or}
use Rattle.sector_model.specs.declared.choice.Choice.{Choice}
use Rattle.sector_model.specs.declared.choice.Choice.TheVariants.{Oldest, Newest, Mixed}
use Rattle.sector_model.specs.declared.event.Event.TheVariants.{Quiet, Wrote, Lost, Flushed, DeviceFailed}
use Rattle.sector_model.specs.History.{History, Began, After, Bytes, Slots, disk_of, sector_of, seen, start_of}

-- how many writes and flushes were answered: each takes a place of the log
abbrev pub logged : History → ℕ
logged (Began start) = 0
logged (After Quiet before) = logged before
logged (After (Wrote device at value) before) = logged before + 1
logged (After (Lost device at value) before) = logged before
logged (After (Flushed device) before) = logged before + 1
logged (After (DeviceFailed device) before) = logged before

-- The candidates of a sector, in order: its safe value, and the values written to it since. The value of a write at which the device
-- went down is one where the log, which began with so much room, had room for it.
abbrev pub candidates : (room : ℕ) → History → (d a : ℕ) → List Bytes
candidates room (Began start) d a = sector_of (disk_of (start d)) a ∷ []
candidates room (After Quiet before) d a = candidates room before d a
candidates room (After (Wrote device at value) before) d a =
    if d == device && a == at then candidates room before d a ++ value ∷ [] else candidates room before d a
candidates room (After (Lost device at value) before) d a =
    if d == device && a == at && nat_lt (logged before) room then candidates room before d a ++ value ∷ [] else candidates room before d a
candidates room (After (Flushed device) before) d a =
    if d == device then sector_of (seen before d) a ∷ [] else candidates room before d a
candidates room (After (DeviceFailed device) before) d a = candidates room before d a

-- which of so many candidates is taken
abbrev pub number_taken : Choice → (d a count : ℕ) → ℕ
number_taken Oldest d a count = 0
number_taken Newest d a count = count - 1
number_taken (Mixed m) d a count = (m + 7 * d + a) % count

-- the value of a sector in the image of a choice
abbrev pub taken : Choice → (room : ℕ) → History → (d a : ℕ) → Bytes
taken choice room h d a = slice_index_or (candidates room h d a) (number_taken choice d a (length (candidates room h d a))) []

-- what the image of a choice has in a slot: a device where the run began with one, with as many sectors, each of them by the choice
abbrev pub IsTaken : Choice → (room : ℕ) → History → (d : ℕ) → (began now : Option (List Bytes)) → Type 0
IsTaken choice room h d None now = now ≡ None
IsTaken choice room h d (Some began) None = ⊥
IsTaken choice room h d (Some began) (Some disk) =
    (length disk ≡ length began) × ((a : ℕ) → a < length began → sector_of disk a ≡ taken choice room h d a)

-- the image of a choice, after a run whose log began with so much room
pub record IsImageOf (choice : Choice) (room : ℕ) (h : History) (image : Slots) : Type 0 where
  pub each : (d : ℕ) → IsTaken choice room h d (start_of h d) (image d)
