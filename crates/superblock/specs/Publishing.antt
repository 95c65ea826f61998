-- How a table is published: its superblocks, on one device after another.
use Rattle.std.specs.Prelude.{◌≡◌, ◌≢◌, ◌⊎◌, ℕ, ◌+◌, ◌%◌, ◌<◌, ◌≤◌, ◌&&◌, ◌==◌, Bool, false, not, List, [], ◌∷◌, ◌++◌, map, filter, Contains, Option, Some}
use Rattle.std.specs.Prelude.{None, Result, Ok, Err, is_ok}
use Rattle.std.specs.List.{range_with_len}
use Rattle.layout_map.specs.declared.sizes.TheConstants.{SUPERBLOCK_PLACES}
use Rattle.sector_model.specs.declared.sector.Stop.{Stop}
use Rattle.sector_model.specs.declared.sector.Stop.TheVariants.{Down}
use Rattle.sector_model.specs.Bank.{IsCauseOf, IsLater, Panel}
use Rattle.sector_model.specs.Calls.{Call, Flush, Made, Write}
use Rattle.sector_model.specs.History.{Bytes, History, MayHold, MayLeave, Slots}
use Rattle.sector_model.specs.Moments.{Throughout}
use Rattle.superblock.specs.declared.state.State.TheVariants.{Missing}
use Rattle.superblock.specs.declared.table.Table.{Table}
use Rattle.superblock.specs.declared.table.Superblock.{Superblock}
use Rattle.superblock.specs.Cases.{Lost}
use Rattle.superblock.specs.Losses.{AllChoose, IsLostAt}
use Rattle.superblock.specs.NextTables.{IsNotOlder, slots_of}
use Rattle.superblock.specs.Spelling.{superblock_sector}
use Rattle.superblock.specs.States.{is_in_sync}
use Rattle.superblock.specs.Tables.{state_at}

-- the superblock of a slot stands in a sector
pub record StandsAt (table : Table) (slot : ℕ) (sector : Bytes) : Type 0 where
  pub superblock : Superblock
  pub carries : superblock.table ≡ table
  pub own_slot : superblock.role ≡ slot
  pub spelled : sector ≡ superblock_sector superblock

-- the sector in which a table's superblocks stand
abbrev pub place_of : Table → ℕ
place_of table = table.generation % SUPERBLOCK_PLACES

abbrev pub is_last : Option ℕ → ℕ → Bool
is_last None slot = false
is_last (Some last) slot = last == slot

-- the slots in sync but the last one, rising
abbrev pub first_slots : Table → Option ℕ → List ℕ
first_slots table last = filter (λ slot. is_in_sync (state_at table.states slot) && not (is_last last slot)) (range_with_len 0 (slots_of table))

-- the last one, if there is one
abbrev pub last_slots : Option ℕ → List ℕ
last_slots None = []
last_slots (Some last) = last ∷ []

-- each of these slots is written, and then each is flushed
abbrev pub written_and_flushed : Table → (ℕ → Bytes) → List ℕ → List Call
written_and_flushed table sectors slots = map (λ slot. Write slot (place_of table) (sectors slot)) slots ++ map (λ slot. Flush slot) slots

-- The calls of publishing a table: its superblocks go to the devices in sync, which are flushed, and only then to the last one, the device
-- that is rebuilding, newly joined or newly complete. A missing device gets nothing.
abbrev pub publish_calls : Table → Option ℕ → (ℕ → Bytes) → List Call
publish_calls table last sectors = written_and_flushed table sectors (first_slots table last) ++ written_and_flushed table sectors (last_slots last)

-- a sector of a device is safe: a crash now leaves this in it
abbrev pub IsSafeAt : History → (device at : ℕ) → Bytes → Type 0
IsSafeAt h device at bytes = (value : Bytes) → MayHold h device at value → value ≡ bytes

-- the images of each case choose the one table, or all of them the other
abbrev pub ChooseEither : ℕ → (first second : Table) → Lost → History → Type 0
ChooseEither devices first second lost h = (after : Option Lost) (image : ℕ → Option (List Bytes)) → IsLostAt (slots_of first) (Some lost) h after
    → MayLeave h image
    → AllChoose devices first (record { image = image; lost = after }) ⊎ AllChoose devices second (record { image = image; lost = after })

-- From what a table is published: an old one, of the generation before, that all images choose; the slot that is lost is the last one,
-- or the new table calls it missing.
pub record MayPublish (devices : ℕ) (before table : Table) (last : Option ℕ) (lost : Lost) (h : History) : Type 0 where
  pub not_older : IsNotOlder before table
  pub generation : table.generation ≡ before.generation + 1
  pub lost_last : (last ≡ Some lost.slot) ⊎ (state_at table.states lost.slot ≡ Missing)
  pub chosen : (after : Option Lost) (image : Slots) → IsLostAt (slots_of before) (Some lost) h after → MayLeave h image
      → AllChoose devices before (record { image = image; lost = after })

-- the device of the last slot doesn't have the table's superblock yet
abbrev pub LacksIt : Table → Option ℕ → (ℕ → Bytes) → History → Type 0
LacksIt table last sectors h = (slot : ℕ) → last ≡ Some slot → ¬ MayHold h slot (place_of table) (sectors slot)

-- where a crash may leave the table's superblock on the last device, it is safe on all others
abbrev pub IsLastToSee : Table → Option ℕ → (ℕ → Bytes) → History → Type 0
IsLastToSee table last sectors h = (slot other : ℕ) → last ≡ Some slot → MayHold h slot (place_of table) (sectors slot)
    → Contains (first_slots table last) other → IsSafeAt h other (place_of table) (sectors other)

-- The conditions of `publish`: the set's slots are slots of the bank, the last one is a slot of the set that the table doesn't call missing, and
-- each device that is up, and that the table doesn't call missing, has both places.
pub record CanPublish (panel : Panel) (table : Table) (last : Option ℕ) : Type 0 where
  pub of_bank : slots_of table ≤ panel.devices
  pub last_in_set : (slot : ℕ) → last ≡ Some slot → slot < slots_of table
  pub last_there : (slot : ℕ) → last ≡ Some slot → state_at table.states slot ≢ Missing
  pub has_places : (slot : ℕ) → slot < slots_of table → state_at table.states slot ≢ Missing → panel.down slot ≡ false → SUPERBLOCK_PLACES ≤ panel.sectors slot

-- What `publish` promises of a table and the slot that comes last.
pub record Publishes (honest : Type 0) (table : Table) (last : Option ℕ) (old_panel new_panel : Panel) (old new : History)
    (result : Result (Unit {0}) Stop) : Type 0 where
  -- the superblock of each slot that the table doesn't call missing
  pub sectors : ℕ → Bytes
  pub spelled : (slot : ℕ) → slot < slots_of table → state_at table.states slot ≢ Missing → StandsAt table slot (sectors slot)
  pub later : IsLater old_panel new_panel
  pub made : honest → Made (publish_calls table last sectors) (is_ok result) old new
  -- an error names one of the devices that are written, which is down, or says that no further call can be counted
  pub cause : (stop : Stop) → result ≡ Err stop → IsCauseOf new_panel stop
  pub named : (device : ℕ) → result ≡ Err (Down device) → Contains (first_slots table last ++ last_slots last) device
  -- at each moment the images of a case choose the old table, or all of them the new one
  pub moments : honest → (devices : ℕ) (before : Table) (lost : Lost) → MayPublish devices before table last lost old
      → Throughout (ChooseEither devices before table lost) old new
  -- at Ok the table is safe on all of them
  pub safe : honest → result ≡ Ok tt → (slot : ℕ) → Contains (first_slots table last ++ last_slots last) slot
      → IsSafeAt new slot (place_of table) (sectors slot)
  -- and, on any bank, the last device is up
  pub up : (slot : ℕ) → result ≡ Ok tt → last ≡ Some slot → new_panel.down slot ≡ false
  -- where an error names the last device, the table is safe on the others
  pub safe_first : honest → (slot : ℕ) → result ≡ Err (Down slot) → last ≡ Some slot → (other : ℕ) → Contains (first_slots table last) other
      → IsSafeAt new other (place_of table) (sectors other)
  -- at each moment the last device sees the table only once it is safe on the others
  pub last_sees : honest → LacksIt table last sectors old → Throughout (IsLastToSee table last sectors) old new
