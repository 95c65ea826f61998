-- An open array as its calls see it, and what every call of it keeps.
use Rattle.std.specs.Prelude.{◌≡◌, ◌≢◌, ◌⊎◌, ℕ, ◌+◌, ◌<◌, ◌≤◌, true, false, List, Option, Result, Err, Ok}
use Rattle.sector_model.specs.declared.calls.TheConstants.{GREATEST_COUNT}
use Rattle.sector_model.specs.declared.refusal.Refusal.{Refusal}
use Rattle.sector_model.specs.declared.refusal.Refusal.TheVariants.{TwoLost, Worn}
use Rattle.sector_model.specs.Bank.{IsLater, Panel}
use Rattle.sector_model.specs.History.{Bytes, History}
use Rattle.superblock.specs.declared.state.State.TheVariants.{InSync, Missing}
use Rattle.superblock.specs.declared.table.Table.{Table}
use Rattle.superblock.specs.Tables.{state_at}
use Rattle.superblock.specs.Cases.{IsLostAfter, Lost}
use Rattle.superblock.specs.Counted.{least_sectors}
use Rattle.superblock.specs.NextTables.{IsMarked, IsNotOlder, slots_of}
use Rattle.array_io.specs.Believed.Settled.{IsSettled}

-- an open array: what its bank shows, the run so far, the table in memory, and the last entry's number (0 for none)
pub record ArrayView : Type 0 where
  pub panel : Panel
  pub history : History
  pub table : Table
  pub number : ℕ

-- an array, by its parts
abbrev pub view_of : Panel → History → Table → ℕ → ArrayView
view_of panel history table number = record { panel = panel; history = history; table = table; number = number }

-- the array is settled on V
abbrev pub RestsOn : ArrayView → Option Lost → List Bytes → Type 0
RestsOn array lost V = IsSettled array.panel.devices array.table array.number array.history lost V

-- after a call the array is settled on V, with the slot lost that the table then lacks
pub record RestsAfter (before : Option Lost) (array : ArrayView) (V : List Bytes) : Type 0 where
  pub lost : Option Lost
  pub is_lost : IsLostAfter before array.table lost
  pub rests : RestsOn array lost V

-- On any bank: the set's slots are slots of the bank, and each slot that the table doesn't call missing is long enough, where it is up.
pub record HasItsSlots (table : Table) (panel : Panel) : Type 0 where
  pub of_bank : slots_of table ≤ panel.devices
  pub fit : (slot : ℕ) → slot < slots_of table → state_at table.states slot ≢ Missing → panel.down slot ≡ false
      → least_sectors table.geometry slot ≤ panel.sectors slot

-- what every call of an open array keeps, on any bank and whatever it answers
pub record GoesOn (old new : ArrayView) : Type 0 where
  pub later : IsLater old.panel new.panel
  pub not_older : IsNotOlder old.table new.table
  pub number : old.number ≤ new.number
  pub its_slots : HasItsSlots old.table old.panel → HasItsSlots new.table new.panel

-- the device of a slot answered a fault since
pub record DeviceFailed (slot : ℕ) (old new : Panel) : Type 0 where
  pub was_up : old.down slot ≡ false
  pub is_down : new.down slot ≡ true

-- A slot keeps its state, or it is missing because its device is down.
pub record KeepsItsState (old new : ArrayView) (slot : ℕ) : Type 0 where
  pub state : (state_at new.table.states slot ≡ state_at old.table.states slot)
      ⊎ ((new.panel.down slot ≡ true) × (state_at new.table.states slot ≡ Missing))

-- one slot, whose device is down, was marked missing
pub record HasLostOne (old new : ArrayView) : Type 0 where
  pub slot : ℕ
  pub of_set : slot < slots_of old.table
  pub counted : state_at old.table.states slot ≢ Missing
  pub is_down : new.panel.down slot ≡ true
  pub marked : IsMarked old.table slot new.table

-- The table is as before, but that one slot may be missing because its device is down; what failed, on an honest bank, in a call that did not end the array is
-- missing.
pub record StaysButForFailures (honest : Type 0) (old new : ArrayView) (ended : Type 0) : Type 0 where
  pub table : (new.table ≡ old.table) ⊎ HasLostOne old new
  pub failure : honest → ¬ ended → (slot : ℕ) → slot < slots_of old.table → DeviceFailed slot old.panel new.panel → state_at new.table.states slot ≡ Missing

-- a slot is out: its device is down, or the table does not call it in sync
abbrev pub IsSlotOut : ArrayView → ℕ → Type 0
IsSlotOut array slot = (array.panel.down slot ≡ true) ⊎ (state_at array.table.states slot ≢ InSync)

-- two slots of the set are out, by the table that the array has; this is known of any bank
pub record IsTwoLost (array : ArrayView) : Type 0 where
  pub first : ℕ
  pub second : ℕ
  pub apart : first ≢ second
  pub first_of_set : first < slots_of array.table
  pub second_of_set : second < slots_of array.table
  pub first_out : IsSlotOut array first
  pub second_out : IsSlotOut array second

-- No further call can be counted, or the table can have no further generation. A call raises it by two at most.
abbrev pub IsWorn : (old new : ArrayView) → Type 0
IsWorn old new = (GREATEST_COUNT ≤ new.panel.calls) ⊎ ((GREATEST_COUNT ≤ old.table.generation + 1) × (GREATEST_COUNT ≤ new.table.generation))

-- why a call of an open array ended with 15 or 16; `counter` says of another counter that it would raise that it stands at 2^62
abbrev pub IsEndOf : (old new : ArrayView) → (counter : Type 0) → Refusal → Type 0
IsEndOf old new counter TwoLost = IsTwoLost new
IsEndOf old new counter Worn = IsWorn old new ⊎ counter
IsEndOf old new counter refusal = ⊥

-- the refusal ends the array's or the store's life: 15 or 16
abbrev pub EndsIt : Refusal → Type 0
EndsIt TwoLost = Unit {0}
EndsIt Worn = Unit {0}
EndsIt refusal = ⊥

-- the call was refused with 15 or 16
abbrev pub HasEnded : {A : Type 0} → Result A Refusal → Type 0
HasEnded (Ok value) = ⊥
HasEnded (Err refusal) = EndsIt refusal
