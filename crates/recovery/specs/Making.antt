-- What making a set and finding its table promise.
use Rattle.std.specs.Prelude.{◌≡◌, ◌⊎◌, ℕ, ◌+◌, ◌<◌, ◌≤◌, true, false, List, Option, Some, None, Result, Ok, Err}
use Rattle.sector_model.specs.declared.refusal.Refusal.{Refusal}
use Rattle.sector_model.specs.declared.refusal.Refusal.TheVariants.{BadGeometry, NotUsable, Worn}
use Rattle.sector_model.specs.declared.calls.TheConstants.{GREATEST_COUNT}
use Rattle.sector_model.specs.Bank.{IsLater, Panel}
use Rattle.sector_model.specs.History.{Bytes, History, MayHold, MayLeave, Slots, is_down}
use Rattle.sector_model.specs.Readable.{readable}
use Rattle.sector_model.specs.Reads.{HasRead}
use Rattle.layout_map.specs.declared.geometry.Geometry.{Geometry}
use Rattle.superblock.specs.declared.state.State.TheVariants.{InSync}
use Rattle.superblock.specs.declared.table.Table.{Table}
use Rattle.superblock.specs.declared.table.Superblock.{Superblock}
use Rattle.superblock.specs.Tables.{incarnation_at, state_at}
use Rattle.superblock.specs.Cases.{HasNone}
use Rattle.superblock.specs.Counted.{Counts, IsChosen, least_sectors}
use Rattle.superblock.specs.NextTables.{slots_of}
use Rattle.array_io.specs.Believed.ReadWhole.{NoDeviceFailed}
use Rattle.array_io.specs.Believed.Fresh.{zeros_of}
use Rattle.array_io.specs.Believed.Views.{ArrayView, HasItsSlots, RestsOn, view_of}

-- a bank, as a call sees it
pub record BankView : Type 0 where
  pub panel : Panel
  pub history : History

-- a bank, by its parts
abbrev pub bank_view : Panel → History → BankView
bank_view panel history = record { panel = panel; history = history }

-- how a call ends that turns a bank into an array: with the array, or with the bank back and a refusal
pub data Outcome : Type 0 where
  Opened : ArrayView → Outcome
  Returned : BankView → Refusal → Outcome

-- the same, by the parts of the array or the bank
abbrev pub opened : Panel → History → Table → ℕ → Outcome
opened panel history table number = Opened (view_of panel history table number)

abbrev pub given_back : Panel → History → Refusal → Outcome
given_back panel history refusal = Returned (bank_view panel history) refusal

-- the bank as it stands then
abbrev pub bank_after : Outcome → BankView
bank_after (Opened array) = record { panel = array.panel; history = array.history }
bank_after (Returned bank refusal) = bank

-- after the set's slots nothing is pending, and no superblock of the set counts
pub record IsQuietBeyond (id : List ℕ) (slots : ℕ) (bank : BankView) : Type 0 where
  pub one_value : (device at : ℕ) (first second : Bytes) → slots ≤ device → is_down bank.history device ≡ false
      → MayHold bank.history device at first → MayHold bank.history device at second → first ≡ second
  pub nothing : (image : Slots) (slot : ℕ) → MayLeave bank.history image → slots ≤ slot → HasNone id bank.panel.devices slot (image slot)

-- the first table of a set
pub record IsFirstTable (id : List ℕ) (geometry : Geometry) (table : Table) : Type 0 where
  pub of_id : table.id ≡ id
  pub of_geometry : table.geometry ≡ geometry
  pub generation : table.generation ≡ 1
  pub in_sync : (slot : ℕ) → slot < slots_of table → state_at table.states slot ≡ InSync
  pub incarnations : (slot : ℕ) → slot < slots_of table → incarnation_at table.incarnations slot ≡ 1

-- a slot of the set whose device is down or too short
pub record HasUnusable (geometry : Geometry) (panel : Panel) : Type 0 where
  pub slot : ℕ
  pub of_set : slot < geometry.members + 2
  pub unusable : (panel.down slot ≡ true) ⊎ (panel.sectors slot < least_sectors geometry slot)

-- why a set could not be made
abbrev pub IsNoMake : Geometry → Panel → Refusal → Type 0
IsNoMake geometry panel BadGeometry = panel.devices < geometry.members + 2
IsNoMake geometry panel NotUsable = HasUnusable geometry panel
IsNoMake geometry panel Worn = GREATEST_COUNT ≤ panel.calls
IsNoMake geometry panel refusal = ⊥

-- `make(bank, entry, id, geometry)`: at Ok the set is settled on the list of zeros, none lost. 19, 11, 16. A crash within it, and a refusal, leave
-- no promise about a set.
pub record Makes (honest : Type 0) (id : List ℕ) (geometry : Geometry) (old : BankView) (outcome : Outcome) : Type 0 where
  pub later : IsLater old.panel (bank_after outcome).panel
  pub first : (array : ArrayView) → outcome ≡ Opened array → IsFirstTable id geometry array.table
  pub number : (array : ArrayView) → outcome ≡ Opened array → array.number ≡ 0
  pub its_slots : (array : ArrayView) → outcome ≡ Opened array → HasItsSlots array.table array.panel
  pub rests : honest → IsQuietBeyond id (geometry.members + 2) old → (array : ArrayView) → outcome ≡ Opened array → RestsOn array None (zeros_of geometry)
  pub cause : (bank : BankView) (refusal : Refusal) → outcome ≡ Returned bank refusal → IsNoMake geometry bank.panel refusal

-- a superblock counts that carries this table
pub record IsCarried (id : List ℕ) (devices : ℕ) (image : Slots) (table : Table) : Type 0 where
  pub slot : ℕ
  pub place : ℕ
  pub superblock : Superblock
  pub counted : Counts id devices slot (image slot) place superblock
  pub carries : superblock.table ≡ table

-- `chosen_table(bank, id)`: the chosen table, by reads alone. 16.
pub record FindsTable (honest : Type 0) (id : List ℕ) (old new : BankView) (answer : Result (Option Table) Refusal) : Type 0 where
  pub later : IsLater old.panel new.panel
  pub fits : (table : Table) → answer ≡ Ok (Some table) → (table.id ≡ id) × (slots_of table ≤ new.panel.devices)
  pub reads : honest → HasRead old.history new.history
  pub carried : honest → (table : Table) → answer ≡ Ok (Some table) → IsCarried id new.panel.devices (readable old.history) table
  pub chosen : honest → NoDeviceFailed old.panel new.panel → (table : Table) → answer ≡ Ok (Some table)
      → IsChosen id new.panel.devices (readable new.history) table
  pub none : honest → NoDeviceFailed old.panel new.panel → answer ≡ Ok None → (slot : ℕ) → HasNone id new.panel.devices slot (readable new.history slot)
  pub cause : (refusal : Refusal) → answer ≡ Err refusal → (refusal ≡ Worn) × (GREATEST_COUNT ≤ new.panel.calls)
