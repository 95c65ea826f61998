-- What assembling a set promises.
use Rattle.std.specs.Prelude.{◌≡◌, ◌≢◌, ◌⊎◌, ℕ, ◌<◌, ◌≤◌, true, false, List, Contains, Option, Result, Ok, Err}
use Rattle.sector_model.specs.declared.refusal.Refusal.{Refusal}
use Rattle.sector_model.specs.declared.refusal.Refusal.TheVariants.{NoSet, TwoLost, Worn}
use Rattle.sector_model.specs.declared.calls.TheConstants.{GREATEST_COUNT}
use Rattle.sector_model.specs.Bank.{IsLater, Panel}
use Rattle.sector_model.specs.History.{Bytes, History, Slots, calls_of, cut_at, is_down}
use Rattle.sector_model.specs.Readable.{NothingPending, readable}
use Rattle.sector_model.specs.Reads.{HasRead}
use Rattle.superblock.specs.declared.state.State.TheVariants.{Missing}
use Rattle.superblock.specs.declared.table.Table.{Table}
use Rattle.superblock.specs.Tables.{state_at}
use Rattle.superblock.specs.Cases.{HasNone, Lost}
use Rattle.superblock.specs.Counted.{IsChosen, IsInFull, IsLive}
use Rattle.superblock.specs.Losses.{IsSingleFailure}
use Rattle.superblock.specs.NextTables.{IsNotOlder, slots_of}
use Rattle.superblock.specs.States.{position_in}
use Rattle.array_io.specs.Believed.Moments.{HoldsNow, HoldsThroughout}
use Rattle.array_io.specs.Believed.Views.{ArrayView, HasItsSlots, RestsAfter}
use Rattle.recovery.specs.Making.{BankView, IsCarried, Opened, Outcome, Returned, bank_after, given_back, opened}

-- From what a set is assembled: nothing is pending, and all cases that a crash now may leave hold for X, with this lost before.
pub record MayAssemble (base : Table) (lost : Option Lost) (X : List (List Bytes)) (bank : BankView) : Type 0 where
  pub nothing_pending : NothingPending bank.history
  pub holds : HoldsNow base bank.panel.devices lost X bank.history

-- the array that assembling gives: settled on one list of X, with the slot lost that its table lacks
pub record OpensOnOne (base : Table) (lost : Option Lost) (X : List (List Bytes)) (array : ArrayView) : Type 0 where
  pub logical : List Bytes
  pub among : Contains X logical
  pub not_older : IsNotOlder base array.table
  pub rests : RestsAfter lost array logical

-- The states, incarnations and position are those of the table that was chosen, but that a slot is missing which was not live or whose device is
-- down, and that the position is 0 where no member is then rebuilding.
pub record HasStatesOf (table : Table) (old : BankView) (array : ArrayView) : Type 0 where
  pub incarnations : array.table.incarnations ≡ table.incarnations
  pub live_stays : (slot : ℕ) → slot < slots_of table → IsLive old.panel.devices table slot (readable old.history slot) → is_down array.history slot ≡ false
      → state_at array.table.states slot ≡ state_at table.states slot
  pub not_live : (slot : ℕ) → slot < slots_of table → ¬ IsLive old.panel.devices table slot (readable old.history slot)
      → state_at array.table.states slot ≡ Missing
  pub failure : (slot : ℕ) → slot < slots_of table → is_down array.history slot ≡ true → state_at array.table.states slot ≡ Missing
  pub position : array.table.position ≡ position_in array.table.states table.position

-- Two slots are lost, by a table that was chosen at some moment of the call: each is down at the return, or was not live and in sync at that moment.
-- Where both were not at that moment, nothing was written.
pub record IsTwoLostThen (id : List ℕ) (devices : ℕ) (old new : History) : Type 0 where
  pub t : ℕ
  pub from : calls_of old ≤ t
  pub until : t ≤ calls_of new
  pub table : Table
  pub chosen : IsChosen id devices (readable (cut_at t new)) table
  pub first : ℕ
  pub second : ℕ
  pub apart : first ≢ second
  pub first_of_set : first < slots_of table
  pub second_of_set : second < slots_of table
  pub first_out : (is_down new first ≡ true) ⊎ ¬ IsInFull devices table first (readable (cut_at t new) first)
  pub second_out : (is_down new second ≡ true) ⊎ ¬ IsInFull devices table second (readable (cut_at t new) second)
  pub unwritten : ¬ IsInFull devices table first (readable (cut_at t new) first) → ¬ IsInFull devices table second (readable (cut_at t new) second)
      → HasRead old new

-- a superblock counts that carries a table of generation 2^62
pub record IsWornThen (id : List ℕ) (devices : ℕ) (image : Slots) : Type 0 where
  pub table : Table
  pub carried : IsCarried id devices image table
  pub generation : GREATEST_COUNT ≤ table.generation

-- why assembling was refused
abbrev pub IsNoAssembly : List ℕ → (old bank : BankView) → Refusal → Type 0
IsNoAssembly id old bank NoSet = ((slot : ℕ) → HasNone id bank.panel.devices slot (readable bank.history slot)) × HasRead old.history bank.history
IsNoAssembly id old bank TwoLost = IsTwoLostThen id bank.panel.devices old.history bank.history
IsNoAssembly id old bank Worn = (GREATEST_COUNT ≤ bank.panel.calls) ⊎ IsWornThen id bank.panel.devices (readable old.history)
IsNoAssembly id old bank refusal = ⊥

-- on any bank assembling is refused with no others
abbrev pub IsOfAssembly : Refusal → Type 0
IsOfAssembly NoSet = Unit {0}
IsOfAssembly TwoLost = Unit {0}
IsOfAssembly Worn = Unit {0}
IsOfAssembly refusal = ⊥

-- Assembling a set. 17, 15, 16. `Reaches` says what the array is at Ok.
pub record AssemblesTo (Reaches : (base : Table) (lost : Option Lost) (X : List (List Bytes)) → ArrayView → Type 0) (honest : Type 0) (id : List ℕ)
    (old : BankView) (outcome : Outcome) : Type 0 where
  pub later : IsLater old.panel (bank_after outcome).panel
  pub of_id : (array : ArrayView) → outcome ≡ Opened array → array.table.id ≡ id
  pub its_slots : (array : ArrayView) → outcome ≡ Opened array → HasItsSlots array.table array.panel
  -- at each moment all cases hold for the same lists
  pub moments : honest → (base : Table) (lost : Option Lost) (X : List (List Bytes)) → base.id ≡ id → MayAssemble base lost X old
      → HoldsThroughout base old.panel.devices lost X old.history (bank_after outcome).history
  -- at Ok, with one slot lost at most, this is reached
  pub rests : honest → (base : Table) (lost : Option Lost) (X : List (List Bytes)) → base.id ≡ id → MayAssemble base lost X old
      → (array : ArrayView) → outcome ≡ Opened array → IsSingleFailure (slots_of base) lost array.history → Reaches base lost X array
  pub states : honest → (base : Table) (lost : Option Lost) (X : List (List Bytes)) → base.id ≡ id → MayAssemble base lost X old
      → (array : ArrayView) → outcome ≡ Opened array → IsSingleFailure (slots_of base) lost array.history
      → (table : Table) → IsChosen id old.panel.devices (readable old.history) table → HasStatesOf table old array
  pub refused : (bank : BankView) (refusal : Refusal) → outcome ≡ Returned bank refusal → IsOfAssembly refusal
  pub cause : honest → (bank : BankView) (refusal : Refusal) → outcome ≡ Returned bank refusal → IsNoAssembly id old bank refusal
  -- where no superblock counts in what reads give at the return, there is no array
  pub no_set : honest → ((slot : ℕ) → HasNone id old.panel.devices slot (readable (bank_after outcome).history slot)) → (array : ArrayView)
      → ¬ (outcome ≡ Opened array)

-- `assemble(bank, entry, id)`: the array is settled on one of the lists
abbrev pub Assembles : (honest : Type 0) (id : List ℕ) (old : BankView) (outcome : Outcome) → Type 0
Assembles honest id old outcome = AssemblesTo OpensOnOne honest id old outcome

-- how a call ends that finds out which table the set has, before its entry is looked at
abbrev pub outcome_of : Panel → History → Result Table Refusal → Outcome
outcome_of panel history (Ok table) = opened panel history table 0
outcome_of panel history (Err refusal) = given_back panel history refusal

-- how a call ends that finds out which table the set's array has, and its last entry's number
abbrev pub open_outcome_of : Panel → History → Result (Table × ℕ) Refusal → Outcome
open_outcome_of panel history (Ok (table, number)) = opened panel history table number
open_outcome_of panel history (Err refusal) = given_back panel history refusal
