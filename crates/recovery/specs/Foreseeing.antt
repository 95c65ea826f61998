-- What assembling a set does, by what an inspection of it says; and of which bank an inspection says it.
use Rattle.std.specs.Prelude.{◌≡◌, ℕ, ◌<◌, ◌≤◌, ◌==◌, if◌then◌else◌, List, Option, Some, None, Ok}
use Rattle.sector_model.specs.declared.refusal.Refusal.{Refusal}
use Rattle.sector_model.specs.declared.refusal.Refusal.TheVariants.{NoSet, TwoLost, Worn}
use Rattle.sector_model.specs.History.{Bytes}
use Rattle.sector_model.specs.Readable.{readable}
use Rattle.superblock.specs.declared.state.State.{State}
use Rattle.superblock.specs.declared.state.State.TheVariants.{InSync, Missing, Rebuilding}
use Rattle.superblock.specs.declared.table.Table.{Table}
use Rattle.superblock.specs.Cases.{Lost}
use Rattle.superblock.specs.Counted.{IsChosen}
use Rattle.superblock.specs.Losses.{IsSingleFailure}
use Rattle.superblock.specs.NextTables.{slots_of}
use Rattle.superblock.specs.Tables.{state_at}
use Rattle.array_io.specs.Believed.Views.{ArrayView}
use Rattle.recovery.specs.declared.examination.Examined.{Examined}
use Rattle.recovery.specs.declared.examination.Outlook.{Outlook}
use Rattle.recovery.specs.declared.examination.Outlook.TheVariants as outlook
use Rattle.recovery.specs.Assembling.{Assembles, MayAssemble}
use Rattle.recovery.specs.Examining.{AreExaminedSlots, AreLastNumbers, Examines, IsOutlook}
use Rattle.recovery.specs.Making.{BankView, Opened, Outcome, Returned, bank_after}
use Rattle.recovery.specs.Unwritten.{IsRefusedFor, NoDeviceFailedIn, RefusesUnwritten}

-- in which state a slot of the set is then
abbrev pub foreseen_state : Outlook → ℕ → State
foreseen_state (outlook.Missing missing) slot = if slot == missing then Missing else InSync
foreseen_state (outlook.WouldMark missing) slot = if slot == missing then Missing else InSync
foreseen_state (outlook.Rebuilding rebuilding position) slot = if slot == rebuilding then Rebuilding else InSync
foreseen_state other slot = InSync

-- and how many rows of a rebuilding member count
abbrev pub HasPosition : Outlook → ℕ → Type 0
HasPosition (outlook.Rebuilding rebuilding position) found = found ≡ position
HasPosition other found = Unit {0}

-- the array that a set became is as an outlook on its table says
pub record IsForeseen (table : Table) (expected : Outlook) (array : ArrayView) : Type 0 where
  pub states : (slot : ℕ) → slot < slots_of table → state_at array.table.states slot ≡ foreseen_state expected slot
  pub position : HasPosition expected array.table.position

-- Assembling from where all cases hold ended as an outlook says that is not of two lost slots: with one slot lost at most, an array is the one that is
-- foreseen; and it was refused with 16 at most.
pub record EndsAsForeseen (base : Table) (lost : Option Lost) (table : Table) (expected : Outlook) (outcome : Outcome) : Type 0 where
  pub opened : (array : ArrayView) → outcome ≡ Opened array → IsSingleFailure (slots_of base) lost array.history → IsForeseen table expected array
  pub refused : (bank : BankView) (refusal : Refusal) → outcome ≡ Returned bank refusal → refusal ≡ Worn

-- it ended as an outlook says: that two slots are lost is refused before it writes
abbrev pub IsAsForeseen : List ℕ → BankView → Table → Outlook → Outcome → Type 0
IsAsForeseen id old table outlook.TwoLost outcome = IsRefusedFor TwoLost old outcome
IsAsForeseen id old table expected outcome = (base : Table) (lost : Option Lost) (X : List (List Bytes)) → base.id ≡ id → MayAssemble base lost X old
    → EndsAsForeseen base lost table expected outcome

-- Assembling a set on this bank does what an inspection of it says, where it is honest and no device fails.
abbrev pub AssemblesAsForeseen : (honest : Type 0) → BankView → Type 0
AssemblesAsForeseen honest old = (id : List ℕ) (outcome : Outcome) → honest → Assembles honest id old outcome → RefusesUnwritten honest id old outcome
    → (table : Table) → IsChosen id old.panel.devices (readable old.history) table → (expected : Outlook) → IsOutlook honest old table expected
    → NoDeviceFailedIn old.history (bank_after outcome).history → IsAsForeseen id old table expected outcome

-- what an inspection found is so of this bank
pub record IsInspectionOf (honest : Type 0) (id : List ℕ) (bank : BankView) (examined : Examined) : Type 0 where
  pub of_id : examined.table.id ≡ id
  pub has_slots : slots_of examined.table ≤ bank.panel.devices
  pub chosen : IsChosen id bank.panel.devices (readable bank.history) examined.table
  pub slots : AreExaminedSlots honest bank examined.table examined.slots
  pub outlook : IsOutlook honest bank examined.table examined.outlook
  pub last : AreLastNumbers honest bank examined.table examined.last

-- What an inspection found comes true: it is so of this bank, and assembling it does what it says, if no device fails in that; without a set it is refused.
abbrev pub ComesTrue : (honest : Type 0) → List ℕ → BankView → Option Examined → Type 0
ComesTrue honest id bank None = (outcome : Outcome) → RefusesUnwritten honest id bank outcome → IsRefusedFor NoSet bank outcome
ComesTrue honest id bank (Some examined) = IsInspectionOf honest id bank examined
    × ((outcome : Outcome) → Assembles honest id bank outcome → RefusesUnwritten honest id bank outcome
    → NoDeviceFailedIn bank.history (bank_after outcome).history → IsAsForeseen id bank examined.table examined.outlook outcome)

-- What an inspection of an honest bank found comes true of it as the inspection leaves it, where no device failed in the inspection.
abbrev pub Foresees : (honest still : Type 0) → (old new : BankView) → Type 0
Foresees honest still old new = (id : List ℕ) (found : Option Examined) → honest → still → Examines honest id old new (Ok found)
    → NoDeviceFailedIn old.history new.history → ComesTrue still id new found
