-- For what assembling a set is refused before it writes.
use Rattle.std.specs.Prelude.{◌≡◌, ◌⊎◌, ℕ, ◌≤◌, true, List}
use Rattle.sector_model.specs.declared.refusal.Refusal.{Refusal}
use Rattle.sector_model.specs.declared.refusal.Refusal.TheVariants.{NoSet, TwoLost, Worn}
use Rattle.sector_model.specs.declared.calls.TheConstants.{GREATEST_COUNT}
use Rattle.sector_model.specs.History.{History, is_down}
use Rattle.sector_model.specs.Readable.{readable}
use Rattle.sector_model.specs.Reads.{HasRead}
use Rattle.superblock.specs.declared.table.Table.{Table}
use Rattle.superblock.specs.Cases.{HasNone}
use Rattle.superblock.specs.Counted.{IsChosen}
use Rattle.recovery.specs.declared.survey.Out.TheVariants as out
use Rattle.recovery.specs.Making.{BankView, Outcome, Returned, bank_after}
use Rattle.recovery.specs.Surveying.{IsOutOf}

-- no device failed from the one moment to the other
abbrev pub NoDeviceFailedIn : (old new : History) → Type 0
NoDeviceFailedIn old new = (device : ℕ) → is_down new device ≡ true → is_down old device ≡ true

-- two slots of the set are lost, by the table that reads of a bank choose
pub record HasTwoLost (honest : Type 0) (id : List ℕ) (bank : BankView) : Type 0 where
  pub table : Table
  pub chosen : IsChosen id bank.panel.devices (readable bank.history) table
  pub first : ℕ
  pub second : ℕ
  pub lost : IsOutOf honest bank table (out.Two first second)

-- Assembling was refused for this reason, or because no further call can be counted; and nothing was written.
pub record IsRefusedFor (reason : Refusal) (old : BankView) (outcome : Outcome) : Type 0 where
  pub bank : BankView
  pub refusal : Refusal
  pub is : outcome ≡ Returned bank refusal
  pub why : (refusal ≡ reason) ⊎ ((refusal ≡ Worn) × (GREATEST_COUNT ≤ bank.panel.calls))
  pub reads : HasRead old.history bank.history

-- For what assembling is refused before it writes: that two slots are lost from the start on, if no device fails in it; and that no superblock counts.
pub record RefusesUnwritten (honest : Type 0) (id : List ℕ) (old : BankView) (outcome : Outcome) : Type 0 where
  pub two_lost : honest → HasTwoLost honest id old → NoDeviceFailedIn old.history (bank_after outcome).history → IsRefusedFor TwoLost old outcome
  pub none : honest → ((slot : ℕ) → HasNone id old.panel.devices slot (readable old.history slot)) → IsRefusedFor NoSet old outcome
