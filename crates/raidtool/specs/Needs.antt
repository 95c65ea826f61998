-- What the file of a slot needs before its device is replaced.
use Rattle.std.specs.Prelude.{◌≡◌, ◌≢◌, ◌⊎◌, ◌*◌, ◌<◌, ◌≤◌, ℕ, false, List, Option, Some, None, Result, Ok, Err}
use Rattle.sector_model.specs.declared.refusal.Refusal.{Refusal}
use Rattle.sector_model.specs.Bank.{Panel}
use Rattle.superblock.specs.declared.state.State.TheVariants.{InSync}
use Rattle.superblock.specs.declared.table.Table.{Table}
use Rattle.superblock.specs.Counted.{least_sectors}
use Rattle.superblock.specs.NextTables.{slots_of}
use Rattle.superblock.specs.Tables.{state_at}
use Rattle.recovery.specs.Making.{BankView, FindsTable}

-- the table calls a slot in sync, and its device is up and long enough
pub record IsWhole (table : Table) (panel : Panel) (slot : ℕ) : Type 0 where
  pub in_sync : state_at table.states slot ≡ InSync
  pub up : panel.down slot ≡ false
  pub long_enough : least_sectors table.geometry slot ≤ panel.sectors slot

-- each other slot of the table's set is so
abbrev pub AreOthersWhole : Table → Panel → ℕ → Type 0
AreOthersWhole table panel slot = (other : ℕ) → other < slots_of table → other ≢ slot → IsWhole table panel other

-- The file of a slot is made anew: the slot is one of the set, its file is absent or too short, and each other slot is in sync and
-- its device there.
pub record IsRenewed (table : Table) (panel : Panel) (slot : ℕ) : Type 0 where
  pub of_set : slot < slots_of table
  pub too_short : panel.sectors slot < least_sectors table.geometry slot
  pub others : AreOthersWhole table panel slot

-- so many bytes the file of a slot gets, or it is left as it is
abbrev pub IsNeed : Table → Panel → ℕ → Option ℕ → Type 0
IsNeed table panel slot (Some bytes) = IsRenewed table panel slot × (bytes ≡ 512 * least_sectors table.geometry slot)
IsNeed table panel slot None = ¬ IsRenewed table panel slot

-- the table of a set was found on a bank by reads, and by it the file of a slot has this need
pub record NeedsByTable (honest : Type 0) (id : List ℕ) (slot : ℕ) (old new : BankView) (need : Option ℕ) : Type 0 where
  pub table : Table
  pub found : FindsTable honest id old new (Ok (Some table))
  pub need_is : IsNeed table new.panel slot need

-- what the file of a slot needs by the table that the superblocks of a bank choose: nothing where there is none
abbrev pub FindsNeed : (honest : Type 0) (id : List ℕ) (slot : ℕ) (old new : BankView) → Result (Option ℕ) Refusal → Type 0
FindsNeed honest id slot old new (Ok (Some bytes)) = NeedsByTable honest id slot old new (Some bytes)
FindsNeed honest id slot old new (Ok None) = NeedsByTable honest id slot old new None ⊎ FindsTable honest id old new (Ok None)
FindsNeed honest id slot old new (Err refusal) = FindsTable honest id old new (Err refusal)
