-- What marking a slot missing promises of a bank and the table that it carries.
use Rattle.std.specs.Prelude.{◌≡◌, ◌≢◌, ◌⊎◌, ℕ, ◌<◌, ◌≤◌, false, None, Result, Ok, Err}
use Rattle.sector_model.specs.declared.calls.TheConstants.{GREATEST_COUNT}
use Rattle.sector_model.specs.declared.refusal.Refusal.TheVariants.{TwoLost, Worn}
use Rattle.sector_model.specs.declared.sector.Stop.{Stop}
use Rattle.sector_model.specs.declared.sector.Stop.TheVariants as stop
use Rattle.sector_model.specs.Bank.{Panel}
use Rattle.sector_model.specs.History.{History}
use Rattle.superblock.specs.declared.state.State.TheVariants.{InSync, Missing}
use Rattle.superblock.specs.declared.table.Table.{Table}
use Rattle.superblock.specs.Tables.{state_at}
use Rattle.superblock.specs.Counted.{least_sectors}
use Rattle.superblock.specs.NextTables.{IsMarked, IsOut, slots_of}
use Rattle.superblock.specs.Publishing.{Publishes}
use Rattle.array_io.specs.Believed.ArrayCalls.{Answer}

-- the set's slots are slots of the bank, and each other slot that the table doesn't call missing is long enough, where it is up
pub record HasOtherSlots (slot : ℕ) (table : Table) (panel : Panel) : Type 0 where
  pub of_bank : slots_of table ≤ panel.devices
  pub fit : (other : ℕ) → other < slots_of table → other ≢ slot → state_at table.states other ≢ Missing → panel.down other ≡ false
      → least_sectors table.geometry other ≤ panel.sectors other

-- another slot than this one is out
pub record IsOutBeside (table : Table) (slot : ℕ) : Type 0 where
  pub other : ℕ
  pub out : IsOut table other
  pub apart : other ≢ slot

-- all other slots of the set are in sync
abbrev pub AreOthersInSync : Table → (slot : ℕ) → Type 0
AreOthersInSync table slot = (other : ℕ) → other < slots_of table → other ≢ slot → state_at table.states other ≡ InSync

-- why a slot is let be: it is missing already, another one is out, or all others are in sync and the table can have no further generation
abbrev pub IsWhyLeft : Table → (slot : ℕ) → Answer → Type 0
IsWhyLeft table slot answer =
    ((state_at table.states slot ≡ Missing) × (answer ≡ Ok tt))
    ⊎ ((state_at table.states slot ≢ Missing) × IsOutBeside table slot × (answer ≡ Err TwoLost))
    ⊎ ((state_at table.states slot ≢ Missing) × (GREATEST_COUNT ≤ table.generation) × AreOthersInSync table slot × (answer ≡ Err Worn))

-- nothing was done
pub record IsLeft (slot : ℕ) (old_panel new_panel : Panel) (old_table new_table : Table) (old new : History) (answer : Answer) : Type 0 where
  pub same_panel : new_panel ≡ old_panel
  pub same_table : new_table ≡ old_table
  pub same_history : new ≡ old
  pub why : IsWhyLeft old_table slot answer

-- what the call answers, by how the publishing ended
abbrev pub answer_of : Result (Unit {0}) Stop → Answer
answer_of (Ok done) = Ok tt
answer_of (Err (stop.Down device)) = Err TwoLost
answer_of (Err stop.Worn) = Err Worn

-- the slot was marked, all others being in sync, and the new table was published
pub record IsMarkedOn (honest : Type 0) (slot : ℕ) (old_panel new_panel : Panel) (old_table new_table : Table) (old new : History) (answer : Answer) : Type 0
  where
    pub counted : state_at old_table.states slot ≢ Missing
    pub others : (other : ℕ) → other < slots_of old_table → other ≢ slot → state_at old_table.states other ≡ InSync
    pub marked : IsMarked old_table slot new_table
    pub result : Result (Unit {0}) Stop
    pub publishes : Publishes honest new_table None old_panel new_panel old new result
    pub answered : answer ≡ answer_of result

-- `mark_slot(bank, table, slot)`: nothing is done, or the slot is marked and the new table published. 15, 16.
abbrev pub MarksOn : (honest : Type 0) (slot : ℕ) (old_panel new_panel : Panel) (old_table new_table : Table) (old new : History) → Answer → Type 0
MarksOn honest slot old_panel new_panel old_table new_table old new answer =
    IsLeft slot old_panel new_panel old_table new_table old new answer ⊎ IsMarkedOn honest slot old_panel new_panel old_table new_table old new answer
