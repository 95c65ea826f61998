-- What bringing up stale superblocks promises.
use Rattle.std.specs.Prelude.{◌≡◌, ◌≢◌, ℕ, ◌<◌, false, Result, Ok, Err}
use Rattle.sector_model.specs.declared.sector.Stop.{Stop}
use Rattle.sector_model.specs.declared.sector.Stop.TheVariants.{Down, Worn}
use Rattle.sector_model.specs.Bank.{IsCauseOf, IsLater, Panel}
use Rattle.sector_model.specs.History.{Bytes, History, is_down, sector_of, seen}
use Rattle.sector_model.specs.Moments.{Throughout}
use Rattle.sector_model.specs.Readable.{NothingPending}
use Rattle.sector_model.specs.Reads.{HasRead}
use Rattle.superblock.specs.declared.state.State.{State}
use Rattle.superblock.specs.declared.state.State.TheVariants.{Missing}
use Rattle.superblock.specs.declared.table.Table.{Table}
use Rattle.superblock.specs.NextTables.{slots_of}
use Rattle.superblock.specs.Publishing.{IsSafeAt, StandsAt, place_of}
use Rattle.superblock.specs.Tables.{state_at}
use Rattle.array_io.specs.Steps.Bringing.{CountsOn, IsBringing}

-- a slot of the set in this state
abbrev pub HasState : Table → State → ℕ → Type 0
HasState table state slot = (slot < slots_of table) × (state_at table.states slot ≡ state)

-- the superblock of each slot that the table doesn't call missing
abbrev pub AreSpelled : Table → (ℕ → Bytes) → Type 0
AreSpelled table sectors = (slot : ℕ) → slot < slots_of table → state_at table.states slot ≢ Missing → StandsAt table slot (sectors slot)

-- none of these slots is stale: where its device is up, its place reads the table's superblock
abbrev pub NoSuperblockIsStale : (slots : ℕ → Type 0) → Table → (ℕ → Bytes) → History → Type 0
NoSuperblockIsStale slots table sectors h = (slot : ℕ) → slots slot → is_down h slot ≡ false → sector_of (seen h slot) (place_of table) ≡ sectors slot

-- What is promised where the superblocks of these slots are brought up.
pub record BringsUpSlots (honest : Type 0) (slots : ℕ → Type 0) (table : Table) (sectors : ℕ → Bytes) (old_panel new_panel : Panel) (old new : History)
    (result : Result (Unit {0}) Stop) : Type 0 where
  pub later : IsLater old_panel new_panel
  -- an error names one of the slots, whose device is down, or says that no further call can be counted
  pub cause : (stop : Stop) → result ≡ Err stop → IsCauseOf new_panel stop
  pub named : (device : ℕ) → result ≡ Err (Down device) → slots device
  -- nothing else is written
  pub moments : honest → Throughout (IsBringing table sectors old) old new
  -- from nothing pending: nothing is pending, unless no further call could be counted
  pub rests : honest → NothingPending old → result ≢ Err Worn → NothingPending new
  -- at Ok no device failed, and from nothing pending each superblock is safe
  pub none_failed : honest → result ≡ Ok tt → (device : ℕ) → is_down new device ≡ is_down old device
  pub safe : honest → NothingPending old → result ≡ Ok tt → (slot : ℕ) → slots slot → (is_down new slot ≡ false)
      × IsSafeAt new slot (place_of table) (sectors slot)
  -- where none is stale nothing is written
  pub quiet : honest → NoSuperblockIsStale slots table sectors old → HasRead old new

-- What `bring_up` promises of a table.
pub record BringsUp (honest : Type 0) (table : Table) (old_panel new_panel : Panel) (old new : History) (result : Result (Unit {0}) Stop) : Type 0 where
  pub sectors : ℕ → Bytes
  pub spelled : AreSpelled table sectors
  pub brings : BringsUpSlots honest (CountsOn table) table sectors old_panel new_panel old new result
