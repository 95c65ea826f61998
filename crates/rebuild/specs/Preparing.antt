-- What preparing a device for a missing slot promises.
use Rattle.std.specs.Prelude.{◌≡◌, ◌≢◌, ◌⊎◌, ℕ, ◌<◌, ◌≤◌, false, List, Option, Some, Result, Ok, Err}
use Rattle.sector_model.specs.declared.sector.Stop.{Stop}
use Rattle.sector_model.specs.declared.sector.Stop.TheVariants as stop
use Rattle.sector_model.specs.Bank.{IsCauseOf, IsLater}
use Rattle.sector_model.specs.History.{Bytes, History}
use Rattle.sector_model.specs.Readable.{readable}
use Rattle.superblock.specs.declared.table.Table.{Table}
use Rattle.superblock.specs.Cases.{HasNone, Lost}
use Rattle.superblock.specs.NextTables.{slots_of}
use Rattle.stripe_journal.specs.declared.seal.Seal.{Seal}
use Rattle.stripe_journal.specs.LastEntry.{IsLastSealed}
use Rattle.array_io.specs.Believed.ArrayCalls.{KeepsTheList}
use Rattle.array_io.specs.Believed.Holds.{HaveEqualBodies, IsLiveJournal}
use Rattle.array_io.specs.Believed.Views.{ArrayView, RestsOn}

-- A journal's device has the last entry of each live journal.
pub record HasTheEntry (devices : ℕ) (table : Table) (slot : ℕ) (h : History) : Type 0 where
  pub sealed : (journal : ℕ) (last : Option Seal) → IsLiveJournal devices table (readable h) journal
      → IsLastSealed table.id table.geometry (readable h journal) last → IsLastSealed table.id table.geometry (readable h slot) last
  pub bodies : (journal : ℕ) (seal : Seal) → IsLiveJournal devices table (readable h) journal
      → IsLastSealed table.id table.geometry (readable h journal) (Some seal)
      → HaveEqualBodies table.geometry.members (readable h journal) (readable h slot) seal

-- A slot's device is prepared: no superblock of the set counts on it, and a journal's has the last entry.
pub record IsPrepared (devices : ℕ) (table : Table) (slot : ℕ) (h : History) : Type 0 where
  pub none : HasNone table.id devices slot (readable h slot)
  pub entry : table.geometry.members ≤ slot → HasTheEntry devices table slot h

-- the other journal of the set
pub record IsJournalBeside (table : Table) (slot journal : ℕ) : Type 0 where
  pub beyond_members : table.geometry.members ≤ journal
  pub of_set : journal < slots_of table
  pub apart : journal ≢ slot

-- another device than the slot's ended it, or the count of calls
abbrev pub EndsBeside : (slot : ℕ) → Result (Unit {0}) Stop → Type 0
EndsBeside slot (Ok done) = ⊥
EndsBeside slot (Err (stop.Down device)) = device ≢ slot
EndsBeside slot (Err stop.Worn) = Unit {0}

-- `prepare(bank, table, slot)` of a slot that the table calls missing: the list stays at each moment, and the array settled where no other
-- device went down; at Ok the device is up and prepared.
pub record Prepares (honest : Type 0) (slot : ℕ) (old new : ArrayView) (result : Result (Unit {0}) Stop) : Type 0 where
  pub later : IsLater old.panel new.panel
  pub same_table : new.table ≡ old.table
  pub number : new.number ≡ old.number
  pub cause : (stop : Stop) → result ≡ Err stop → IsCauseOf new.panel stop
  pub named : (device : ℕ) → result ≡ Err (stop.Down device) → (device ≡ slot) ⊎ IsJournalBeside old.table slot device
  pub up : result ≡ Ok tt → new.panel.down slot ≡ false
  pub others : honest → ¬ EndsBeside slot result → (other : ℕ) → other ≢ slot → new.panel.down other ≡ old.panel.down other
  pub keeps : KeepsTheList honest old new (EndsBeside slot result)
  pub prepared : honest → result ≡ Ok tt → (lost : Option Lost) (V : List Bytes) → RestsOn old lost V
      → IsPrepared new.panel.devices new.table slot new.history
