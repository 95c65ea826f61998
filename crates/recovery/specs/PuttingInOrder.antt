-- What putting the superblocks of a set in order promises.
use Rattle.std.specs.Prelude.{◌≡◌, ◌≢◌, ◌⊎◌, ℕ, ◌<◌, ◌≤◌, true, List, Option}
use Rattle.sector_model.specs.History.{Bytes, History, calls_of, cut_at, disk_of, is_down, sector_of}
use Rattle.sector_model.specs.Readable.{NothingPending, readable}
use Rattle.superblock.specs.declared.state.State.TheVariants.{InSync}
use Rattle.superblock.specs.declared.table.Table.{Table}
use Rattle.superblock.specs.Tables.{state_at}
use Rattle.superblock.specs.Cases.{Lost}
use Rattle.superblock.specs.Counted.{IsChosen, IsInFull}
use Rattle.superblock.specs.NextTables.{IsComplete, IsMarked, slots_of}
use Rattle.superblock.specs.Publishing.{StandsAt, place_of}
use Rattle.array_io.specs.Believed.Moments.{HoldsNow}
use Rattle.array_io.specs.Believed.Settled.{IsAllThere}
use Rattle.array_io.specs.Believed.Views.{ArrayView}
use Rattle.recovery.specs.Assembling.{AssemblesTo}
use Rattle.recovery.specs.Making.{BankView, IsCarried, Opened, Outcome}
use Rattle.recovery.specs.Unwritten.{RefusesUnwritten}

-- The superblocks are in order by this table: nothing is pending, and all cases that a crash now may leave hold for X; reads choose the table; what
-- it doesn't call missing is there; and where it is complete, reads of each slot give it.
pub record IsInOrderBy (base table : Table) (devices : ℕ) (lost : Option Lost) (X : List (List Bytes)) (h : History) : Type 0 where
  pub nothing_pending : NothingPending h
  pub holds : HoldsNow base devices lost X h
  pub chosen : IsChosen base.id devices (readable h) table
  pub there : IsAllThere devices table h
  pub carried : IsComplete table → (slot : ℕ) → slot < slots_of table → StandsAt table slot (sector_of (disk_of (readable h slot)) (place_of table))

-- they are in order by the array's table
abbrev pub IsInOrder : (base : Table) (lost : Option Lost) (X : List (List Bytes)) → ArrayView → Type 0
IsInOrder base lost X array = IsInOrderBy base array.table array.panel.devices lost X array.history

-- Since the call began: reads at one of its moments chose a table, which a superblock had carried before. The array has that table, or the one with a
-- slot missing. A slot that the array's table does not call in sync is down now, or was not live and in sync at that moment; and one slot at most was
-- not then.
pub record IsSince (id : List ℕ) (old : BankView) (array : ArrayView) : Type 0 where
  pub t : ℕ
  pub from : calls_of old.history ≤ t
  pub until : t ≤ calls_of array.history
  pub table : Table
  pub chosen : IsChosen id array.panel.devices (readable (cut_at t array.history)) table
  pub carried : IsCarried id array.panel.devices (readable old.history) table
  pub marked : (array.table ≡ table) ⊎ ((slot : ℕ) × (slot < slots_of table) × IsMarked table slot array.table)
  pub out : (slot : ℕ) → slot < slots_of table → state_at array.table.states slot ≢ InSync
      → (is_down array.history slot ≡ true) ⊎ ¬ IsInFull array.panel.devices table slot (readable (cut_at t array.history) slot)
  pub one : (first second : ℕ) → first < slots_of table → second < slots_of table
      → ¬ IsInFull array.panel.devices table first (readable (cut_at t array.history) first)
      → ¬ IsInFull array.panel.devices table second (readable (cut_at t array.history) second) → first ≡ second

-- `put_in_order(bank, id)`: at Ok the superblocks are in order. 17, 15, 16.
pub record PutsInOrder (honest : Type 0) (id : List ℕ) (old : BankView) (outcome : Outcome) : Type 0 where
  pub assembles : AssemblesTo IsInOrder honest id old outcome
  pub since : honest → (array : ArrayView) → outcome ≡ Opened array → IsSince id old array
  pub unwritten : RefusesUnwritten honest id old outcome
