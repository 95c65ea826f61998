-- An open array is settled on a logical list.
use Rattle.std.specs.Prelude.{◌≡◌, ◌≢◌, ℕ, ◌+◌, ◌<◌, IfSome, IsSome, Bool, true, false, nat_lt, List, [], ◌∷◌, Option, Some, None}
use Rattle.sector_model.specs.History.{Bytes, History, MayLeave, Slots, disk_of, sector_of}
use Rattle.sector_model.specs.Readable.{NothingPending, readable}
use Rattle.layout_map.specs.declared.sizes.TheConstants.{FIRST_ROW}
use Rattle.superblock.specs.declared.state.State.{State}
use Rattle.superblock.specs.declared.state.State.TheVariants.{InSync, Missing, Rebuilding}
use Rattle.superblock.specs.declared.table.Table.{Table}
use Rattle.superblock.specs.Tables.{state_at}
use Rattle.superblock.specs.Cases.{Lost}
use Rattle.superblock.specs.Counted.{IsChosen, IsLive}
use Rattle.superblock.specs.Losses.{InEachImage}
use Rattle.superblock.specs.NextTables.{IsComplete, IsOut, slots_of}
use Rattle.stripe_journal.specs.declared.seal.Seal.{Seal}
use Rattle.stripe_journal.specs.LastEntry.{IsLastSealed, number_of}
use Rattle.degraded.specs.RowValue.{Rows, AreSound, logical_list}
use Rattle.array_io.specs.Believed.Holds.{AllStale, Holds, IsLiveJournal, row_count}

-- an open array trusts a member's own sector in a row by the table alone: all of a member in sync, of one that is rebuilding the rows
-- below the position
abbrev pub trusts : State → (row position : ℕ) → Bool
trusts Missing row position = false
trusts InSync row position = true
trusts Rebuilding row position = nat_lt row position

-- the rows as an open array reads them: the members' own sectors, and no entry
abbrev pub rows_by : Table → Slots → Rows
rows_by table image = record {
  members = table.geometry.members;
  entry = λ row member. None;
  trusted = λ row member. trusts (state_at table.states member) row table.position;
  own = λ row member. sector_of (disk_of (image member)) (FIRST_ROW + row);
}

-- the last entry of each live journal of an image has this number
abbrev pub HaveNumber : ℕ → Table → ℕ → Slots → Type 0
HaveNumber devices table number image = (journal : ℕ) (last : Option Seal) → IsLiveJournal devices table image journal
    → IsLastSealed table.id table.geometry (image journal) last → number_of last ≡ number

-- No device that is away is live: the table calls the lost slot missing, or all that is away is stale.
abbrev pub NoneComesBack : ℕ → Table → Option Lost → Type 0
NoneComesBack devices table None = Unit {0}
NoneComesBack devices table (Some lost) = state_at table.states lost.slot ≢ Missing → AllStale devices table lost.slot lost.away

-- a slot is lost where and only where one is not in sync, and it is that one
pub record IsLostSlot (table : Table) (lost : Option Lost) : Type 0 where
  pub none : IsComplete table → lost ≡ None
  pub out : (slot : ℕ) → IsOut table slot → IfSome lost (λ one. one.slot ≡ slot) × IsSome lost

-- what the table doesn't call missing is there: each such slot is live in what reads give
abbrev pub IsAllThere : ℕ → Table → History → Type 0
IsAllThere devices table h = (slot : ℕ) → slot < slots_of table → state_at table.states slot ≢ Missing → IsLive devices table slot (readable h slot)

-- The array of this table, whose last entry has this number (0 for none), is settled on V: nothing is pending; every case that a
-- crash now may leave holds for V alone; what the table counts on is there; what reads give says V also without the last entry, in
-- sound rows; every weakened image chooses the array's table, and its live journals have the array's number; no device that is away is
-- live; and the lost slot is the one that is not in sync, none where all are.
pub record IsSettled (devices : ℕ) (table : Table) (number : ℕ) (h : History) (lost : Option Lost) (V : List Bytes) : Type 0 where
  pub nothing_pending : NothingPending h
  pub holds : (image : Slots) → MayLeave h image → Holds table devices record { image = image; lost = lost } (V ∷ [])
  pub there : IsAllThere devices table h
  pub listed : logical_list table.geometry (rows_by table (readable h)) ≡ V
  pub sound : AreSound (rows_by table (readable h)) (row_count table)
  pub chosen : InEachImage devices table h lost (λ image. IsChosen table.id devices image table)
  pub numbered : InEachImage devices table h lost (HaveNumber devices table number)
  pub none_back : NoneComesBack devices table lost
  pub lost_slot : IsLostSlot table lost
