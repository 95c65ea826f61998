-- What an image in memory says of a set's rows, as the evaluation has it: the parts of the last entry, and the rows by what was read of it.
use Rattle.std.specs.Prelude.{◌≡◌, ◌↔◌, ℕ, ◌<◌, Bool, false, IsTrue, List, Option, Some, None, length, slice_index_or, ◌+◌, true, ◌&&◌, nat_lt}
use Rattle.sector_model.specs.History.{Slots, disk_of, sector_of}
use Rattle.layout_map.specs.declared.sizes.TheConstants.{MOST_MEMBERS, FIRST_ROW}
use Rattle.superblock.specs.declared.table.Table.{Table}
use Rattle.superblock.specs.Counted.{IsLive}
use Rattle.superblock.specs.declared.state.State.{State}
use Rattle.superblock.specs.declared.state.State.TheVariants.{Missing, InSync, Rebuilding}
use Rattle.superblock.specs.Tables.{state_at}
use Rattle.stripe_journal.specs.declared.seal.Seal.{Seal}
use Rattle.stripe_journal.specs.LastEntry.{Counts, Entry, IsGreatest, IsLastEntry, sector_of_last}
use Rattle.degraded.specs.RowValue.{Rows, row_values, value}
use Rattle.array_io.specs.declared.oracle.last_entry.LastEntry.{LastEntry}
use Rattle.array_io.specs.Believed.Holds.{IsLiveJournal}
use Rattle.array_io.specs.declared.oracle.image_rows.Reading.{Reading}

-- what stands in the slot is live and this is its last seal; none where it is not live, or no seal counts there
abbrev pub IsSealedAt : ℕ → Table → Slots → ℕ → Option Seal → Type 0
IsSealedAt devices table image slot None =
    (place : ℕ) (seal : Seal) → IsLive devices table slot (image slot) → ¬ Counts table.id table.geometry (image slot) place seal
IsSealedAt devices table image slot (Some seal) =
    IsLive devices table slot (image slot) × IsGreatest table.id table.geometry (image slot) seal

-- an entry in memory, as the definitions speak of it
abbrev pub entry_of : Option LastEntry → Option Entry
entry_of None = None
entry_of (Some last) = Some record { journal = last.journal; seal = last.seal }

-- the last entry of all live journals
abbrev pub HasLastEntry : ℕ → Table → Slots → Option LastEntry → Type 0
HasLastEntry devices table image last = IsLastEntry table.id table.geometry (IsLiveJournal devices table image) image (entry_of last)

-- two ways to a row have the same value of each member, and so of the whole row
pub record HaveSameValues (row : ℕ) (first second : Rows) : Type 0 where
  pub values : (member : ℕ) → member < second.members → value first row member ≡ value second row member
  pub whole : row_values first row ≡ row_values second row

-- the flags of the first members say which of them are live
pub record AreLive (devices : ℕ) (table : Table) (image : Slots) (count : ℕ) (flags : List Bool) : Type 0 where
  pub long : length flags ≡ MOST_MEMBERS
  pub each : (member : ℕ) → member < count → IsTrue (slice_index_or flags member false) ↔ IsLive devices table member (image member)

-- a row of a live member counts: all of them, but for one that is rebuilding those below the position
abbrev pub is_rebuilt : State → (row position : ℕ) → Bool
is_rebuilt Missing row position = true
is_rebuilt InSync row position = true
is_rebuilt Rebuilding row position = nat_lt row position

abbrev pub rows_by : Table → Slots → Reading → Rows
rows_by table image reading = record {
  members = table.geometry.members;
  entry = λ row member. sector_of_last table.geometry.members image (entry_of reading.last) row member;
  trusted = λ row member. slice_index_or reading.live member false && is_rebuilt (state_at table.states member) row table.position;
  own = λ row member. sector_of (disk_of (image member)) (FIRST_ROW + row);
}
