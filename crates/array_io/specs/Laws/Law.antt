-- The laws between runs.
use Rattle.std.specs.Prelude.{◌≡◌, ℕ, ◌+◌, ◌<◌, List, None, Option, Contains, Some}
use Rattle.sector_model.specs.History.{Bytes, Slots}
use Rattle.superblock.specs.declared.table.Table.{Table}
use Rattle.superblock.specs.Counted.{IsChosen, IsInFull, IsStale}
use Rattle.superblock.specs.NextTables.{IsNotOlder, slots_of}
use Rattle.superblock.specs.Cases.{Case, HasWholeSectors, with_slot}
use Rattle.stripe_journal.specs.LastEntry.{Entry, IsLastEntry}
use Rattle.degraded.specs.RowValue.{Rows, AreSound, logical_list, value}
use Rattle.array_io.specs.Believed.Holds.{AreRowsOf, Holds, IsLiveJournal, row_count}
use Rattle.array_io.specs.Laws.Core.{Core}
use Rattle.array_io.specs.Laws.Starts.{Starts}
use Rattle.array_io.specs.Believed.DeviceRules.{Replaced, MayBegin}

-- two ways to the rows of a set give the same values and the same logical list
pub record AreAlike (table : Table) (first second : Rows) : Type 0 where
  pub values : (row member : ℕ) → row < row_count table → member < table.geometry.members → value first row member ≡ value second row member
  pub lists : logical_list table.geometry first ≡ logical_list table.geometry second

-- A stale content of a slot counts for no more than none: with either the same table is chosen, the same entry is the last, and each
-- row value and the logical list are the same.
pub record StaleIsAsNone (devices : ℕ) (table : Table) (image : Slots) (slot : ℕ) : Type 0 where
  pub table_stays : IsChosen table.id devices (with_slot image slot None) table
  pub entry_stays : (last : Option Entry)
      → IsLastEntry table.id table.geometry (IsLiveJournal devices table image) image last
      → IsLastEntry table.id table.geometry (IsLiveJournal devices table (with_slot image slot None)) (with_slot image slot None) last
  pub rows_stay : (with_it without : Rows) → AreRowsOf devices table image with_it → AreRowsOf devices table (with_slot image slot None) without
      → AreAlike table with_it without

abbrev pub StaleCountsAsAbsent : Type 0
StaleCountsAsAbsent = (devices : ℕ) (table : Table) (image : Slots) (slot : ℕ) → IsChosen table.id devices image table
    → IsStale devices table slot (image slot) → StaleIsAsNone devices table image slot

-- With all slots live and in sync and sound rows, each one member may go: the row values and the logical list stay.
abbrev pub OneMemberMayGo : Type 0
OneMemberMayGo = (devices : ℕ) (table : Table) (image : Slots) (member : ℕ) (whole without : Rows) → member < table.geometry.members
    → HasWholeSectors image → ((slot : ℕ) → slot < table.geometry.members + 2 → IsInFull devices table slot (image slot))
    → AreRowsOf devices table image whole → AreSound whole (row_count table)
    → AreRowsOf devices table (with_slot image member None) without → AreAlike table whole without

-- the core is enough
abbrev pub HoldsFromCore : Type 0
HoldsFromCore = (base : Table) (devices : ℕ) (table : Table) (case : Case) (X : List (List Bytes)) → IsNotOlder base table → Core devices table case X
    → Holds base devices case X

-- what holds when a run crashes holds when the next begins
abbrev pub ACrashThenAStart : Type 0
ACrashThenAStart = (base : Table) (devices : ℕ) (table : Table) (old new : Case) (X : List (List Bytes))
    → Holds base devices old X → IsChosen base.id devices old.image table → Starts devices table old new
    → Holds base devices new X

-- each device that was replaced is stale under the table
abbrev pub AreReplacedStale : (devices : ℕ) → Table → List Replaced → Type 0
AreReplacedStale devices table replaced = (device : Replaced) → Contains replaced device → IsStale devices table device.slot (Some device.disk)

-- each start that the rules on devices allow is one of those after which what held still holds
abbrev pub AStartIsOneOf : Type 0
AStartIsOneOf = (devices : ℕ) (table : Table) (replaced : List Replaced) (old new : Case) → AreReplacedStale devices table replaced
    → MayBegin table.id devices (slots_of table) replaced old new → Starts devices table old new
