-- What writing rows of the rebuilding member promises.
use Rattle.std.specs.Prelude.{◌≡◌, ℕ, ◌+◌, ◌<◌, ◌≤◌, Bool, true, false, List, Option, Result, Ok, Err}
use Rattle.sector_model.specs.declared.refusal.Refusal.{Refusal}
use Rattle.sector_model.specs.History.{Bytes, History, sector_of, seen}
use Rattle.sector_model.specs.Readable.{readable}
use Rattle.layout_map.specs.declared.sizes.TheConstants.{FIRST_ROW}
use Rattle.superblock.specs.declared.table.Table.{Table}
use Rattle.superblock.specs.Cases.{Lost}
use Rattle.superblock.specs.NextTables.{IsMarked}
use Rattle.degraded.specs.RowValue.{value}
use Rattle.array_io.specs.Believed.ArrayCalls.{KeepsTheList}
use Rattle.array_io.specs.Believed.Settled.{rows_by}
use Rattle.array_io.specs.Believed.Views.{ArrayView, GoesOn, HasEnded, IsEndOf, RestsOn, StaysButForFailures}

-- the member's own sectors in these rows are its values by the other members
pub record HasRowsOf (table : Table) (member from end : ℕ) (h : History) : Type 0 where
  pub own : (row : ℕ) → from ≤ row → row < end → sector_of (seen h member) (FIRST_ROW + row) ≡ value (rows_by table (readable h)) row member

-- `write_rows(bank, table, member, from, end)` of rows at or after the rebuilding member's position: the list stays at each moment; at Ok `true`
-- the rows are safe on the member; at `false` its device is down, and its slot missing.
pub record WritesRows (honest : Type 0) (member from end : ℕ) (old new : ArrayView) (result : Result Bool Refusal) : Type 0 where
  pub goes_on : GoesOn old new
  pub number : new.number ≡ old.number
  pub stays : StaysButForFailures honest old new (HasEnded result)
  pub written : result ≡ Ok true → (new.table ≡ old.table) × (new.panel.down member ≡ false)
  pub failed : result ≡ Ok false → IsMarked old.table member new.table × (new.panel.down member ≡ true)
  pub keeps : KeepsTheList honest old new (HasEnded result)
  pub rows : honest → result ≡ Ok true → (lost : Option Lost) (V : List Bytes) → RestsOn old lost V
      → HasRowsOf old.table member from end new.history
  pub cause : (refusal : Refusal) → result ≡ Err refusal → IsEndOf old new ⊥ refusal
