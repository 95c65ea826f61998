-- What reading a logical sector promises of an array that need not be settled, where no device fails in it.
use Rattle.std.specs.Prelude.{◌≡◌, ℕ, ◌<◌, false, List, [], length, slice_index_or}
use Rattle.sector_model.specs.Bank.{Panel}
use Rattle.sector_model.specs.History.{Bytes, History}
use Rattle.sector_model.specs.Readable.{readable}
use Rattle.superblock.specs.declared.table.Table.{Table}
use Rattle.degraded.specs.RowValue.{logical_list, value}
use Rattle.array_io.specs.Believed.Settled.{rows_by}
use Rattle.array_io.specs.Believed.Views.{ArrayView}

-- no device went down between
abbrev pub NoDeviceFailed : (old new : Panel) → Type 0
NoDeviceFailed old new = (slot : ℕ) → slot < old.devices → old.down slot ≡ false → new.down slot ≡ false

-- a member's value in a row that is a whole sector by what reads gave is so by what they give now
abbrev pub ValuesStay : (table new_table : Table) (old new : History) → Type 0
ValuesStay table new_table old new = (row member : ℕ) → member < table.geometry.members → length (value (rows_by table (readable old)) row member) ≡ 512
    → value (rows_by new_table (readable new)) row member ≡ value (rows_by table (readable old)) row member

-- a whole sector was read, by what reads gave, and no other changed
pub record ReadsValue (table new_table : Table) (member row : ℕ) (old new : History) (to : Bytes) : Type 0 where
  pub given : length (value (rows_by table (readable old)) row member) ≡ 512 → to ≡ value (rows_by table (readable old)) row member
  pub stays : ValuesStay table new_table old new

-- the logical list by what reads give
abbrev pub list_read : ArrayView → List Bytes
list_read array = logical_list array.table.geometry (rows_by array.table (readable array.history))

-- the same of the logical sectors
abbrev pub SectorsStay : (old new : ArrayView) → Type 0
SectorsStay old new = (sector : ℕ) → length (slice_index_or (list_read old) sector []) ≡ 512
    → slice_index_or (list_read new) sector [] ≡ slice_index_or (list_read old) sector []

pub record ReadsWhole (sector : ℕ) (old new : ArrayView) (to : Bytes) : Type 0 where
  pub given : length (slice_index_or (list_read old) sector []) ≡ 512 → to ≡ slice_index_or (list_read old) sector []
  pub stays : SectorsStay old new
