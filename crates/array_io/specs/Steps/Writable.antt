-- An array whose calls may read and write it.
use Rattle.std.specs.Prelude.{◌≡◌, ℕ, List, [], ◌∷◌, Option, Some}
use Rattle.sector_model.specs.History.{Bytes, History}
use Rattle.sector_model.specs.Readable.{readable}
use Rattle.superblock.specs.declared.table.Table.{Table}
use Rattle.superblock.specs.Cases.{Lost}
use Rattle.superblock.specs.Losses.{IsSingleFailure}
use Rattle.superblock.specs.NextTables.{IsOut, slots_of}
use Rattle.array_io.specs.Steps.EntryAtRest.{HasEntryAtRest}
use Rattle.array_io.specs.Steps.Writing.{WritesFrom}

-- What a call of an array keeps between its steps, while the list stays V: every case holds for V, nothing is pending, and the last entry, whose number this
-- is, says
-- what the members hold; one slot is lost at most, which the table lacks. `base` is the table at the call's start, and `lost` what was lost then.
pub record IsWritable (devices number : ℕ) (base table : Table) (lost : Option Lost) (V : List Bytes) (h : History) : Type 0 where
  pub from : WritesFrom devices base table lost (V ∷ []) h
  pub entry : HasEntryAtRest devices table number (readable h)
  pub single_failure : IsSingleFailure (slots_of base) lost h
  pub lost_out : (one : Lost) → lost ≡ Some one → IsOut table one.slot
