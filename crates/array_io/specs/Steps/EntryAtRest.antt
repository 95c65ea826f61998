-- Images whose last entry says what the members hold.
use Rattle.std.specs.Prelude.{◌≡◌, ℕ, ◌<◌, Option, Some}
use Rattle.sector_model.specs.History.{Bytes, Slots}
use Rattle.superblock.specs.declared.table.Table.{Table}
use Rattle.stripe_journal.specs.declared.seal.Seal.{Seal}
use Rattle.stripe_journal.specs.LastEntry.{IsLastSealed, number_of, sector_in}
use Rattle.degraded.specs.RowValue.{value}
use Rattle.array_io.specs.Believed.Holds.{IsLiveJournal, row_count}
use Rattle.array_io.specs.Believed.Settled.{rows_by}

-- Every live journal of the image has this last seal, whose number is given (0 for none), and each sector of its body is the value that
-- the members give without it.
pub record HasEntryAtRest (devices : ℕ) (table : Table) (number : ℕ) (image : Slots) : Type 0 where
  pub last : Option Seal
  pub numbered : number_of last ≡ number
  pub sealed : (journal : ℕ) → IsLiveJournal devices table image journal → IsLastSealed table.id table.geometry (image journal) last
  pub bodies : (journal : ℕ) (seal : Seal) → IsLiveJournal devices table image journal → last ≡ Some seal → (row member : ℕ) (sector : Bytes)
      → row < row_count table → member < table.geometry.members → sector_in table.geometry.members (image journal) seal row member ≡ Some sector
      → sector ≡ value (rows_by table image) row member
