-- Images without an entry.
use Rattle.std.specs.Prelude.{ℕ, None}
use Rattle.sector_model.specs.History.{Slots}
use Rattle.superblock.specs.declared.table.Table.{Table}
use Rattle.stripe_journal.specs.LastEntry.{IsLastSealed}
use Rattle.array_io.specs.Believed.Holds.{IsLiveJournal}

-- no seal counts on a live journal of the image
pub record HasNoEntry (devices : ℕ) (table : Table) (image : Slots) : Type 0 where
  pub none : (journal : ℕ) → IsLiveJournal devices table image journal → IsLastSealed table.id table.geometry (image journal) None
