-- Moments while sectors after the superblocks are written: entries on journals, rows on members.
use Rattle.std.specs.Prelude.{◌≡◌, ◌≢◌, ◌⊎◌, ℕ, ◌≤◌, true, List, Option}
use Rattle.sector_model.specs.History.{Bytes, History, MayHold, is_down, start_of}
use Rattle.sector_model.specs.Moments.{Contents}
use Rattle.sector_model.specs.Readable.{NothingPending, readable}
use Rattle.layout_map.specs.declared.sizes.TheConstants.{SUPERBLOCK_PLACES}
use Rattle.superblock.specs.declared.table.Table.{Table}
use Rattle.superblock.specs.Cases.{Lost}
use Rattle.superblock.specs.Counted.{IsChosen, IsLive}
use Rattle.superblock.specs.Losses.{InEachImage, IsLostAt}
use Rattle.superblock.specs.NextTables.{slots_of}
use Rattle.array_io.specs.Steps.Bringing.{CountsOn}
use Rattle.array_io.specs.Believed.Moments.{HoldsNow}
use Rattle.array_io.specs.Believed.Settled.{IsAllThere}

-- A moment while a set is written since `old`: a crash leaves in each sector what it might have left before, or after the superblocks of a slot
-- that the table counts on what may be put there; the devices are the same; what was down is down, and only such a device may have gone down.
pub record IsWriting (table : Table) (puts : Contents) (old h : History) : Type 0 where
  pub holds : (device at : ℕ) (value : Bytes) → MayHold h device at value
      → MayHold old device at value ⊎ (CountsOn table device × (SUPERBLOCK_PLACES ≤ at) × puts device at value)
  pub start : (device : ℕ) → start_of h device ≡ start_of old device
  pub stays_down : (device : ℕ) → is_down old device ≡ true → is_down h device ≡ true
  pub others_stay : (device : ℕ) → ¬ CountsOn table device → is_down h device ≡ is_down old device

-- From where a set is written: nothing is pending; what the table doesn't call missing is there; all cases that a crash may leave hold for X; and their
-- images choose the table.
pub record WritesFrom (devices : ℕ) (base table : Table) (lost : Option Lost) (X : List (List Bytes)) (old : History) : Type 0 where
  pub nothing_pending : NothingPending old
  pub there : IsAllThere devices table old
  pub same_id : table.id ≡ base.id
  pub holds : HoldsNow base devices lost X old
  pub chosen : (after : Option Lost) → IsLostAt (slots_of base) lost old after
      → InEachImage devices table old after (λ image. IsChosen table.id devices image table)

-- One device failed while the set was written, that of a slot on which the table counts: the other slots that it counts on are there, nothing is pending on
-- devices that are up, all cases that a crash may leave hold for X, and their images choose the table.
pub record HasFailedOnce (devices : ℕ) (base table : Table) (lost : Option Lost) (X : List (List Bytes)) (slot : ℕ) (mid : History) : Type 0 where
  pub nothing_pending : NothingPending mid
  pub others_there : (other : ℕ) → CountsOn table other → other ≢ slot → IsLive devices table other (readable mid other)
  pub counted : CountsOn table slot
  pub down : is_down mid slot ≡ true
  pub same_id : table.id ≡ base.id
  pub holds : HoldsNow base devices lost X mid
  pub chosen : (after : Option Lost) → IsLostAt (slots_of base) lost mid after
      → InEachImage devices table mid after (λ image. IsChosen table.id devices image table)
