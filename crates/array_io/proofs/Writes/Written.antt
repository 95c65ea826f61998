-- What was written after the superblocks of images, and what that keeps.
use Rattle.std.specs.Prelude.{◌≡◌, ◌⊎◌, ℕ, ◌≤◌, List, length}
use Rattle.sector_model.specs.History.{Bytes, Slots, disk_of, sector_of}
use Rattle.sector_model.specs.Moments.{Contents}
use Rattle.layout_map.specs.declared.sizes.TheConstants.{SUPERBLOCK_PLACES}
use Rattle.superblock.specs.declared.table.Table.{Table}
use Rattle.superblock.specs.Counted.{Content}
use Rattle.array_io.specs.Laws.Core.{AreJournalsInStep, HasRows}
use Rattle.array_io.specs.Believed.Holds.{IsLiveJournal}
use Rattle.array_io.proofs.Writes.PutSince.{IsPutFrom}

-- what stands in a slot stood there before, or after the superblocks what may be put there
pub record IsWritten (puts : Contents) (slot : ℕ) (before after : Content) : Type 0 where
  pub long : length (disk_of after) ≡ length (disk_of before)
  pub each : (at : ℕ) → (sector_of (disk_of after) at ≡ sector_of (disk_of before) at)
      ⊎ ((SUPERBLOCK_PLACES ≤ at) × puts slot at (sector_of (disk_of after) at))

-- An image that was written, with what stood before it.
abbrev pub IsWrittenFrom : (devices : ℕ) (table : Table) (puts : Contents) (reads : Slots) (X : List (List Bytes)) (whole before image : Slots) → Type 0
IsWrittenFrom devices table puts reads X whole before image = IsPutFrom devices table (IsWritten puts) reads X whole before image

-- what is written keeps the rows of each image, in which they are in X' then
abbrev pub KeepsRows : (devices : ℕ) (table : Table) (puts : Contents) (reads : Slots) (X X' : List (List Bytes)) → Type 0
KeepsRows devices table puts reads X X' = (whole before image : Slots) → IsWrittenFrom devices table puts reads X whole before image
    → HasRows devices table X' (IsLiveJournal devices table image) image × AreJournalsInStep devices table image
