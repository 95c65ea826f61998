-- Blocks of a volume that wait in a batch, after others.
use Rattle.std.specs.Prelude.{ℕ, List, Option}
use Rattle.batch.specs.Places.{AreApart, Given}
use Rattle.batch.specs.Staging.{IsStaged}
use Rattle.extents.specs.declared.extent_layout.ExtentLayout.{ExtentLayout}
use Rattle.extents.specs.declared.owned.Owned.{Owned}
use Rattle.volume_table.specs.Volumes.{Block}
use Rattle.volume_table.specs.StoreChanges.{ArePlaced}

-- blocks of a record's volume, from block `at` on, wait where they lie, after those that did
pub record StagesBlocks (extents : ExtentLayout) (owners : List (Option Owned)) (number at : ℕ) (blocks : List Block) (old new : Given) : Type 0 where
  pub sectors : Given
  pub placed : ArePlaced extents owners number at blocks sectors
  pub apart : AreApart old
  pub staged : IsStaged old sectors new
