-- Blocks of a volume that are made zero by one commit after another.
use Rattle.std.specs.Prelude.{◌≡◌, ◌⊎◌, ℕ, ◌-◌, ◌%◌, ◌<◌, ◌≤◌, List, length, Option, Ok, Err}
use Rattle.sector_model.specs.declared.refusal.Refusal.{Refusal}
use Rattle.sector_model.specs.Bank.{IsTrueTo}
use Rattle.layout_map.specs.declared.format.Format.TheVariants.{Two}
use Rattle.layout_map.specs.declared.geometry.Geometry.{Geometry}
use Rattle.layout_map.specs.Placement.{stripe_blocks}
use Rattle.batch.specs.Places.{Given, logical_at}
use Rattle.batch.specs.Staging.{HasLogical}
use Rattle.array_io.specs.Believed.ArrayCalls.{Answer}
use Rattle.array_io.specs.Believed.Views.{ArrayView, IsEndOf}
use Rattle.sector_model.specs.declared.calls.TheConstants.{GREATEST_COUNT}
use Rattle.extents.specs.declared.extent_layout.ExtentLayout.{ExtentLayout}
use Rattle.extents.specs.declared.owned.Owned.{Owned}
use Rattle.extents.specs.ExtentMaps.{place_of, sector_of_block}
use Rattle.extents.specs.Owners.{IsAt}
use Rattle.volume_table.specs.ListChanges.{ChangesList, IsSameOr}
use Rattle.volume_table.specs.StoreChanges.{IsOfBlocks, IsWrittenAt}
use Rattle.volume_table.specs.VolumeStep.{zero_blocks}

-- One commit makes the blocks `at` to `end` - 1 of a record's volume zero, all of them or none, and changes nothing else. 15, 16.
pub record ZeroesTogether (honest : Type 0) (extents : ExtentLayout) (owners : List (Option Owned)) (number at end : ℕ) (old new : ArrayView)
    (answer : Answer) : Type 0
  where
    pub changes : ChangesList honest 1 (IsSameOr (IsWrittenAt extents owners number at (zero_blocks (end - at))))
        (IsWrittenAt extents owners number at (zero_blocks (end - at))) old new answer
    pub cause : (refusal : Refusal) → answer ≡ Err refusal → IsEndOf old new (GREATEST_COUNT ≤ old.number) refusal

-- the blocks `at` to `end` - 1 were made zero by commits in rising order of blocks
pub data AreZeroedInTurn (honest : Type 0) (extents : ExtentLayout) (owners : List (Option Owned)) (number : ℕ) : (at end : ℕ) → (old new : ArrayView) → Type 0
  where
    none_zeroed : {at : ℕ} {array : ArrayView} → AreZeroedInTurn honest extents owners number at at array array
    then_zeroed : {at end : ℕ} {old new : ArrayView} (upto : ℕ) (mid : ArrayView) → at < upto
        → ZeroesTogether honest extents owners number at upto old mid (Ok tt) → (honest → IsTrueTo mid.panel mid.history)
        → AreZeroedInTurn honest extents owners number upto end mid new → AreZeroedInTurn honest extents owners number at end old new

-- the first of them were, and the commit of those after these ended with 15 or 16
pub record EndsZeroing (honest : Type 0) (extents : ExtentLayout) (owners : List (Option Owned)) (number at end : ℕ) (old new : ArrayView) (refusal : Refusal) :
    Type 0
  where
    pub from : ℕ
    pub upto : ℕ
    pub mid : ArrayView
    pub before : AreZeroedInTurn honest extents owners number at from old mid
    pub some : from < upto
    pub most : upto ≤ end
    pub ends : ZeroesTogether honest extents owners number from upto mid new (Err refusal)

-- blocks of a volume are made zero by commits in rising order of blocks
abbrev pub ZeroesInTurn : (honest : Type 0) → ExtentLayout → List (Option Owned) → (number at end : ℕ) → (old new : ArrayView) → Answer → Type 0
ZeroesInTurn honest extents owners number at end old new (Ok done) = AreZeroedInTurn honest extents owners number at end old new
ZeroesInTurn honest extents owners number at end old new (Err refusal) = EndsZeroing honest extents owners number at end old new refusal

-- blocks from one up to another are none, or whole stripes of each extent, of a set of format 2
abbrev pub AreWholeStripes : Geometry → (first end : ℕ) → Type 0
AreWholeStripes geometry first end = (first ≡ end) ⊎ ((geometry.format ≡ Two) × (first % stripe_blocks geometry.members geometry.chunk ≡ 0)
    × (end % stripe_blocks geometry.members geometry.chunk ≡ 0))

-- Sectors are those in which the blocks `at` to `end` - 1 of a record's volume lie.
pub record GathersBlocks (extents : ExtentLayout) (owners : List (Option Owned)) (number at end : ℕ) (sectors : Given) : Type 0 where
  pub sound : (k : ℕ) → k < length sectors → IsOfBlocks extents owners number at end (logical_at sectors k)
  pub complete : (block extent : ℕ) → at ≤ block → block < end → IsAt owners extent number (place_of extents block)
      → HasLogical sectors (length sectors) (sector_of_block extents extent block)
