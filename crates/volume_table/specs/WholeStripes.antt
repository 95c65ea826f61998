-- Whole stripes of a set in which blocks of one volume lie.
use Rattle.std.specs.Prelude.{◌≡◌, ℕ, ◌+◌, ◌*◌, ◌/◌, ◌<◌, ◌≤◌, List, length, slice_index_or, Option}
use Rattle.layout_map.specs.declared.geometry.Geometry.{Geometry}
use Rattle.layout_map.specs.Placement.{stripe_blocks}
use Rattle.entry_runs.specs.declared.run.Run.{Run}
use Rattle.batch.specs.Places.{HasRow}
use Rattle.batch.specs.ZeroRows.{HasZeroRow}
use Rattle.array_io.specs.Believed.ZeroRows.{row_of_logical}
use Rattle.extents.specs.declared.extent_layout.ExtentLayout.{ExtentLayout}
use Rattle.extents.specs.declared.owned.Owned.{Owned}
use Rattle.extents.specs.ExtentMaps.{place_of, sector_of_block}
use Rattle.extents.specs.Owners.{IsAt}

-- the blocks of a volume from this one on, as many as a stripe has, lie in this stripe, in order
abbrev pub FillStripe : Geometry → ExtentLayout → List (Option Owned) → (number block stripe : ℕ) → Type 0
FillStripe geometry extents owners number block stripe = (n extent : ℕ) → n < stripe_blocks geometry.members geometry.chunk
    → IsAt owners extent number (place_of extents (block + n))
    → sector_of_block extents extent (block + n) ≡ stripe * stripe_blocks geometry.members geometry.chunk + n

-- a row of a stripe that blocks of a volume fill, from block `at` on and below `end`
pub record IsStripeRow (geometry : Geometry) (extents : ExtentLayout) (owners : List (Option Owned)) (number at end row : ℕ) : Type 0 where
  pub block : ℕ
  pub stripe : ℕ
  pub least : at ≤ block
  pub most : block + stripe_blocks geometry.members geometry.chunk ≤ end
  pub of_stripe : row / geometry.chunk ≡ stripe
  pub fill : FillStripe geometry extents owners number block stripe

-- The rows are those of the stripes that the blocks `at` to `end` - 1 of a volume fill.
pub record AreStripesOf (geometry : Geometry) (extents : ExtentLayout) (owners : List (Option Owned)) (number at end : ℕ) (rows : List ℕ) : Type 0 where
  pub sound : (i : ℕ) → i < length rows → IsStripeRow geometry extents owners number at end (slice_index_or rows i 0)
  pub complete : (block extent : ℕ) → at ≤ block → block < end → IsAt owners extent number (place_of extents block)
      → HasRow rows (row_of_logical geometry (sector_of_block extents extent block))

-- Rows that are made zero are those of the stripes that the blocks `at` to `end` - 1 of a volume fill.
pub record GathersStripes (geometry : Geometry) (extents : ExtentLayout) (owners : List (Option Owned)) (number at end : ℕ) (runs : List Run) : Type 0 where
  pub sound : (row : ℕ) → HasZeroRow runs row → IsStripeRow geometry extents owners number at end row
  pub complete : (block extent : ℕ) → at ≤ block → block < end → IsAt owners extent number (place_of extents block)
      → HasZeroRow runs (row_of_logical geometry (sector_of_block extents extent block))
