-- Blocks of a volume that are made zero together, or need not be.
use Rattle.std.specs.Prelude.{◌≡◌, ℕ, ◌<◌, ◌≤◌, Bool, false, List, Option}
use Rattle.extents.specs.declared.extent_layout.ExtentLayout.{ExtentLayout}
use Rattle.extents.specs.declared.owned.Owned.{Owned}
use Rattle.extents.specs.ExtentMaps.{is_dirty, place_of}
use Rattle.extents.specs.Owners.{IsAt}

-- a block of a volume lies in a dirty extent, or not
abbrev pub IsDirtyBlock : (extents : ExtentLayout) → List Bool → List (Option Owned) → (number block : ℕ) → Bool → Type 0
IsDirtyBlock extents dirty owners number block flag = (extent : ℕ) → IsAt owners extent number (place_of extents block) → is_dirty dirty extent ≡ flag

-- blocks from this one on, below `last`, are to be made zero, or lie in clean extents
pub record IsStretch (extents : ExtentLayout) (dirty : List Bool) (owners : List (Option Owned)) (number at last end : ℕ) (flag : Bool) : Type 0 where
  pub least : at < end
  pub most : end ≤ last
  pub clean : flag ≡ false → (block : ℕ) → at ≤ block → block < end → IsDirtyBlock extents dirty owners number block false
