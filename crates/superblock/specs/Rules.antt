-- The rules of a table, one by one.
use Rattle.std.specs.Prelude.{◌≡◌, ◌≢◌, ℕ, ◌<◌, ◌≤◌, List}
use Rattle.sector_model.specs.declared.calls.TheConstants.{GREATEST_COUNT}
use Rattle.layout_map.specs.declared.geometry.Geometry.{Geometry}
use Rattle.layout_map.specs.Placement.{rows_of}
use Rattle.superblock.specs.declared.state.State.{State}
use Rattle.superblock.specs.declared.state.State.TheVariants.{Missing, InSync, Rebuilding}
use Rattle.superblock.specs.Tables.{state_at, incarnation_at}

-- the first slots, as many as the number says, have incarnations 1 to 2^62, and the places after them 0
pub record AreNumbered (slots : ℕ) (incarnations : List ℕ) : Type 0 where
  pub least : (slot : ℕ) → slot < slots → 1 ≤ incarnation_at incarnations slot
  pub most : (slot : ℕ) → slot < slots → incarnation_at incarnations slot ≤ GREATEST_COUNT
  pub beyond : (slot : ℕ) → slots ≤ slot → incarnation_at incarnations slot ≡ 0

-- the places after the slots are empty
pub record AreMissingBeyond (slots : ℕ) (states : List State) : Type 0 where
  pub beyond : (slot : ℕ) → slots ≤ slot → state_at states slot ≡ Missing

-- at most one slot is not in sync
pub record AreOutOnce (slots : ℕ) (states : List State) : Type 0 where
  pub once : (first second : ℕ) → first < slots → second < slots
      → state_at states first ≢ InSync → state_at states second ≢ InSync → first ≡ second

-- only a member is rebuilding, and there is a position only then
pub record IsPositionOf (geometry : Geometry) (states : List State) (position : ℕ) : Type 0 where
  pub of_member : (slot : ℕ) → state_at states slot ≡ Rebuilding → slot < geometry.members
  pub below : (slot : ℕ) → state_at states slot ≡ Rebuilding → position < rows_of geometry.chunk geometry.stripes
  pub none : ((slot : ℕ) → state_at states slot ≢ Rebuilding) → position ≡ 0
