-- What a table may say.
use Rattle.std.specs.Prelude.{◌≡◌, ◌≢◌, ℕ, ◌+◌, ◌<◌, ◌≤◌, List, length, slice_index_or}
use Rattle.sector_model.specs.declared.calls.TheConstants.{GREATEST_COUNT}
use Rattle.layout_map.specs.declared.geometry.Geometry.{Geometry}
use Rattle.layout_map.specs.Placement.{rows_of}
use Rattle.superblock.specs.declared.state.State.{State}
use Rattle.superblock.specs.declared.state.State.TheVariants.{Missing, InSync, Rebuilding}

-- the state of a slot
abbrev pub state_at : List State → ℕ → State
state_at states slot = slice_index_or states slot Missing

-- the incarnation of a slot
abbrev pub incarnation_at : List ℕ → ℕ → ℕ
incarnation_at incarnations slot = slice_index_or incarnations slot 0

-- There are ten places, the numbers are within their limits, and the places after the last slot are empty. At most one
-- slot is not in sync. Only a member is rebuilding, and only then there is a position, below the number of rows.
pub record IsTable (generation : ℕ) (geometry : Geometry) (states : List State) (incarnations : List ℕ) (position : ℕ) : Type 0 where
  pub ten_states : length states ≡ 10
  pub ten_incarnations : length incarnations ≡ 10
  pub generation_least : 1 ≤ generation
  pub generation_most : generation ≤ GREATEST_COUNT
  pub incarnation_least : (slot : ℕ) → slot < geometry.members + 2 → 1 ≤ incarnation_at incarnations slot
  pub incarnation_most : (slot : ℕ) → slot < geometry.members + 2 → incarnation_at incarnations slot ≤ GREATEST_COUNT
  pub missing_beyond : (slot : ℕ) → geometry.members + 2 ≤ slot → state_at states slot ≡ Missing
  pub zero_beyond : (slot : ℕ) → geometry.members + 2 ≤ slot → incarnation_at incarnations slot ≡ 0
  pub one_out : (first second : ℕ) → first < geometry.members + 2 → second < geometry.members + 2
      → state_at states first ≢ InSync → state_at states second ≢ InSync → first ≡ second
  pub rebuilds_member : (slot : ℕ) → state_at states slot ≡ Rebuilding → slot < geometry.members
  pub position_below : (slot : ℕ) → state_at states slot ≡ Rebuilding → position < rows_of geometry.chunk geometry.stripes
  pub no_position : ((slot : ℕ) → state_at states slot ≢ Rebuilding) → position ≡ 0
