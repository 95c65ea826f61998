-- One row after another of places that rise.
use Rattle.std.specs.Prelude.{◌≡◌, ◌⊎◌, ◌↔◌, ℕ, ◌<◌, ◌≤◌, true, List, length, count_ones}
use Rattle.layout_map.specs.declared.geometry.Geometry.{Geometry}
use Rattle.entry_runs.specs.Body.{has_bit}
use Rattle.batch.specs.declared.placed.Placed.{Placed}
use Rattle.batch.specs.declared.planning.NextRow.{NextRow}
use Rattle.batch.specs.Places.{HasParityOn, placed_at}

-- one of the first so many places is this member's in this row
pub record IsPlacedBy (places : List Placed) (count row member : ℕ) : Type 0 where
  pub place : ℕ
  pub within : place < count
  pub in_row : (placed_at places place).row ≡ row
  pub on_member : (placed_at places place).member ≡ member

-- a commit of the first so many places changes the member's sector in the row
abbrev pub IsChangedBy : Geometry → List Placed → (count row member : ℕ) → Type 0
IsChangedBy geometry places count row member = IsPlacedBy places count row member ⊎ HasParityOn geometry row member

-- the place of this number is the first of its row
pub record StartsRow (places : List Placed) (first : ℕ) : Type 0 where
  pub within : first < length places
  pub starts : (j : ℕ) → j < first → (placed_at places j).row < (placed_at places first).row

-- The row of the place of this number: what a commit changes there, and where the places of the next row begin.
pub record IsNextRow (geometry : Geometry) (places : List Placed) (first : ℕ) (next : NextRow) : Type 0 where
  pub row : next.row ≡ (placed_at places first).row
  pub some : first < next.end
  pub within : next.end ≤ length places
  pub here : (j : ℕ) → first ≤ j → j < next.end → (placed_at places j).row ≡ next.row
  pub later : (j : ℕ) → next.end ≤ j → j < length places → next.row < (placed_at places j).row
  pub bits : (member : ℕ) → (has_bit next.mask member ≡ true) ↔ IsChangedBy geometry places next.end next.row member
  pub two : 2 ≤ count_ones next.mask
