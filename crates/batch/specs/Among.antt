-- A place among others that rise.
use Rattle.std.specs.Prelude.{◌≡◌, ℕ, ◌<◌, ◌≤◌, List, length}
use Rattle.batch.specs.declared.placed.Placed.{Placed}
use Rattle.batch.specs.Places.{IsBefore, placed_at}

-- a member's sector of a row, whichever of the given sectors it is
abbrev pub spot : (row member : ℕ) → Placed
spot row member = record { row = row; member = member; at = 0 }

-- The number that a member's sector of a row has among rising places, or would have: those before come before it, and no other does.
pub record GoesTo (places : List Placed) (row member number : ℕ) : Type 0 where
  pub within : number ≤ length places
  pub below : (i : ℕ) → i < number → IsBefore (placed_at places i) (spot row member)
  pub others : (i : ℕ) → number ≤ i → i < length places → ¬ IsBefore (placed_at places i) (spot row member)

-- this is one of the places
pub record HasPlaced (places : List Placed) (placed : Placed) : Type 0 where
  pub place : ℕ
  pub within : place < length places
  pub is : placed_at places place ≡ placed

-- one of the places is this member's in this row, and that of the given sector k
pub record IsPlacedAs (places : List Placed) (row member k : ℕ) : Type 0 where
  pub place : ℕ
  pub within : place < length places
  pub in_row : (placed_at places place).row ≡ row
  pub on_member : (placed_at places place).member ≡ member
  pub is : (placed_at places place).at ≡ k
