-- What a commit of given sectors changes.
use Rattle.std.specs.Prelude.{◌⊎◌, ℕ, ◌<◌, length}
use Rattle.layout_map.specs.declared.geometry.Geometry.{Geometry}
use Rattle.batch.specs.Places.{Given, HasParityOn, LiesAt, logical_at}

-- a given sector lies on this member in this row
pub record IsGiven (geometry : Geometry) (sectors : Given) (row member : ℕ) : Type 0 where
  pub which : ℕ
  pub within : which < length sectors
  pub lies : LiesAt geometry (logical_at sectors which) row member

-- a commit changes the member's sector in the row: it is given, or the row's parity
abbrev pub IsChanged : Geometry → Given → (row member : ℕ) → Type 0
IsChanged geometry sectors row member = IsGiven geometry sectors row member ⊎ HasParityOn geometry row member
