-- What the layout keeps, for every set within the limits.
use Rattle.std.specs.Prelude.{◌≡◌, ◌⊎◌, ℕ, ◌<◌}
use Rattle.layout_map.specs.declared.format.Format.{Format}
use Rattle.layout_map.specs.Placement.{rows_of, data_sectors_of, IsGeometry, IsPlace, IsParityOf}

-- a logical sector that lies on this member in this row, and no other does
pub record HoldsOneSector (members chunk stripes member row : ℕ) : Type 0 where
  pub logical : ℕ
  pub below : logical < data_sectors_of members chunk stripes
  pub placed : IsPlace members chunk logical member row
  pub only : (other : ℕ) → IsPlace members chunk other member row → other ≡ logical

-- each logical sector has a place within the members and the rows
abbrev pub PlacesAreWithin : Type 0
PlacesAreWithin = (format : Format) (members chunk stripes logical member row : ℕ) → IsGeometry format members chunk stripes
    → logical < data_sectors_of members chunk stripes → IsPlace members chunk logical member row
    → (member < members) × (row < rows_of chunk stripes)

-- no two logical sectors share a place
abbrev pub NoPlaceIsShared : Type 0
NoPlaceIsShared = (format : Format) (members chunk stripes first second member row : ℕ) → IsGeometry format members chunk stripes
    → IsPlace members chunk first member row → IsPlace members chunk second member row → first ≡ second

-- each sector of each member holds exactly one logical sector, or is its row's parity
abbrev pub EachIsDataOrParity : Type 0
EachIsDataOrParity = (format : Format) (members chunk stripes member row : ℕ) → IsGeometry format members chunk stripes
    → member < members → row < rows_of chunk stripes
    → HoldsOneSector members chunk stripes member row ⊎ IsParityOf members chunk row member

-- no sector of a member is both
abbrev pub NoneIsBoth : Type 0
NoneIsBoth = (format : Format) (members chunk stripes logical member row : ℕ) → IsGeometry format members chunk stripes
    → IsPlace members chunk logical member row → ¬ IsParityOf members chunk row member
