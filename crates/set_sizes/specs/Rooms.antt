-- The blocks that volumes of a set can have, and the sets of format 2 that have enough of them, or lie on given members.
use Rattle.std.specs.Prelude.{ℕ, ◌+◌, ◌*◌, ◌≤◌}
use Rattle.layout_map.specs.declared.format.Format.{Format}
use Rattle.layout_map.specs.declared.format.Format.TheVariants.{Two}
use Rattle.layout_map.specs.declared.sizes.TheConstants.{FIRST_ROW}
use Rattle.layout_map.specs.Placement.{rows_of, extent_blocks, extents_of, IsGeometry}

-- the blocks that all volumes of a set can have together: those of its extents
abbrev pub room_of : Format → ℕ → ℕ → ℕ → ℕ
room_of format members chunk stripes = extents_of format members chunk stripes * extent_blocks format members chunk stripes

-- so many stripes make a set of format 2, and it has room for so many blocks
pub record HasRoom (members chunk blocks stripes : ℕ) : Type 0 where
  pub is_set : IsGeometry Two members chunk stripes
  pub room : blocks ≤ room_of Two members chunk stripes

-- no fewer stripes have that room
pub record IsLeastFor (members chunk blocks stripes : ℕ) : Type 0 where
  pub has_room : HasRoom members chunk blocks stripes
  pub fewest : (other : ℕ) → HasRoom members chunk blocks other → stripes ≤ other

-- so many stripes make a set of format 2, and all its rows lie on members of so many sectors
pub record LiesOn (members chunk sectors stripes : ℕ) : Type 0 where
  pub is_set : IsGeometry Two members chunk stripes
  pub rows : FIRST_ROW + rows_of chunk stripes ≤ sectors

-- no more stripes lie there
pub record IsMostFor (members chunk sectors stripes : ℕ) : Type 0 where
  pub lies : LiesOn members chunk sectors stripes
  pub most : (other : ℕ) → LiesOn members chunk sectors other → other ≤ stripes
