-- Where the extents of a set may lie.
use Rattle.std.specs.Prelude.{ℕ, ◌+◌, ◌*◌, ◌^◌, ◌<◌, ◌≤◌}
use Rattle.layout_map.specs.declared.sizes.TheConstants.{MOST_EXTENTS, RESERVED_SECTORS}

-- above the reserved sectors, each of one block at least, and 1,024 at most, of which as many would end below sector 2^64
pub record IsExtentLayout (first blocks count : ℕ) : Type 0 where
  pub above : RESERVED_SECTORS ≤ first
  pub some : 1 ≤ blocks
  pub most : count ≤ MOST_EXTENTS
  pub fits : first + MOST_EXTENTS * blocks < 2 ^ 64
