-- Where the extents of a set lie, and which tables of volumes may be a set's.
use Rattle.std.specs.Prelude.{◌≡◌, ℕ, ◌+◌, ◌-◌, ◌*◌, ◌/◌, ◌≤◌, true}
use Rattle.std.proofs.Common.{arith}
use Rattle.std.proofs.lemmas.Nat.{div-add-mod', mod_below, mul-le}
use Rattle.layout_map.specs.declared.format.Format.{Format}
use Rattle.layout_map.specs.declared.format.Format.TheVariants.{One, Two}
use Rattle.layout_map.specs.declared.geometry.Geometry.{Geometry}
use Rattle.layout_map.specs.declared.sizes.TheConstants.{EXTENT_SECTORS, MOST_EXTENTS, RESERVED_SECTORS}
use Rattle.layout_map.specs.Placement.{extent_blocks, extents_of, first_extent, stripe_blocks}
use Rattle.layout_map.proofs.Places.{chunk_least, data_sectors_most, extent_least, extents_fit, extents_most, stripe_least}
use Rattle.extents.specs.declared.extent_layout.ExtentLayout.{ExtentLayout}
use Rattle.extents.specs.declared.volume_table.VolumeTable.{VolumeTable}
use Rattle.extents.specs.Checks.{AreCleanBeyond, AreFreeFrom}
use Rattle.extents.specs.Layouts.{IsExtentLayout}
use Rattle.extents.specs.Versions.{is_version_of}
use Rattle.extents.specs.VolumeTables.{HaveTheirPlaces}

-- the least multiple of a size from a number on is not below it
rounded_up : (number size : ℕ) → 1 ≤ size → number ≤ (number + size - 1) / size * size
rounded_up number size some =
    omega (arith, some, div-add-mod' (number + size - 1) size, mod_below (number + size - 1) size (omega (arith, some)))

-- no extent lies below the reserved sectors
first_least : (format : Format) (members chunk : ℕ) → 1 ≤ stripe_blocks members chunk → RESERVED_SECTORS ≤ first_extent format members chunk
first_least One members chunk some = omega arith
first_least Two members chunk some = rounded_up RESERVED_SECTORS (stripe_blocks members chunk) some

-- and all lie within the data sectors
pub lie_in_set : (geometry : Geometry) → IsExtentLayout (first_extent geometry.format geometry.members geometry.chunk)
    (extent_blocks geometry.format geometry.members geometry.chunk geometry.stripes)
    (extents_of geometry.format geometry.members geometry.chunk geometry.stripes)
lie_in_set geometry =
    let limits = geometry.limits in
    let format = geometry.format in
    let blocks = extent_blocks format geometry.members geometry.chunk geometry.stripes in
    let one = mul-le 1 blocks (extents_of format geometry.members geometry.chunk geometry.stripes) blocks limits.has_extent (omega arith) in
    let stripe = stripe_least geometry.members geometry.chunk limits.members_least (chunk_least limits) in
    record {
      above = first_least geometry.format geometry.members geometry.chunk (omega (arith, stripe));
      some = omega (arith, extent_least limits);
      most = extents_most geometry.format geometry.members geometry.chunk geometry.stripes;
      fits = omega (arith, one, extents_fit limits, data_sectors_most geometry.members geometry.chunk geometry.stripes limits.members_most limits.rows_fit);
    }

-- the extents of a set of this geometry
unfoldable pub extents_in : Geometry → ExtentLayout
extents_in geometry = record {
  format = geometry.format;
  first = first_extent geometry.format geometry.members geometry.chunk;
  blocks = extent_blocks geometry.format geometry.members geometry.chunk geometry.stripes;
  count = extents_of geometry.format geometry.members geometry.chunk geometry.stripes;
  limits = lie_in_set geometry;
}

-- so many extents of 64 blocks each, from sector 64 on: those of a set of format 1
abbrev pub of_64 : (count : ℕ) → count ≤ MOST_EXTENTS → ExtentLayout
of_64 count most = record {
  format = One;
  first = RESERVED_SECTORS;
  blocks = EXTENT_SECTORS;
  count = count;
  limits = record { above = omega arith; some = omega arith; most = most; fits = omega arith };
}

-- A table of a set whose extents lie so: its version is one of the set's format, each record has exactly the extents that its blocks take, and no extent is
-- used, or told to be dirty, that the set doesn't have.
pub record IsOfSet (extents : ExtentLayout) (table : VolumeTable) : Type 0 where
  pub version : is_version_of extents.format table.version ≡ true
  pub free_beyond : AreFreeFrom table.extents extents.count
  pub clean_beyond : AreCleanBeyond table.version table.dirty extents.count
  pub placed : ∥ HaveTheirPlaces extents.blocks table.records table.extents ∥₁
