-- What the limits of a version are at most, and what they grow to from version 1 to 2.
use Rattle.std.proofs.Common.{◌≡◌, ℕ, ◌+◌, ◌-◌, ◌*◌, ◌<◌, ◌≤◌, ◌==◌, Bool, true, false, cond, List, [], length, take, get_or, ap, refl, sym, ◌∙◌, arith}
use Rattle.std.proofs.lemmas.List.{same_lists, length-take, get_or-take, get_or_default}
use Rattle.std.proofs.lemmas.Nat.{mul-le}
use Rattle.layout_map.specs.declared.geometry.Geometry.{Geometry}
use Rattle.layout_map.specs.Placement.{data_sectors_of, rows_of}
use Rattle.layout_map.proofs.Places.{chunk_least, data_sectors_by_rows, extents_fit}
use Rattle.extents.specs.declared.volume_table.VolumeTable.{VolumeTable}
use Rattle.extents.specs.SetExtents.{IsOfSet, extents_in}
use Rattle.extents.specs.TableLaw.{IsOfFormat}
use Rattle.layout_map.specs.declared.format.Format.{Format}
use Rattle.extents.specs.Versions.{by_version, is_version_of, most_volumes, most_name_bytes, record_sectors, table_length}
use Rattle.volume_table.specs.Volumes.{Block, VolumeMap}
use Rattle.extents.specs.declared.name.TheConstants.{MOST_NAME_BYTES}
use Rattle.extents.specs.declared.volume_table.TheConstants.{MOST_VOLUMES, TABLE_SECTORS}

by_version_most : (version first second most : ℕ) → first ≤ most → second ≤ most → by_version version first second ≤ most
by_version_most version first second most one two = by_case (version == 1)
  where
    by_case : (b : Bool) → cond b first second ≤ most
    by_case true = one
    by_case false = two

by_version_least : (version first second least : ℕ) → least ≤ first → least ≤ second → least ≤ by_version version first second
by_version_least version first second least one two = by_case (version == 1)
  where
    by_case : (b : Bool) → least ≤ cond b first second
    by_case true = one
    by_case false = two

-- a table has at most 25 sectors, and so ends below the blocks
pub table_short : (version : ℕ) → table_length version ≤ TABLE_SECTORS
unfolding table_length record_sectors
table_short version = omega (arith, by_version_most version 2 16 16 (omega arith) (omega arith))

-- a set has more data sectors than a table
pub has_table_sectors : (geometry : Geometry) → TABLE_SECTORS < data_sectors_of geometry.members geometry.chunk geometry.stripes
has_table_sectors geometry =
    let rows : 16 ≤ rows_of geometry.chunk geometry.stripes =
    omega (arith, mul-le 2 8 geometry.stripes geometry.chunk geometry.limits.stripes_least (chunk_least geometry.limits)) in
    omega (
      arith,
      mul-le 16 2 (rows_of geometry.chunk geometry.stripes) (geometry.members - 1) rows (omega (arith, geometry.limits.members_least)),
      data_sectors_by_rows geometry.members geometry.chunk geometry.stripes,
    )

-- the extents of a set lie within its data sectors
pub room_for : (geometry : Geometry) (count : ℕ) → count ≤ (extents_in geometry).count
    → (extents_in geometry).first + count * (extents_in geometry).blocks ≤ data_sectors_of geometry.members geometry.chunk geometry.stripes
unfolding extents_in
room_for geometry count few =
    omega (
      arith,
      extents_fit geometry.limits,
      mul-le count (extents_in geometry).blocks (extents_in geometry).count (extents_in geometry).blocks few (omega arith),
    )

-- the extents of a set are of its format
pub format_in : (geometry : Geometry) → (extents_in geometry).format ≡ geometry.format
unfolding extents_in
format_in geometry = refl

-- so a table of the set is
pub of_format_in : (geometry : Geometry) (table : VolumeTable) → IsOfSet (extents_in geometry) table → IsOfFormat geometry.format table
of_format_in geometry table of_set = ap (λ (format : Format). is_version_of format table.version) (sym (format_in geometry)) ∙ of_set.version

-- a table has 11 sectors at least
pub table_long : (version : ℕ) → 11 ≤ table_length version
unfolding table_length record_sectors
table_long version = omega (arith, by_version_least version 2 16 2 (omega arith) (omega arith))

-- there are 64 volumes at most
pub few_volumes : (version : ℕ) → most_volumes version ≤ MOST_VOLUMES
unfolding most_volumes
few_volumes version = by_version_most version 32 64 64 (omega arith) (omega arith)

-- names have 63 bytes at most
pub short_names : (version : ℕ) → most_name_bytes version ≤ MOST_NAME_BYTES
unfolding most_name_bytes
short_names version = by_version_most version 24 63 63 (omega arith) (omega arith)

-- version 2 has as many volumes as any other, and as long names
pub more_volumes : (version : ℕ) → most_volumes version ≤ most_volumes 2
unfolding most_volumes
more_volumes version = by_version_most version 32 64 64 (omega arith) (omega arith)

pub longer_names : (version : ℕ) → most_name_bytes version ≤ most_name_bytes 2
unfolding most_name_bytes
longer_names version = by_version_most version 24 63 63 (omega arith) (omega arith)

-- maps with one version and one list are one
pub same_map : (first second : VolumeMap) → first.version ≡ second.version → first.volumes ≡ second.volumes → first ≡ second
same_map first second version volumes = λ i. record { version = version i; volumes = volumes i }

-- lists that are as long, and the same in their first n sectors, begin with the same n sectors
pub same_first : (n : ℕ) (before now : List Block) → length now ≡ length before → ((sector : ℕ) → sector < n → get_or now sector [] ≡ get_or before sector [])
    → take n now ≡ take n before
same_first n before now as_long same =
    same_lists (take n now) (take n before) (omega (arith, length-take n now, length-take n before, as_long)) (λ k d within.
    let less : k < n = omega (arith, within, length-take n now) in
    let within_now : k < length now = omega (arith, within, length-take n now) in
    get_or-take n now k d less ∙ get_or_default now k d [] within_now ∙ same k less
    ∙ sym (get_or-take n before k d less ∙ get_or_default before k d [] (omega (arith, within_now, as_long))))
