-- What the evaluation of a logical list finds is what the list shows.
use Rattle.std.proofs.Common.{◌≡◌, ⊎_elim, ℕ, ◌<◌, ◌≤◌, min, List, [], ◌++◌, length, take, drop, get_or, All, Option, Some, None, refl, sym, ap, subst}
use Rattle.std.proofs.Common.{◌∙◌, arith, Bor}
use Rattle.std.specs.List.{slice_get}
use Rattle.std.specs.Option.{option_map, option_and_then, option_copied}
use Rattle.std.specs.Slice.{IsItemAt}
use Rattle.std.proofs.Props.{props}
use Rattle.std.proofs.Math.Logic.{∥∥₁_elim}
use Rattle.std.proofs.lemmas.Bool.{cases_lt}
use Rattle.std.proofs.lemmas.List.{length-take, length-take-le, get_or_past, take-take, take_at}
use Rattle.std.proofs.lemmas.Option.{slice_get_past, slice_get_read, slice_get-get_or}
use Rattle.extents.specs.declared.extent_layout.ExtentLayout.{ExtentLayout}
use Rattle.extents.specs.ExtentMaps.{place_of, sector_of_block}
use Rattle.extents.specs.declared.volume_table.VolumeTable.{VolumeTable}
use Rattle.extents.specs.Owners.{IsAt, HasPlaces}
use Rattle.extents.specs.VolumeTables.{HasRecord, HaveTheirPlaces, IsRecordFor, extents_for, extents_of, most_blocks, record_of}
use Rattle.extents.proofs.Blocks.{place_is_below}
use Rattle.extents.proofs.TableLaws.{fills}
use Rattle.extents.specs.TableSpelling.{Spell}
use Rattle.extents.specs.Versions.{table_length}
use Rattle.volume_table.specs.Volumes.{Block, IsBlock, VolumeMap, blocks_of, IsVolume}
use Rattle.volume_table.specs.Shows.{IsOfVolume, Shows}
use Rattle.volume_table.specs.Oracle.{block_at, block_count}
use Rattle.volume_table.proofs.VolumeLemmas.{found_has}
use Rattle.volume_table.proofs.ReadLemmas.{absent_is_shown}
use Rattle.volume_table.proofs.TableSizes.{table_short}
use Rattle.extents.specs.declared.volume_table.TheConstants.{TABLE_SECTORS}

-- sectors that begin with the spelling of a table are not fewer than a table of its version has
spelled_long : (sectors : List Block) (table : VolumeTable) → Spell sectors table → table_length table.version ≤ length sectors
spelled_long sectors table spelled =
    omega (arith, ap length spelled, (fills table).0, length-take (table_length table.version) sectors)

-- where other sectors begin with the same ones, they begin with the spelling too
pub spelled_there : (n : ℕ) (sectors first : List Block) (table : VolumeTable) → take n first ≡ take n sectors → table_length table.version ≤ n
    → Spell sectors table → Spell first table
spelled_there n sectors first table same within spelled =
    sym (shorter first) ∙ ap (take (table_length table.version)) same ∙ shorter sectors ∙ spelled
  where
    shorter : (list : List Block) → take (table_length table.version) (take n list) ≡ take (table_length table.version) list
    shorter list = take-take (table_length table.version) n list within

-- a list that shows volumes has the sectors of their table
pub has_table_there : (extents : ExtentLayout) (there : ℕ) (sectors : List Block) (volumes : VolumeMap) (shows : Shows extents sectors volumes)
    → there ≡ min (length sectors) TABLE_SECTORS
    → table_length shows.table.version ≤ there
has_table_there extents there sectors volumes shows is =
    omega (arith, is, spelled_long sectors shows.table shows.spelled, table_short shows.table.version)

-- so they are spelled in a copy of the first of its sectors
pub shown_in_copy : (extents : ExtentLayout) (there : ℕ) (sectors first : List Block) (volumes : VolumeMap) (shows : Shows extents sectors volumes)
    → there ≡ min (length sectors) TABLE_SECTORS
    → take there first ≡ take there sectors → Spell first shows.table
shown_in_copy extents there sectors first volumes shows is same =
    spelled_there there sectors first shows.table same (has_table_there extents there sectors volumes shows is) shows.spelled

-- the copy begins with them
pub copied_first : (there : ℕ) (sectors copied zeros : List Block) → there ≡ min (length sectors) TABLE_SECTORS → copied ≡ take there sectors
    → take there (copied ++ drop there zeros) ≡ take there sectors
copied_first there sectors copied zeros is same =
    take_at copied (drop there zeros) there (ap length same ∙ length-take-le there sectors (omega (arith, is))) ∙ same

-- where the table that is shown has no record of the name, no volume has it
no_record : (extents : ExtentLayout) (sectors : List Block) (volumes : VolumeMap) (name : List ℕ) (table : VolumeTable) (shows : Shows extents sectors volumes)
    → table ≡ shows.table
    → (HasRecord table.records name → ⊥) → blocks_of name volumes.volumes ≡ None
no_record extents sectors volumes name table shows same none =
    absent_is_shown extents sectors volumes name shows (λ number entry used named.
    none (record { number = number; entry = entry; used = ap (λ (t : VolumeTable). record_of t.records number) same ∙ used; named = named }))

-- so it has no number of blocks
pub no_count : (extents : ExtentLayout) (sectors : List Block) (volumes : VolumeMap) (name : List ℕ) (table : VolumeTable)
    (shows : Shows extents sectors volumes)
    → table ≡ shows.table
    → (HasRecord table.records name → ⊥) → block_count name volumes ≡ None
no_count extents sectors volumes name table shows same none = ap (option_map length) (no_record extents sectors volumes name table shows same none)

-- and no block
pub no_volume : (extents : ExtentLayout) (sectors : List Block) (volumes : VolumeMap) (name : List ℕ) (at : ℕ) (table : VolumeTable)
    (shows : Shows extents sectors volumes) → table ≡ shows.table
    → (HasRecord table.records name → ⊥) → block_at name at volumes ≡ None
no_volume extents sectors volumes name at table shows same none =
    ap (option_and_then (λ blocks. slice_get blocks at)) (no_record extents sectors volumes name table shows same none)

-- the volume of a record that was found
record IsFound (extents : ExtentLayout) (table : VolumeTable) (sectors : List Block) (volumes : VolumeMap) (name : List ℕ) (number count : ℕ) : Type 0 where
  blocks : List Block
  is : blocks_of name volumes.volumes ≡ Some blocks
  as_long : length blocks ≡ count
  whole : All IsBlock blocks
  stand : (at extent : ℕ) → at < count → IsAt table.extents extent number (place_of extents at)
      → get_or sectors (sector_of_block extents extent at) [] ≡ get_or blocks at []

is_found : (extents : ExtentLayout) (sectors : List Block) (volumes : VolumeMap) (name : List ℕ) (number count : ℕ) (table : VolumeTable)
    (shows : Shows extents sectors volumes) → table ≡ shows.table
    → IsRecordFor table.records name number count → IsFound extents table sectors volumes name number count
is_found extents sectors volumes name number count table shows same found =
    let used : record_of shows.table.records number ≡ Some found.entry = ap (λ (t : VolumeTable). record_of t.records number) (sym same) ∙ found.used in
    let was : IsOfVolume extents shows.table.extents sectors volumes.volumes number found.entry = shows.shown.used number found.entry used in
    let is : blocks_of name volumes.volumes ≡ Some was.blocks = ap (λ n. blocks_of n volumes.volumes) (sym found.named) ∙ was.named in
    let volume : IsVolume (most_blocks extents.blocks) volumes.version (record { name = name; blocks = was.blocks }) =
    found_has (IsVolume (most_blocks extents.blocks) volumes.version) name volumes.volumes was.blocks shows.limits.each is in
    record {
      blocks = was.blocks;
      is = is;
      as_long = was.as_long ∙ found.as_long;
      whole = volume.whole;
      stand = λ at extent within at_extent.
          was.stand at extent (omega (arith, within, was.as_long, found.as_long))
          (subst (λ (t : VolumeTable). IsAt t.extents extent number (place_of extents at)) same at_extent);
    }

-- it has as many blocks as its record says
pub found_count : (extents : ExtentLayout) (sectors : List Block) (volumes : VolumeMap) (name : List ℕ) (number count : ℕ) (table : VolumeTable)
    (shows : Shows extents sectors volumes) → table ≡ shows.table
    → IsRecordFor table.records name number count → Some count ≡ block_count name volumes
found_count extents sectors volumes name number count table shows same found =
    let volume = is_found extents sectors volumes name number count table shows same found in
    rw volume.is (ap Some (sym volume.as_long))

-- no block after them
pub no_block : (extents : ExtentLayout) (sectors : List Block) (volumes : VolumeMap) (name : List ℕ) (number count at : ℕ) (table : VolumeTable)
    (shows : Shows extents sectors volumes) → table ≡ shows.table
    → IsRecordFor table.records name number count → count ≤ at → block_at name at volumes ≡ None
no_block extents sectors volumes name number count at table shows same found beyond =
    let volume = is_found extents sectors volumes name number count table shows same found in
    rw volume.is (slice_get_past volume.blocks at (omega (arith, beyond, volume.as_long)))

-- and an extent for each of them
pub has_extent : (extents : ExtentLayout) (name : List ℕ) (number count at : ℕ) (table : VolumeTable)
    → ∥ HaveTheirPlaces extents.blocks table.records table.extents ∥₁ → IsRecordFor table.records name number count → at < count
    → ((extent : ℕ) → IsAt table.extents extent number (place_of extents at) → ⊥) → ⊥
has_extent extents name number count at table places found within none = ∥∥₁_elim places (hlevel props) (λ placed.
    let has : HasPlaces table.extents number (extents_of extents.blocks (record_of table.records number)) = placed number in
    let takes : extents_of extents.blocks (record_of table.records number) ≡ extents_for extents.blocks found.entry.blocks =
    ap (extents_of extents.blocks) found.used in
    let below = place_is_below extents.blocks found.entry.blocks at extents.limits.some (omega (arith, found.as_long, within)) in
    let here = has.extent_at (place_of extents at) (omega (arith, takes, below)) in
    none here.0 here.1)

-- what stands in a sector that is not empty
found_there : (sectors blocks : List Block) (sector at : ℕ) → All IsBlock blocks → at < length blocks → get_or sectors sector [] ≡ get_or blocks at []
    → slice_get sectors sector ≡ slice_get blocks at
found_there sectors blocks sector at whole within same =
    let long : length (get_or blocks at []) ≡ 512 = whole at [] within in
    let there : sector < length sectors = ⊎_elim (λ below. below)
    (λ beyond. absurd (let none : get_or sectors sector [] ≡ [] = get_or_past sectors sector [] beyond in omega (arith, long, ap length (sym same ∙ none))))
    (cases_lt sector (length sectors)) in
    slice_get-get_or sectors sector [] there ∙ ap Some same ∙ sym (slice_get-get_or blocks at [] within)

-- what is read of a list by its place
pub read_item : {X : Type 0} (xs : List X) (i : ℕ) (r : Option (Bor X)) → IsItemAt xs i r → option_copied r ≡ slice_get xs i
read_item xs i None gets = sym (slice_get_past xs i gets.3)
read_item xs i (Some x) gets = sym (slice_get_read xs (length xs) i x.now refl gets.3.0 gets.1)

-- a block stands in its extent
pub block_stands : (extents : ExtentLayout) (sectors : List Block) (volumes : VolumeMap) (name : List ℕ) (number count at extent : ℕ) (table : VolumeTable)
    (shows : Shows extents sectors volumes) → table ≡ shows.table
    → IsRecordFor table.records name number count → at < count → IsAt table.extents extent number (place_of extents at)
    → slice_get sectors (sector_of_block extents extent at) ≡ block_at name at volumes
block_stands extents sectors volumes name number count at extent table shows same found within at_extent =
    let volume = is_found extents sectors volumes name number count table shows same found in
    rw volume.is (found_there sectors volume.blocks (sector_of_block extents extent at) at volume.whole (omega (arith, within, volume.as_long))
    (volume.stand at extent within at_extent))
