-- Whole stripes in which blocks of a volume lie, that one entry makes zero.
use Rattle.std.proofs.Common.{◌≡◌, ◌≢◌, inl, inr, ℕ, ◌+◌, ◌-◌, ◌*◌, ◌/◌, ◌%◌, ◌<◌, ◌≤◌, List, [], length, Option, refl, sym, ◌∙◌, ap, subst, arith}
use Rattle.std.specs.Prelude.{slice_index_or}
use Rattle.std.proofs.Math.Nat.{div-div-eq-div-mul, mul-div_cancel}
use Rattle.std.proofs.lemmas.Bool.{cases_lt}
use Rattle.std.proofs.lemmas.Nat.{div-add-mod', div-mul-add, div_below, mod-mul-add, mod_below, mul-le}
use Rattle.std.proofs.lemmas.List.{get_or-replicate, length-replicate}
use Rattle.layout_map.specs.declared.geometry.Geometry.{Geometry}
use Rattle.layout_map.specs.Placement.{data_sectors_of, rows_of, stripe_blocks}
use Rattle.layout_map.proofs.Places.{chunk_least, place_row_below, stripe_least}
use Rattle.entry_runs.specs.declared.run.Run.{Run}
use Rattle.batch.specs.ZeroRows.{AreNew, AreRowsOf, HasMore}
use Rattle.extents.proofs.Blocks.{sector_within}
use Rattle.extents.proofs.ExtentLawLemmas.{block_is_within, sector_is_one}
use Rattle.extents.proofs.OwnerLemmas.{owned_is_within}
use Rattle.parity.specs.Xor.{zero_sector}
use Rattle.parity.proofs.Laws.{zero_sector-replicate}
use Rattle.array_io.specs.Believed.ArrayCalls.{Answer, Commits, written}
use Rattle.array_io.specs.Believed.Views.{ArrayView, RestsOn}
use Rattle.superblock.specs.Cases.{Lost}
use Rattle.superblock.specs.declared.table.Table.{Table}
use Rattle.layout_map.specs.declared.format.Format.TheVariants.{Two}
use Rattle.entry_runs.specs.WrittenOut.{masks_of_runs, rows_of_runs}
use Rattle.extents.specs.SetExtents.{extents_in}
use Rattle.volume_table.specs.ListChanges.{Change, IsSameOr}
use Rattle.volume_table.proofs.ListChanges.{changes_commit, changes_more, rests_long}
use Rattle.volume_table.proofs.TableSizes.{room_for}
use Rattle.array_io.specs.Believed.ZeroRows.{MayZero, row_of_logical, zeros_in}
use Rattle.array_io.specs.Steps.FormingRows.{logical_at}
use Rattle.array_io.proofs.Commits.FormedEntry.{written_given}
use Rattle.array_io.proofs.Commits.ZeroRows.{zeros_apart, zeros_are_zero, zeros_have, zeros_in_rows}
use Rattle.extents.specs.declared.extent_layout.ExtentLayout.{ExtentLayout}
use Rattle.extents.specs.declared.owned.Owned.{Owned}
use Rattle.extents.specs.ExtentMaps.{HasPlace, IsWhere, place_of, sector_of_block}
use Rattle.extents.specs.Owners.{IsAt}
use Rattle.volume_table.specs.StoreChanges.{AllPlaced, IsWrittenAt}
use Rattle.volume_table.specs.Volumes.{Block, zero_block}
use Rattle.volume_table.specs.VolumeStep.{zero_blocks}
use Rattle.volume_table.specs.WholeStripes.{AreStripesOf, FillStripe, GathersStripes}
use Rattle.volume_table.specs.ZeroedRanges.{ZeroesTogether}
use Rattle.volume_table.proofs.WrittenSectors.{length-written, written_elsewhere}

-- a zero block is a zero sector
pub zero_is : zero_sector ≡ zero_block
unfolding zero_block
zero_is = sym (zero_sector-replicate 512 refl)

-- a row of a logical sector is in the sector's stripe
pub stripe_of_sector : (geometry : Geometry) (logical : ℕ)
    → row_of_logical geometry logical / geometry.chunk ≡ logical / stripe_blocks geometry.members geometry.chunk
stripe_of_sector geometry logical =
    let some : 0 < geometry.chunk = omega (arith, chunk_least geometry.limits) in
    div-mul-add (logical / geometry.chunk / (geometry.members - 1)) geometry.chunk (logical % geometry.chunk) (mod_below logical geometry.chunk some)
    ∙ div-div-eq-div-mul logical geometry.chunk (geometry.members - 1)

-- blocks of one extent lie one after another
block_after : (extents : ExtentLayout) (extent block n : ℕ) → block % extents.blocks + n < extents.blocks
    → (place_of extents (block + n) ≡ place_of extents block) × (sector_of_block extents extent (block + n) ≡ sector_of_block extents extent block + n)
block_after extents extent block n less =
    let each = extents.blocks in
    let q = block / each in
    let r = block % each in
    let whole : block + n ≡ q * each + (r + n) = omega (arith, div-add-mod' block each) in
    let rest : (block + n) % each ≡ r + n = ap (λ (b : ℕ). b % each) whole ∙ mod-mul-add q each (r + n) less in
    (ap (λ (b : ℕ). b / each) whole ∙ div-mul-add q each (r + n) less, omega (arith, rest))

-- so those from the first of a stripe on fill it, where they are of one extent
pub fills_stripe : (geometry : Geometry) (extents : ExtentLayout) (owners : List (Option Owned)) (number block logical blocks : ℕ)
    → blocks ≡ stripe_blocks geometry.members geometry.chunk → block % extents.blocks + blocks ≤ extents.blocks → logical % blocks ≡ 0
    → IsWhere extents owners number block logical → FillStripe geometry extents owners number block (logical / blocks)
fills_stripe geometry extents owners number block logical blocks same fits first is_there n extent less here =
    let after = block_after extents extent block n (omega (arith, fits, less, same)) in
    let at = is_there extent (subst (λ (p : ℕ). IsAt owners extent number p) after.0 here) in
    after.1 ∙ ap (λ (s : ℕ). s + n) (sym at ∙ sym (div-add-mod' logical blocks) ∙ ap (λ (r : ℕ). logical / blocks * blocks + r) first)
    ∙ omega_add (logical / blocks) blocks (stripe_blocks geometry.members geometry.chunk) n same
  where
    omega_add : (k one other n : ℕ) → one ≡ other → k * one + 0 + n ≡ k * other + n
    omega_add k one other n same = omega (arith, ap (λ (w : ℕ). k * w) same)

module _ (geometry : Geometry) (extents : ExtentLayout) (owners : List (Option Owned)) (number at end : ℕ) (rows : List ℕ)
    (are : AreStripesOf geometry extents owners number at end rows) (all_placed : AllPlaced extents owners number at end) (order : at ≤ end)
    (V : List Block) (long : length V ≡ data_sectors_of geometry.members geometry.chunk geometry.stripes)
    (within : (block extent : ℕ) → at ≤ block → block < end → IsAt owners extent number (place_of extents block)
    → sector_of_block extents extent block < length V) where
  abbrev stripe : ℕ
  stripe = stripe_blocks geometry.members geometry.chunk

  abbrev zeros : List (ℕ × Block)
  zeros = zeros_in geometry rows

  some_blocks : 0 < stripe
  some_blocks = omega (arith, stripe_least geometry.members geometry.chunk geometry.limits.members_least (chunk_least geometry.limits))

  inside : (j extent : ℕ) → j < length (zero_blocks (end - at)) → IsAt owners extent number (place_of extents (at + j))
      → slice_index_or (written V zeros) (sector_of_block extents extent (at + j)) [] ≡ slice_index_or (zero_blocks (end - at)) j []
  inside j extent below here =
      let few : j < end - at = omega (arith, below, length-replicate (end - at) zero_block) in
      let sector = sector_of_block extents extent (at + j) in
      let there : sector < length V = within (at + j) extent (omega arith) (omega (arith, few)) here in
      let row = are.complete (at + j) extent (omega arith) (omega (arith, few)) here in
      let has = zeros_have geometry rows sector row.place (omega (arith, there, long)) row.within (sym row.is) in
      ap (λ (s : ℕ). slice_index_or (written V zeros) s []) (sym has.is)
      ∙ written_given V zeros has.which (zeros_apart geometry rows) has.within (omega (arith, has.is, there))
      ∙ zeros_are_zero geometry rows has.which has.within ∙ zero_is
      ∙ sym (get_or-replicate (end - at) j zero_block [] few)

  -- a sector of one of the stripes is one of the blocks
  none_beside : (sector : ℕ) → ((j extent : ℕ) → j < length (zero_blocks (end - at)) → IsAt owners extent number (place_of extents (at + j))
      → sector ≢ sector_of_block extents extent (at + j))
      → (i : ℕ) → i < length zeros → logical_at zeros i ≢ sector
  none_beside sector none i below same =
      let row = zeros_in_rows geometry rows i below in
      let is = are.sound row.place row.within in
      let of_stripe : sector / stripe ≡ is.stripe =
      ap (λ (s : ℕ). s / stripe) (sym same) ∙ sym (stripe_of_sector geometry (logical_at zeros i)) ∙ ap (λ (r : ℕ). r / geometry.chunk) (sym row.is)
      ∙ is.of_stripe in
      let n = sector % stripe in
      let less : n < stripe = mod_below sector stripe some_blocks in
      let place : HasPlace owners number (place_of extents (is.block + n)) = all_placed (is.block + n) (omega (arith, is.least))
      (omega (arith, less, is.most)) in
      let back : at + (is.block + n - at) ≡ is.block + n = omega (arith, is.least) in
      none (is.block + n - at) place.0 (omega (arith, less, is.most, is.least, length-replicate (end - at) zero_block))
      (subst (λ (b : ℕ). IsAt owners place.0 number (place_of extents b)) (sym back) place.1)
      (sym (div-add-mod' sector stripe) ∙ ap (λ (k : ℕ). k * stripe + n) of_stripe ∙ sym (is.fill n place.0 less place.1)
      ∙ ap (λ (b : ℕ). sector_of_block extents place.0 b) (sym back))

  -- with the rows zero, these blocks of the volume are, and no other
  pub stripes_written : IsWrittenAt extents owners number at (zero_blocks (end - at)) V (written V zeros)
  stripes_written = record {
    as_long = length-written V zeros;
    written = record {
      inside = inside;
      outside = λ sector none. written_elsewhere V zeros sector (none_beside sector none);
    };
  }

-- ---- stripes that are gathered

-- none yet
pub none_gathered : (geometry : Geometry) (extents : ExtentLayout) (owners : List (Option Owned)) (number at : ℕ)
    → GathersStripes geometry extents owners number at at []
none_gathered geometry extents owners number at = record {
  sound = λ row has. absurd (omega (arith, has.within));
  complete = λ block extent least less. absurd (omega (arith, least, less));
}

-- a stripe of the set has rows of the set
pub stripe_in_set : (geometry : Geometry) (stripe : ℕ)
    → stripe * stripe_blocks geometry.members geometry.chunk < data_sectors_of geometry.members geometry.chunk geometry.stripes
    → stripe * geometry.chunk + geometry.chunk ≤ rows_of geometry.chunk geometry.stripes
stripe_in_set geometry stripe below =
    let blocks = stripe_blocks geometry.members geometry.chunk in
    let some : 0 < blocks =
    omega (arith, stripe_least geometry.members geometry.chunk geometry.limits.members_least (chunk_least geometry.limits)) in
    let row = row_of_logical geometry (stripe * blocks) in
    let row_in : row < rows_of geometry.chunk geometry.stripes = place_row_below geometry.limits below (record { on_member = refl; on_row = refl }) in
    let of_row : row / geometry.chunk ≡ stripe = stripe_of_sector geometry (stripe * blocks) ∙ mul-div_cancel stripe some in
    let less : stripe < geometry.stripes =
    omega (arith, sym of_row, div_below row geometry.chunk geometry.stripes (omega (arith, chunk_least geometry.limits)) row_in) in
    omega (arith, mul-le (stripe + 1) geometry.chunk geometry.stripes geometry.chunk (omega (arith, less)) (omega arith))

module _ (geometry : Geometry) (extents : ExtentLayout) (owners : List (Option Owned)) (number at end stripe : ℕ) (runs : List Run)
    (gathers : GathersStripes geometry extents owners number at end runs) (order : at ≤ end)
    (placed : (block : ℕ) → at ≤ block → block < end + stripe_blocks geometry.members geometry.chunk → HasPlace owners number (place_of extents block))
    (fill : FillStripe geometry extents owners number end stripe) where
  abbrev blocks_in : ℕ
  blocks_in = stripe_blocks geometry.members geometry.chunk

  has_blocks : 0 < blocks_in
  has_blocks = omega (arith, stripe_least geometry.members geometry.chunk geometry.limits.members_least (chunk_least geometry.limits))

  has_rows : 0 < geometry.chunk
  has_rows = omega (arith, chunk_least geometry.limits)

  -- the rows of the stripe
  in_stripe : (row : ℕ) → stripe * geometry.chunk ≤ row → row < stripe * geometry.chunk + geometry.chunk → row / geometry.chunk ≡ stripe
  in_stripe row least below =
      let back : row ≡ stripe * geometry.chunk + (row - stripe * geometry.chunk) = omega (arith, least) in
      ap (λ (r : ℕ). r / geometry.chunk) back
      ∙ div-mul-add stripe geometry.chunk (row - stripe * geometry.chunk) (omega (arith, least, below))

  -- a block whose sector is the first of the stripe
  first_there : (block : ℕ) → FillStripe geometry extents owners number block stripe → IsWhere extents owners number block (stripe * blocks_in)
  first_there block fills extent here =
      let plain : block + 0 ≡ block = omega arith in
      omega (
        arith,
        fills 0 extent has_blocks (subst (λ (b : ℕ). IsAt owners extent number (place_of extents b)) (sym plain) here),
        ap (λ (b : ℕ). sector_of_block extents extent b) plain,
      )

  -- are not among those that were gathered before
  pub stripe_is_new : AreNew runs (stripe * geometry.chunk) geometry.chunk
  stripe_is_new row least below has =
      let is = gathers.sound row has in
      let same : is.stripe ≡ stripe = sym is.of_stripe ∙ in_stripe row least below in
      let fills = subst (λ (s : ℕ). FillStripe geometry extents owners number is.block s) same is.fill in
      let one = sector_is_one extents owners number is.block number end (stripe * blocks_in)
      (placed is.block is.least (omega (arith, is.most, has_blocks))) (placed end order (omega (arith, has_blocks)))
      (first_there is.block fills) (first_there end fill) in
      omega (arith, one.1, is.most, has_blocks)

  -- With them the rows are those of one stripe more.
  pub one_stripe_more : (new : List Run) → HasMore runs (stripe * geometry.chunk) geometry.chunk new
      → GathersStripes geometry extents owners number at (end + blocks_in) new
  one_stripe_more new more = record {
    sound = λ row has. elim (more.only row has) [
      | inl before ↦
          let is = gathers.sound row before in
          record {
            block = is.block;
            stripe = is.stripe;
            least = is.least;
            most = omega (arith, is.most);
            of_stripe = is.of_stripe;
            fill = is.fill;
          }
      | inr here ↦ record {
        block = end;
        stripe = stripe;
        least = order;
        most = omega arith;
        of_stripe = in_stripe row here.0 here.1;
        fill = fill;
      }
    ];
    complete = λ block extent least less here. elim (cases_lt block end) [
      | inl before ↦ more.kept (row_of_logical geometry (sector_of_block extents extent block)) (gathers.complete block extent least before here)
      | inr from ↦
          let n = block - end in
          let back : end + n ≡ block = omega (arith, from) in
          let few : n < blocks_in = omega (arith, from, less) in
          let sector = sector_of_block extents extent block in
          let is : sector ≡ stripe * blocks_in + n = ap (λ (b : ℕ). sector_of_block extents extent b) (sym back)
          ∙ fill n extent few (subst (λ (b : ℕ). IsAt owners extent number (place_of extents b)) (sym back) here) in
          let row = row_of_logical geometry sector in
          let of_row : row / geometry.chunk ≡ stripe =
          stripe_of_sector geometry sector ∙ ap (λ (s : ℕ). s / blocks_in) is ∙ div-mul-add stripe blocks_in n few in
          let parts = div-add-mod' row geometry.chunk in
          let at_row : stripe * geometry.chunk + row % geometry.chunk ≡ row = ap (λ (k : ℕ). k * geometry.chunk + row % geometry.chunk) (sym of_row) ∙ parts in
          more.added row (omega (arith, at_row)) (omega (arith, at_row, mod_below row geometry.chunk has_rows))
    ];
  }

-- Written out they are rows of the stripes.
pub stripes_listed : (geometry : Geometry) (extents : ExtentLayout) (owners : List (Option Owned)) (number at end : ℕ) (runs : List Run) (rows masks : List ℕ)
    → GathersStripes geometry extents owners number at end runs → AreRowsOf runs rows masks → AreStripesOf geometry extents owners number at end rows
stripes_listed geometry extents owners number at end runs rows masks gathers are = record {
  sound = λ i within. gathers.sound (slice_index_or rows i 0) (are.each i within);
  complete = λ block extent least less here.
      are.all (row_of_logical geometry (sector_of_block extents extent block)) (gathers.complete block extent least less here);
}

-- ---- the rows of stripes that are gathered are rows of the set

-- the block whose sector is the first of a stripe
first_is_where : (geometry : Geometry) (extents : ExtentLayout) (owners : List (Option Owned)) (number block stripe : ℕ)
    → FillStripe geometry extents owners number block stripe
    → IsWhere extents owners number block (stripe * stripe_blocks geometry.members geometry.chunk)
first_is_where geometry extents owners number block stripe fills extent here =
    let plain : block + 0 ≡ block = omega arith in
    omega (
      arith,
      fills 0 extent (omega (arith, stripe_least geometry.members geometry.chunk geometry.limits.members_least (chunk_least geometry.limits)))
          (subst (λ (b : ℕ). IsAt owners extent number (place_of extents b)) (sym plain) here),
      ap (λ (b : ℕ). sector_of_block extents extent b) plain,
    )

-- a stripe that blocks of a volume fill has rows of the set
pub stripe_fits : (geometry : Geometry) (owners : List (Option Owned)) (number block stripe : ℕ) → length owners ≤ (extents_in geometry).count
    → HasPlace owners number (place_of (extents_in geometry) block) → FillStripe geometry (extents_in geometry) owners number block stripe
    → stripe * geometry.chunk + geometry.chunk ≤ rows_of geometry.chunk geometry.stripes
stripe_fits geometry owners number block stripe sized there fills =
    let extents = extents_in geometry in
    let within = block_is_within extents owners number block (stripe * stripe_blocks geometry.members geometry.chunk) there
    (first_is_where geometry extents owners number block stripe fills) in
    stripe_in_set geometry stripe (omega (arith, within.1, room_for geometry (length owners) sized))

-- there is room for its rows
pub rows_fit : (geometry : Geometry) (stripe : ℕ) → stripe * geometry.chunk + geometry.chunk ≤ rows_of geometry.chunk geometry.stripes
    → stripe * geometry.chunk + geometry.chunk < 4294967296
rows_fit geometry stripe fits = omega (arith, fits, geometry.limits.rows_fit)

module _ (table : Table) (owners : List (Option Owned)) (number at end : ℕ) (runs built : List Run)
    (sized : length owners ≤ (extents_in table.geometry).count) (some : at < end) (placed : AllPlaced (extents_in table.geometry) owners number at end)
    (gathers : GathersStripes table.geometry (extents_in table.geometry) owners number at end runs)
    (are : AreRowsOf runs (rows_of_runs built) (masks_of_runs built)) where
  abbrev geometry : Geometry
  geometry = table.geometry

  abbrev rows : List ℕ
  rows = rows_of_runs built

  row_in_set : (i : ℕ) → i < length rows → slice_index_or rows i 0 < rows_of geometry.chunk geometry.stripes
  row_in_set i within =
      let row = slice_index_or rows i 0 in
      let is = gathers.sound row (are.each i within) in
      let blocks = omega_some in
      let fits = stripe_fits geometry owners number is.block is.stripe sized (placed is.block is.least (omega (arith, is.most, blocks))) is.fill in
      let back : is.stripe * geometry.chunk + row % geometry.chunk ≡ row =
      ap (λ (k : ℕ). k * geometry.chunk + row % geometry.chunk) (sym is.of_stripe) ∙ div-add-mod' row geometry.chunk in
      omega (arith, fits, back, mod_below row geometry.chunk (omega (arith, chunk_least geometry.limits)))
    where
      omega_some : 0 < stripe_blocks table.geometry.members table.geometry.chunk
      omega_some = omega (
        arith,
        stripe_least table.geometry.members table.geometry.chunk table.geometry.limits.members_least
            (chunk_least table.geometry.limits),
      )

  -- they may be made zero
  pub may_zero : geometry.format ≡ Two → MayZero table built
  may_zero two =
      let first = placed at (omega arith) some in
      let has = gathers.complete at first.0 (omega arith) some first.1 in
      record {
        of_format = two;
        some = are.some (omega (arith, has.within));
        zeros = are.zeros;
        of_set = row_in_set;
      }

  -- and a commit of that makes the blocks zero, and changes nothing else
  pub stripes_zeroed : (honest : Type 0) (old new : ArrayView) (answer : Answer) → old.table ≡ table
      → Commits honest (zeros_in geometry rows) old new answer → ZeroesTogether honest (extents_in geometry) owners number at end old new answer
  stripes_zeroed honest old new answer same commits = record {
    changes = changes_more honest 1 1 (IsSameOr (λ V W. W ≡ written V (zeros_in geometry rows))) (λ V W. W ≡ written V (zeros_in geometry rows))
        (IsSameOr Zeroed) Zeroed old new answer (omega arith) (changes_commit honest (zeros_in geometry rows) old new answer commits)
        (λ lost V W rests passes. elim passes [
          | inl is ↦ inl is
          | inr is ↦ inr (is_zeroed lost V W rests is)
        ])
        is_zeroed;
    cause = commits.cause;
  }
    where
      Zeroed : Change
      Zeroed = IsWrittenAt (extents_in table.geometry) owners number at (zero_blocks (end - at))

      is_zeroed : (lost : Option Lost) (V W : List Block) → RestsOn old lost V → W ≡ written V (zeros_in table.geometry (rows_of_runs built)) → Zeroed V W
      is_zeroed lost V W rests is =
          let long : length V ≡ data_sectors_of table.geometry.members table.geometry.chunk table.geometry.stripes =
          rests_long old lost V rests ∙ ap (λ (t : Table). data_sectors_of t.geometry.members t.geometry.chunk t.geometry.stripes) same in
          subst (Zeroed V) (sym is) (stripes_written table.geometry (extents_in table.geometry) owners number at end (rows_of_runs built)
          (stripes_listed table.geometry (extents_in table.geometry) owners number at end runs (rows_of_runs built) (masks_of_runs built) gathers are) placed
          (omega arith) V long (λ block extent least less here.
          let within = sector_within (extents_in table.geometry) extent block (length owners)
          (owned_is_within owners extent number (place_of (extents_in table.geometry) block) here) in
          omega (arith, within, long, room_for table.geometry (length owners) sized)))
