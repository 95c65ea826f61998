-- Sectors in which blocks of a volume lie, that one entry makes zero.
use Rattle.std.proofs.Common.{◌≡◌, inl, inr, ℕ, ◌+◌, ◌-◌, ◌*◌, ◌<◌, ◌≤◌, List, [], length, Option, sym, ◌∙◌, ap, subst, arith}
use Rattle.std.specs.Prelude.{slice_index_or}
use Rattle.std.specs.List.{range_with_len}
use Rattle.std.proofs.lemmas.Bool.{cases_lt}
use Rattle.std.proofs.lemmas.List.{get_or-map, get_or-replicate, length-map, length-replicate}
use Rattle.std.proofs.lemmas.List.FromFn.{get_or-range_with_len, length-range_with_len}
use Rattle.std.proofs.lemmas.Nat.{div-add-mod'}
use Rattle.layout_map.specs.declared.geometry.Geometry.{Geometry}
use Rattle.layout_map.specs.Placement.{data_sectors_of}
use Rattle.superblock.specs.Cases.{Lost}
use Rattle.parity.specs.Xor.{zero_sector}
use Rattle.batch.specs.Places.{AreApart, Given, bytes_at, logical_at}
use Rattle.batch.specs.Staging.{IsStaged, sector_at}
use Rattle.batch.specs.ZeroSectors.{zeros_from}
use Rattle.array_io.specs.Believed.ArrayCalls.{Answer, Commits, written}
use Rattle.array_io.specs.Believed.Views.{ArrayView, RestsOn}
use Rattle.array_io.proofs.Commits.FormedEntry.{written_given}
use Rattle.extents.specs.declared.extent_layout.ExtentLayout.{ExtentLayout}
use Rattle.extents.specs.declared.owned.Owned.{Owned}
use Rattle.extents.specs.ExtentMaps.{HasPlace, IsWhere, place_of, sector_of_block}
use Rattle.extents.specs.Owners.{IsAt}
use Rattle.extents.specs.SetExtents.{extents_in}
use Rattle.extents.proofs.Blocks.{sector_within}
use Rattle.extents.proofs.OwnerLemmas.{owned_is_within}
use Rattle.volume_table.specs.ListChanges.{Change, IsSameOr}
use Rattle.volume_table.specs.StoreChanges.{AllPlaced, IsWrittenAt}
use Rattle.volume_table.specs.Volumes.{Block, zero_block}
use Rattle.volume_table.specs.VolumeStep.{zero_blocks}
use Rattle.volume_table.specs.ZeroedRanges.{GathersBlocks, ZeroesTogether}
use Rattle.volume_table.proofs.ListChanges.{changes_commit, changes_more, rests_long}
use Rattle.volume_table.proofs.TableSizes.{room_for}
use Rattle.volume_table.proofs.WholeStripes.{zero_is}
use Rattle.volume_table.proofs.WrittenSectors.{length-written, written_elsewhere}

-- ---- sectors from one on

length-zeros_from : (first count : ℕ) → length (zeros_from first count) ≡ count
length-zeros_from first count =
    length-map (range_with_len first count) (λ (logical : ℕ). (logical, zero_sector)) ∙ length-range_with_len first count

zeros_from_at : (first count i : ℕ) → i < count → sector_at (zeros_from first count) i ≡ (first + i, zero_sector)
zeros_from_at first count i below =
    get_or-map (λ (logical : ℕ). (logical, zero_sector)) (range_with_len first count) i 0 (0, []) (omega (arith, below, length-range_with_len first count))
    ∙ ap (λ (logical : ℕ). (logical, zero_sector)) (get_or-range_with_len first count i 0 below)

-- ---- gathering

-- none yet
pub none_gathered : (extents : ExtentLayout) (owners : List (Option Owned)) (number at : ℕ) → GathersBlocks extents owners number at at []
none_gathered extents owners number at = record {
  sound = λ k below. absurd (omega (arith, below));
  complete = λ block extent least less. absurd (omega (arith, least, less));
}

-- blocks at one place lie one after another
block_beside : (extents : ExtentLayout) (extent block n : ℕ) → place_of extents (block + n) ≡ place_of extents block
    → sector_of_block extents extent (block + n) ≡ sector_of_block extents extent block + n
block_beside extents extent block n same =
    omega (arith, div-add-mod' block extents.blocks, div-add-mod' (block + n) extents.blocks, ap (λ (p : ℕ). p * extents.blocks) same)

module _ (extents : ExtentLayout) (owners : List (Option Owned)) (number at end count first : ℕ) (old new : Given)
    (gathers : GathersBlocks extents owners number at end old) (order : at ≤ end) (there : HasPlace owners number (place_of extents end))
    (where_is : IsWhere extents owners number end first)
    (one : (block : ℕ) → end ≤ block → block < end + count → place_of extents block ≡ place_of extents end)
    (staged : IsStaged old (zeros_from first count) new) where
  -- the sector of one more block
  sector_is : (n extent : ℕ) → n < count → IsAt owners extent number (place_of extents (end + n)) → sector_of_block extents extent (end + n) ≡ first + n
  sector_is n extent below here =
      let same = one (end + n) (omega arith) (omega (arith, below)) in
      block_beside extents extent end n same
      ∙ ap (λ (s : ℕ). s + n) (sym (where_is extent (subst (λ (p : ℕ). IsAt owners extent number p) same here)))

  -- With the sectors of so many blocks more they are those of all.
  pub some_more : GathersBlocks extents owners number at (end + count) new
  some_more = record {
    sound = λ k below. elim (staged.only k below) [
      | inl earlier ↦
          let is = gathers.sound k earlier in
          record {
            block = is.block;
            extent = is.extent;
            least = is.least;
            most = omega (arith, is.most);
            at = is.at;
            is = staged.kept k earlier ∙ is.is;
          }
      | inr given ↦
          let n = given.which in
          let few : n < count = omega (arith, given.within, length-zeros_from first count) in
          let same = one (end + n) (omega arith) (omega (arith, few)) in
          let here : IsAt owners there.0 number (place_of extents (end + n)) = subst (λ (p : ℕ). IsAt owners there.0 number p) (sym same) there.1 in
          record {
            block = end + n;
            extent = there.0;
            least = omega (arith, order);
            most = omega (arith, few);
            at = here;
            is = sym given.is ∙ ap (λ (s : ℕ × Block). s.0) (zeros_from_at first count n few) ∙ sym (sector_is n there.0 few here);
          }
    ];
    complete = λ block extent least less here. elim (cases_lt block end) [
      | inl before ↦
          let has = gathers.complete block extent least before here in
          record { which = has.which; within = omega (arith, has.within, staged.least); is = staged.kept has.which has.within ∙ has.is }
      | inr from ↦
          let n = block - end in
          let few : n < count = omega (arith, from, less) in
          let back : end + n ≡ block = omega (arith, from) in
          let has = staged.taken n (omega (arith, few, length-zeros_from first count)) in
          record {
            which = has.which;
            within = has.within;
            is = ap (λ (s : ℕ × Block). s.0) has.is ∙ ap (λ (s : ℕ × Block). s.0) (zeros_from_at first count n few)
                ∙ sym (sector_is n extent few (subst (λ (b : ℕ). IsAt owners extent number (place_of extents b)) (sym back) here))
                ∙ ap (λ (b : ℕ). sector_of_block extents extent b) back;
          }
    ];
  }

-- the sectors of so many blocks at one place are of the set
pub blocks_in_set : (geometry : Geometry) (owners : List (Option Owned)) (number block count first : ℕ) → length owners ≤ (extents_in geometry).count
    → HasPlace owners number (place_of (extents_in geometry) block) → IsWhere (extents_in geometry) owners number block first → 1 ≤ count
    → ((other : ℕ) → block ≤ other → other < block + count → place_of (extents_in geometry) other ≡ place_of (extents_in geometry) block)
    → first + count ≤ data_sectors_of geometry.members geometry.chunk geometry.stripes
blocks_in_set geometry owners number block count first sized there where_is some one =
    let extents = extents_in geometry in
    let last : ℕ = count - 1 in
    let same = one (block + last) (omega arith) (omega (arith, some)) in
    let within = sector_within extents there.0 (block + last) (length owners) (owned_is_within owners there.0 number (place_of extents block) there.1) in
    omega (arith, within, block_beside extents there.0 block last same, where_is there.0 there.1, some, room_for geometry (length owners) sized)

-- ---- a commit of them

module _ (extents : ExtentLayout) (owners : List (Option Owned)) (number at end : ℕ) (sectors : Given)
    (gathers : GathersBlocks extents owners number at end sectors) (apart : AreApart sectors)
    (zero : (k : ℕ) → k < length sectors → bytes_at sectors k ≡ zero_sector) (placed : AllPlaced extents owners number at end)
    (V : List Block) (inside : (k : ℕ) → k < length sectors → logical_at sectors k < length V) where
  -- with the sectors zero, the blocks are, and nothing else is changed
  pub gathered_written : IsWrittenAt extents owners number at (zero_blocks (end - at)) V (written V sectors)
  gathered_written = record {
    as_long = length-written V sectors;
    written = record {
      inside = λ j extent below here.
          let few : j < end - at = omega (arith, below, length-replicate {A = Block} (end - at) zero_block) in
          let has = gathers.complete (at + j) extent (omega arith) (omega (arith, few)) here in
          ap (λ (s : ℕ). slice_index_or (written V sectors) s []) (sym has.is)
          ∙ written_given V sectors has.which apart has.within (inside has.which has.within)
          ∙ zero has.which has.within ∙ zero_is ∙ sym (get_or-replicate {A = Block} (end - at) j zero_block [] few);
      outside = λ sector none. written_elsewhere V sectors sector (λ k below same.
          let is = gathers.sound k below in
          let back : at + (is.block - at) ≡ is.block = omega (arith, is.least) in
          none (is.block - at) is.extent (omega (arith, is.least, is.most, length-replicate {A = Block} (end - at) zero_block))
          (subst (λ (b : ℕ). IsAt owners is.extent number (place_of extents b)) (sym back) is.at)
          (sym same ∙ is.is ∙ ap (λ (b : ℕ). sector_of_block extents is.extent b) (sym back)));
    };
  }

-- a commit of them makes the blocks zero together
pub gathered_zeroed : (honest : Type 0) (owners : List (Option Owned)) (number at end : ℕ) (sectors : Given) (old new : ArrayView) (answer : Answer)
    → GathersBlocks (extents_in old.table.geometry) owners number at end sectors → AreApart sectors
    → ((k : ℕ) → k < length sectors → bytes_at sectors k ≡ zero_sector)
    → ((k : ℕ) → k < length sectors
    → logical_at sectors k < data_sectors_of old.table.geometry.members old.table.geometry.chunk old.table.geometry.stripes)
    → AllPlaced (extents_in old.table.geometry) owners number at end → Commits honest sectors old new answer
    → ZeroesTogether honest (extents_in old.table.geometry) owners number at end old new answer
gathered_zeroed honest owners number at end sectors old new answer gathers apart zero of_set placed commits = record {
  changes = changes_more honest 1 1 (IsSameOr (λ V W. W ≡ written V sectors)) (λ V W. W ≡ written V sectors) (IsSameOr Zeroed) Zeroed old new answer
      (omega arith) (changes_commit honest sectors old new answer commits)
      (λ lost V W rests passes. elim passes [
        | inl same ↦ inl same
        | inr is ↦ inr (is_zeroed lost V W rests is)
      ])
      is_zeroed;
  cause = commits.cause;
}
  where
    Zeroed : Change
    Zeroed = IsWrittenAt (extents_in old.table.geometry) owners number at (zero_blocks (end - at))

    is_zeroed : (lost : Option Lost) (V W : List Block) → RestsOn old lost V → W ≡ written V sectors → Zeroed V W
    is_zeroed lost V W rests is = subst (Zeroed V) (sym is)
        (gathered_written (extents_in old.table.geometry) owners number at end sectors gathers apart zero placed V
        (λ k below. omega (arith, of_set k below, rests_long old lost V rests)))
