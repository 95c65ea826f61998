-- Blocks with the logical sectors in which they lie: they may be committed, and are written then.
use Rattle.std.proofs.Common.{◌≡◌, inl, inr, ℕ, ◌+◌, ◌*◌, ◌<◌, ◌≤◌, List, [], length, Option, refl, sym, ◌∙◌, ap, subst, arith}
use Rattle.std.specs.Prelude.{slice_index_or}
use Rattle.layout_map.specs.declared.geometry.Geometry.{Geometry}
use Rattle.layout_map.specs.Placement.{data_sectors_of}
use Rattle.batch.specs.Places.{AreOfSet}
use Rattle.extents.specs.declared.extent_layout.ExtentLayout.{ExtentLayout}
use Rattle.extents.specs.SetExtents.{extents_in}
use Rattle.extents.specs.declared.owned.Owned.{Owned}
use Rattle.extents.specs.ExtentMaps.{HasPlace, IsWhere, place_of}
use Rattle.extents.proofs.ExtentLawLemmas.{block_is_within, sector_is_one}
use Rattle.superblock.specs.declared.table.Table.{Table}
use Rattle.superblock.specs.Cases.{Lost}
use Rattle.array_io.specs.Believed.ArrayCalls.{Answer, Commits, MayCommit, written}
use Rattle.array_io.specs.Steps.FormingRows.{AreApart}
use Rattle.array_io.specs.Believed.Views.{ArrayView, RestsOn}
use Rattle.array_io.proofs.Commits.FormedEntry.{written_given}
use Rattle.array_io.proofs.Commits.FormedRows.{length-written, written_elsewhere}
use Rattle.volume_table.specs.Volumes.{Block}
use Rattle.volume_table.specs.ListChanges.{ChangesList, IsSameOr}
use Rattle.volume_table.specs.StoreChanges.{AllPlaced, ArePlaced, IsWrittenAt, no_sector}
use Rattle.volume_table.proofs.ListChanges.{changes_commit, changes_more, rests_long}
use Rattle.volume_table.proofs.TableSizes.{room_for}
use Rattle.volume_table.specs.declared.event.TheConstants.{MOST_BLOCKS_AT_ONCE}

module _ (extents : ExtentLayout) (owners : List (Option Owned)) (number at : ℕ) (blocks : List Block) (sectors : List (ℕ × Block))
    (placed : AllPlaced extents owners number at (at + length blocks))
    (are : ArePlaced extents owners number at blocks sectors) where
  -- the logical sector of the j-th block
  sector_at : ℕ → ℕ
  sector_at j = (slice_index_or sectors j no_sector).0

  has_place : (j : ℕ) → j < length blocks → HasPlace owners number (place_of extents (at + j))
  has_place j within = placed (at + j) (omega arith) (omega (arith, within))

  pub placed_apart : AreApart sectors
  placed_apart i j less within same =
      let of_blocks : j < length blocks = omega (arith, within, are.as_many) in
      let below : i < length blocks = omega (arith, less, of_blocks) in
      let one = sector_is_one extents owners number (at + i) number (at + j) (slice_index_or sectors j no_sector).0 (has_place i below) (has_place j of_blocks)
      (subst (λ (s : ℕ). IsWhere extents owners number (at + i) s) same (are.at_sector i below)) (are.at_sector j of_blocks) in
      omega (arith, less, one.1)

  pub placed_within : (i : ℕ) → i < length sectors → (slice_index_or sectors i no_sector).0 < extents.first + length owners * extents.blocks
  placed_within i within =
      let below : i < length blocks = omega (arith, within, are.as_many) in
      (block_is_within extents owners number (at + i) (slice_index_or sectors i no_sector).0 (has_place i below) (are.at_sector i below)).1

  -- written, they are so in place of the volume's blocks
  written_at : (V : List Block) → extents.first + length owners * extents.blocks ≤ length V
      → IsWrittenAt extents owners number at blocks V (written V sectors)
  written_at V room = record {
    as_long = length-written V sectors;
    written = record {
      inside = λ j extent within here.
          let of_sectors : j < length sectors = omega (arith, within, are.as_many) in
          ap (λ (s : ℕ). slice_index_or (written V sectors) s []) (sym (are.at_sector j within extent here))
          ∙ written_given V sectors j placed_apart of_sectors (omega (arith, room, placed_within j of_sectors))
          ∙ are.bytes j within;
      outside = λ sector none. written_elsewhere V sectors sector (λ j within same.
          let of_blocks : j < length blocks = omega (arith, within, are.as_many) in
          let place = has_place j of_blocks in
          none j place.0 of_blocks place.1 (sym same ∙ are.at_sector j of_blocks place.0 place.1));
    };
  }

-- they are of the set
pub placed_of_set : (geometry : Geometry) (extents : ExtentLayout) (owners : List (Option Owned)) (number at : ℕ) (blocks : List Block)
    (sectors : List (ℕ × Block)) → extents ≡ extents_in geometry → length owners ≤ extents.count
    → AllPlaced extents owners number at (at + length blocks) → ArePlaced extents owners number at blocks sectors → AreOfSet geometry sectors
placed_of_set geometry extents owners number at blocks sectors same sized placed are = λ i within. omega (
  arith,
  placed_within extents owners number at blocks sectors placed are i within,
  subst (λ (e : ExtentLayout). e.first + length owners * e.blocks ≤ data_sectors_of geometry.members geometry.chunk geometry.stripes) (sym same)
      (room_for geometry (length owners) (subst (λ (e : ExtentLayout). length owners ≤ e.count) same sized)),
)

-- they may be committed
pub placed_may_commit : (table : Table) (owners : List (Option Owned)) (number at : ℕ) (blocks : List Block) (sectors : List (ℕ × Block))
    → length owners ≤ (extents_in table.geometry).count
    → 1 ≤ length blocks → length blocks ≤ MOST_BLOCKS_AT_ONCE → AllPlaced (extents_in table.geometry) owners number at (at + length blocks)
    → ArePlaced (extents_in table.geometry) owners number at blocks sectors → MayCommit table sectors
placed_may_commit table owners number at blocks sectors sized least most placed are = record {
  least = omega (arith, least, are.as_many);
  most = omega (arith, most, are.as_many);
  of_set = placed_of_set table.geometry (extents_in table.geometry) owners number at blocks sectors refl sized placed are;
  apart = placed_apart (extents_in table.geometry) owners number at blocks sectors placed are;
}

-- a commit of them
pub placed_commit : (honest : Type 0) (owners : List (Option Owned)) (number at : ℕ) (blocks : List Block) (sectors : List (ℕ × Block))
    (old new : ArrayView) (answer : Answer)
    → length owners ≤ (extents_in old.table.geometry).count → AllPlaced (extents_in old.table.geometry) owners number at (at + length blocks)
    → ArePlaced (extents_in old.table.geometry) owners number at blocks sectors
    → Commits honest sectors old new answer
    → ChangesList honest 1 (IsSameOr (IsWrittenAt (extents_in old.table.geometry) owners number at blocks))
    (IsWrittenAt (extents_in old.table.geometry) owners number at blocks) old new answer
placed_commit honest owners number at blocks sectors old new answer sized placed are commits =
    changes_more honest 1 1 (IsSameOr (λ V W. W ≡ written V sectors)) (λ V W. W ≡ written V sectors)
    (IsSameOr (IsWrittenAt extents owners number at blocks)) (IsWrittenAt extents owners number at blocks) old new answer
    (omega arith) (changes_commit honest sectors old new answer commits)
    (λ lost V W rests passes. elim passes [
      | inl same ↦ inl same
      | inr is ↦ inr (is_written lost V W rests is)
    ])
    is_written
  where
    extents : ExtentLayout
    extents = extents_in old.table.geometry

    is_written : (lost : Option Lost) (V W : List Block) → RestsOn old lost V → W ≡ written V sectors → IsWrittenAt extents owners number at blocks V W
    is_written lost V W rests is = subst (IsWrittenAt extents owners number at blocks V) (sym is)
        (written_at extents owners number at blocks sectors placed are V
        (omega (arith, room_for old.table.geometry (length owners) sized, rests_long old lost V rests)))
