-- Blocks of a volume are read one after another.
use Rattle.std.proofs.Common.{◌≡◌, ⊎_elim, ℕ, ◌+◌, ◌<◌, ◌≤◌, List, [], length, get_or, set, Option, Ok, refl, sym, ap, subst, ◌∙◌, arith}
use Rattle.std.proofs.lemmas.Bool.{cases_eq}
use Rattle.std.proofs.lemmas.List.{get_or-set_same, get_or-set_other}
use Rattle.sector_model.specs.Bank.{IsTrueTo}
use Rattle.sector_model.specs.History.{Bytes}
use Rattle.extents.specs.declared.extent_layout.ExtentLayout.{ExtentLayout}
use Rattle.extents.specs.SetExtents.{extents_in}
use Rattle.extents.specs.declared.owned.Owned.{Owned}
use Rattle.extents.specs.ExtentMaps.{HasPlace, IsWhere, place_of, sector_of_block}
use Rattle.extents.specs.Owners.{IsAt}
use Rattle.extents.proofs.ExtentLawLemmas.{block_is_within}
use Rattle.layout_map.specs.declared.geometry.Geometry.{Geometry}
use Rattle.layout_map.specs.Placement.{data_sectors_of}
use Rattle.superblock.specs.declared.table.Table.{Table}
use Rattle.superblock.specs.Cases.{Lost}
use Rattle.array_io.specs.Believed.ArrayCalls.{Answer, Reads}
use Rattle.array_io.specs.Believed.Views.{ArrayView, RestsOn}
use Rattle.volume_table.specs.Volumes.{Block}
use Rattle.volume_table.specs.ListChanges.{ChangesList, IsSame}
use Rattle.volume_table.proofs.ListChanges.{changes_both, changes_read}
use Rattle.volume_table.proofs.TableSizes.{room_for}

-- a block lies in a logical sector of the set
pub block_of_set : (table now : Table) (owners : List (Option Owned)) (number block sector : ℕ)
    → length owners ≤ (extents_in table.geometry).count → now.geometry ≡ table.geometry
    → HasPlace owners number (place_of (extents_in table.geometry) block)
    → IsWhere (extents_in table.geometry) owners number block sector
    → sector < data_sectors_of now.geometry.members now.geometry.chunk now.geometry.stripes
block_of_set table now owners number block sector sized same place where_is =
    subst (λ (g : Geometry). sector < data_sectors_of g.members g.chunk g.stripes) (sym same)
    (omega (
      arith,
      room_for table.geometry (length owners) sized,
      (block_is_within (extents_in table.geometry) owners number block sector place where_is).1,
    ))

-- one read more
pub read_on : (honest still : Type 0) → (honest → still) → (sector : ℕ) (old mid new : ArrayView) (to : Bytes) (answer : Answer)
    → (honest → IsTrueTo mid.panel mid.history)
    → ChangesList honest 0 IsSame IsSame old mid (Ok tt) → Reads still sector mid new to answer → ChangesList honest 0 IsSame IsSame old new answer
read_on honest still goes sector old mid new to answer true_to so_far reads =
    changes_both honest still goes 0 0 IsSame IsSame IsSame IsSame IsSame IsSame old mid new answer true_to so_far
    (changes_read still sector mid new to answer reads)
    (λ V W same. same) (λ V U W one two. two ∙ one) (λ V U W one two. two ∙ one)

-- it gives the sector of the list on which the array was settled
pub read_gives : (honest still : Type 0) → (honest → still) → (sector : ℕ) (old mid new : ArrayView) (to : Bytes)
    → ChangesList honest 0 IsSame IsSame old mid (Ok tt) → Reads still sector mid new to (Ok tt)
    → honest → (lost : Option Lost) (V : List Bytes) → RestsOn old lost V → to ≡ get_or V sector []
read_gives honest still goes sector old mid new to so_far reads fair lost V rests =
    let now = so_far.rests fair refl lost V rests in
    reads.sector (goes fair) refl now.rests.lost now.logical now.rests.rests ∙ ap (λ (U : List Bytes). get_or U sector []) now.is

-- the first n blocks were read
abbrev pub AreReadBelow : ExtentLayout → List (Option Owned) → (number at n : ℕ) → (blocks sectors : List Block) → Type 0
AreReadBelow extents owners number at n blocks sectors = (j extent : ℕ) → j < n → IsAt owners extent number (place_of extents (at + j))
    → get_or blocks j [] ≡ get_or sectors (sector_of_block extents extent (at + j)) []

pub one_more_block : (extents : ExtentLayout) (owners : List (Option Owned)) (number at n sector : ℕ) (blocks V : List Block) (block : Block)
    → n < length blocks
    → AreReadBelow extents owners number at n blocks V
    → IsWhere extents owners number (at + n) sector → block ≡ get_or V sector [] → AreReadBelow extents owners number at (n + 1) (set blocks n block) V
one_more_block extents owners number at n sector blocks V block within so_far where_is is j extent below here = ⊎_elim this other (cases_eq j n)
  where
    this : j ≡ n → get_or (set blocks n block) j [] ≡ get_or V (sector_of_block extents extent (at + j)) []
    this same =
        let here_n : IsAt owners extent number (place_of extents (at + n)) = rw (← same) here in
        ap (λ k. get_or (set blocks n block) k []) same ∙ get_or-set_same blocks n block [] within ∙ is
        ∙ ap (λ s. get_or V s []) (where_is extent here_n) ∙ ap (λ k. get_or V (sector_of_block extents extent (at + k)) []) (sym same)

    other : (j ≡ n → ⊥) → get_or (set blocks n block) j [] ≡ get_or V (sector_of_block extents extent (at + j)) []
    other apart = get_or-set_other blocks n j block [] apart ∙ so_far j extent (omega (arith, below, apart)) here
