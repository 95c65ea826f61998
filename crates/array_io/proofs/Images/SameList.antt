-- Sound rows with one logical list have the same values.
use Rattle.std.proofs.Common.{◌≡◌, ◌≢◌, inl, inr, ℕ, ◌+◌, ◌*◌, ◌/◌, ◌%◌, ◌<◌, List, [], length, sym, ◌∙◌, ap, subst, arith}
use Rattle.std.specs.Prelude.{map, slice_index_or}
use Rattle.std.specs.List.{range_with_len}
use Rattle.sector_model.specs.History.{Bytes}
use Rattle.layout_map.specs.declared.geometry.Geometry.{Geometry}
use Rattle.layout_map.specs.Placement.{data_sectors_of, rows_of, stripe_of_chunk, IsParityOf, IsPlace}
use Rattle.layout_map.proofs.Places.{data_beside_parity, data_or_parity}
use Rattle.parity.specs.Xor.{xor_of_all, IsSoundRow}
use Rattle.degraded.specs.RowValue.{Rows, others, value, AreSound, logical_value, logical_list}
use Rattle.degraded.proofs.Others.{map-others, sector_is_xor, xor_of_all-member}
use Rattle.array_io.proofs.Commits.FormedRows.{sector_of_logical_list}

-- each value of a set's rows has 512 bytes
abbrev pub HaveWholeValues : Geometry → Rows → Type 0
HaveWholeValues geometry rows = (row member : ℕ) → row < rows_of geometry.chunk geometry.stripes → member < geometry.members
    → length (value rows row member) ≡ 512

-- a value at the place of a logical sector is that of the logical sector
pub value_placed : (geometry : Geometry) (rows : Rows) (logical row member : ℕ) → IsPlace geometry.members geometry.chunk logical member row
    → value rows row member ≡ logical_value geometry rows logical
value_placed geometry rows logical row member placed =
    ap (λ (r : ℕ). value rows r member) placed.on_row
    ∙ ap (λ (m : ℕ). value rows (stripe_of_chunk geometry.members (logical / geometry.chunk) * geometry.chunk + logical % geometry.chunk) m) placed.on_member

-- in a sound row each value is the XOR of the others
value_of_others : (geometry : Geometry) (rows : Rows) → rows.members ≡ geometry.members → AreSound rows (rows_of geometry.chunk geometry.stripes)
    → HaveWholeValues geometry rows
    → (row member : ℕ) → row < rows_of geometry.chunk geometry.stripes → member < geometry.members
    → value rows row member ≡ xor_of_all (map (λ other. value rows row other) (others geometry.members member))
value_of_others geometry rows wide sound whole row member below within =
    let here : IsSoundRow (map (λ (m : ℕ). value rows row m) (range_with_len 0 geometry.members)) =
    subst (λ (n : ℕ). IsSoundRow (map (λ (m : ℕ). value rows row m) (range_with_len 0 n))) wide (sound row below) in
    sector_is_xor (value rows row member) (map (λ (other : ℕ). value rows row other) (others geometry.members member)) (whole row member below within)
    (sym (xor_of_all-member (λ (other : ℕ). value rows row other) member 0 geometry.members (omega arith) (omega (arith, within))) ∙ here)

module _ (geometry : Geometry) (first second : Rows) (same : logical_list geometry first ≡ logical_list geometry second) where
  same_logical : (logical : ℕ) → logical < data_sectors_of geometry.members geometry.chunk geometry.stripes
      → logical_value geometry first logical ≡ logical_value geometry second logical
  same_logical logical below =
      sym (sector_of_logical_list geometry first logical below)
      ∙ ap (λ (sectors : List Bytes). slice_index_or sectors logical []) same
      ∙ sector_of_logical_list geometry second logical below

  -- where a logical sector lies
  same_placed : (logical row member : ℕ) → logical < data_sectors_of geometry.members geometry.chunk geometry.stripes
      → IsPlace geometry.members geometry.chunk logical member row → value first row member ≡ value second row member
  same_placed logical row member below placed =
      value_placed geometry first logical row member placed ∙ same_logical logical below ∙ sym (value_placed geometry second logical row member placed)

-- In sound rows of whole sectors the parity is the same too.
pub same_list_same_values : (geometry : Geometry) (first second : Rows) → first.members ≡ geometry.members → second.members ≡ geometry.members
    → AreSound first (rows_of geometry.chunk geometry.stripes) → AreSound second (rows_of geometry.chunk geometry.stripes)
    → HaveWholeValues geometry first → HaveWholeValues geometry second → logical_list geometry first ≡ logical_list geometry second
    → (row member : ℕ) → row < rows_of geometry.chunk geometry.stripes → member < geometry.members → value first row member ≡ value second row member
same_list_same_values geometry first second wide wide' sound sound' whole whole' same row member below within =
    elim (data_or_parity geometry.limits within below) [
      | inl holds ↦ same_placed geometry first second same holds.logical row member holds.below holds.placed
      | inr parity ↦
          value_of_others geometry first wide sound whole row member below within
          ∙ ap xor_of_all (map-others (λ (other : ℕ). value first row other) (λ (other : ℕ). value second row other) member 0 geometry.members
          (λ other inside apart. same_beside parity other (omega (arith, inside)) apart))
          ∙ sym (value_of_others geometry second wide' sound' whole' row member below within)
    ]
  where
    same_beside : IsParityOf geometry.members geometry.chunk row member → (other : ℕ) → other < geometry.members → other ≢ member
        → value first row other ≡ value second row other
    same_beside parity other inside apart =
        let holds = data_beside_parity geometry.limits below parity inside apart in
        same_placed geometry first second same holds.logical row other holds.below holds.placed
