-- The rows of a logical list: those that sound rows of whole sectors give are such, and there is one for each row of a set.
use Rattle.std.proofs.Common.{◌≡◌, ◌≢◌, inl, inr, ℕ, ◌<◌, List, [], ◌∷◌, length, sym, ◌∙◌, ap, arith}
use Rattle.std.specs.Prelude.{slice_index_or, slice_set}
use Rattle.std.proofs.lemmas.Bool.{cases_eq}
use Rattle.std.proofs.lemmas.List.{ext_get_or, get_or-set_other, get_or-set_same, length-set}
use Rattle.std.proofs.lemmas.List.FromFn.{get_or-map-range_with_len, length-map-range_with_len}
use Rattle.sector_model.specs.History.{Bytes}
use Rattle.layout_map.specs.declared.geometry.Geometry.{Geometry}
use Rattle.layout_map.specs.Placement.{IsParityOf, rows_of}
use Rattle.layout_map.proofs.Places.{data_beside_parity, data_or_parity, place_member_below}
use Rattle.parity.specs.Xor.{IsSoundRow, xor_of, xor_of_all, zero_sector}
use Rattle.parity.proofs.Laws.{xor_of-zero, xor_of-zero_right, xor_of_all-set}
use Rattle.degraded.specs.RowValue.{Rows, logical_list, row_values, value}
use Rattle.degraded.proofs.Others.{sector_is_xor}
use Rattle.array_io.specs.Steps.FormingRows.{IsListedRow}
use Rattle.array_io.proofs.Commits.FormedRows.{sector_of_logical_list}
use Rattle.array_io.proofs.Images.SameList.{value_placed}

-- a member's value among those of its row
pub value_in_row : (rows : Rows) (row member : ℕ) → member < rows.members → slice_index_or (row_values rows row) member [] ≡ value rows row member
value_in_row rows row member within = get_or-map-range_with_len (λ (m : ℕ). value rows row m) 0 rows.members member member [] within (omega arith)

-- a sound row of whole values is its list's
pub row_listed : (geometry : Geometry) (rows : Rows) (row : ℕ) → rows.members ≡ geometry.members → IsSoundRow (row_values rows row)
    → ((member : ℕ) → member < geometry.members → length (value rows row member) ≡ 512)
    → IsListedRow geometry (logical_list geometry rows) row (row_values rows row)
row_listed geometry rows row width sound whole = record {
  long = length-map-range_with_len (λ (m : ℕ). value rows row m) 0 rows.members ∙ width;
  whole = λ member within. ap length (value_in_row rows row member (omega (arith, width, within))) ∙ whole member within;
  data_listed = λ k member below lies.
      value_in_row rows row member (omega (arith, width, place_member_below geometry.limits lies))
      ∙ value_placed geometry rows k row member lies ∙ sym (sector_of_logical_list geometry rows k below);
  sound = sound;
}

-- two sectors whose XOR is zero are one
same_of_zero : (first second : Bytes) → length first ≡ 512 → length second ≡ 512 → xor_of first second ≡ zero_sector → first ≡ second
same_of_zero first second long long' is_zero =
    let alone : xor_of_all (second ∷ []) ≡ second = xor_of-zero_right second long' in
    sector_is_xor first (second ∷ []) long (ap (xor_of first) alone ∙ is_zero) ∙ alone

module _ (geometry : Geometry) (logical : List Bytes) (row : ℕ) (below : row < rows_of geometry.chunk geometry.stripes) (first second : List Bytes)
    (one : IsListedRow geometry logical row first) (two : IsListedRow geometry logical row second) where
  -- two listed rows of one row have the same data
  same_data : (parity member : ℕ) → IsParityOf geometry.members geometry.chunk row parity → member < geometry.members → member ≢ parity
      → slice_index_or first member [] ≡ slice_index_or second member []
  same_data parity member is within apart =
      let holds = data_beside_parity geometry.limits below is within apart in
      one.data_listed holds.logical member holds.below holds.placed ∙ sym (two.data_listed holds.logical member holds.below holds.placed)

  -- so the first is the second with its own parity
  with_parity : (parity : ℕ) → IsParityOf geometry.members geometry.chunk row parity → first ≡ slice_set second parity (slice_index_or first parity [])
  with_parity parity is =
      let mine = slice_index_or first parity [] in
      ext_get_or [] first (slice_set second parity mine) (one.long ∙ sym (length-set second parity mine ∙ two.long)) (λ k there.
      elim (cases_eq k parity) [
        | inl same ↦ rw same (sym (get_or-set_same second parity mine [] (omega (arith, two.long, is.in_set))))
        | inr other ↦ same_data parity k is (omega (arith, one.long, there)) other ∙ sym (get_or-set_other second parity k mine [] other)
      ])

  -- and the parity is the same, since both are sound
  same_parity : (parity : ℕ) → IsParityOf geometry.members geometry.chunk row parity → slice_index_or first parity [] ≡ slice_index_or second parity []
  same_parity parity is =
      let mine = slice_index_or first parity [] in
      let its = slice_index_or second parity [] in
      let whole = two.whole parity is.in_set in
      let left : xor_of (xor_of_all second) its ≡ its = ap (λ (s : Bytes). xor_of s its) two.sound ∙ xor_of-zero its whole in
      sym (same_of_zero its mine whole (one.whole parity is.in_set)
      (ap (λ (s : Bytes). xor_of s mine) (sym left) ∙ sym (xor_of_all-set second parity mine (omega (arith, two.long, is.in_set)))
      ∙ sym (ap xor_of_all (with_parity parity is)) ∙ one.sound))

  -- a row has one listed row
  pub listed_once : (member : ℕ) → member < geometry.members → slice_index_or first member [] ≡ slice_index_or second member []
  listed_once member within = elim (data_or_parity geometry.limits within below) [
    | inl holds ↦ one.data_listed holds.logical member holds.below holds.placed ∙ sym (two.data_listed holds.logical member holds.below holds.placed)
    | inr parity ↦ same_parity member parity
  ]
