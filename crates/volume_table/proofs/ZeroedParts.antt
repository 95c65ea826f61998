-- Zeros that are written together are written in two parts.
use Rattle.std.proofs.Common.{◌≡◌, ◌⊎◌, inl, inr, ℕ, ◌+◌, ◌-◌, ◌<◌, List, [], length, map, get_or, Option, refl, sym, ◌∙◌, ap, subst}
use Rattle.std.proofs.Common.{arith}
use Rattle.std.specs.List.{range_with_len}
use Rattle.std.proofs.lemmas.Bool.{cases_lt}
use Rattle.std.proofs.lemmas.List.{ext_get_or, get_or-replicate, get_or_past, length-replicate}
use Rattle.std.proofs.lemmas.List.FromFn.{get_or-map-range_with_len, length-map-range_with_len}
use Rattle.extents.specs.declared.extent_layout.ExtentLayout.{ExtentLayout}
use Rattle.extents.specs.declared.owned.Owned.{Owned}
use Rattle.extents.specs.ExtentMaps.{place_of, sector_of_block}
use Rattle.extents.specs.Owners.{IsAt}
use Rattle.volume_table.specs.Volumes.{Block, zero_block}
use Rattle.volume_table.specs.VolumeStep.{zero_blocks}
use Rattle.volume_table.specs.StoreChanges.{IsOfBlocks, IsWrittenAt}
use Rattle.volume_table.proofs.ZeroedBlocks.{of_blocks_or_not}

-- a zero block is not empty
not_empty : [] ≡ zero_block → ⊥
unfolding zero_block
not_empty is = omega (arith, ap length is, length-replicate {A = ℕ} 512 0)

length-zeros : (count : ℕ) → length (zero_blocks count) ≡ count
length-zeros count = length-replicate {A = Block} count zero_block

zero_at : (count j : ℕ) → j < count → get_or (zero_blocks count) j [] ≡ zero_block
zero_at count j below = get_or-replicate {A = Block} count j zero_block [] below

module _ (extents : ExtentLayout) (owners : List (Option Owned)) (number at count more : ℕ) (V W : List Block)
    (is : IsWrittenAt extents owners number at (zero_blocks (count + more)) V W) where
  abbrev OfFirst : ℕ → Type 0
  OfFirst sector = IsOfBlocks extents owners number at (at + count) sector

  -- what stands in a sector between the parts
  block_of : (sector : ℕ) → OfFirst sector ⊎ ¬ OfFirst sector → Block
  block_of sector (inl here) = zero_block
  block_of sector (inr none) = get_or V sector []

  abbrev sector_between : ℕ → Block
  sector_between sector = block_of sector (of_blocks_or_not extents owners number at (at + count) sector)

  pub between : List Block
  between = map sector_between (range_with_len 0 (length V))

  length-between : length between ≡ length V
  unfolding between
  length-between = length-map-range_with_len sector_between 0 (length V)

  at_between : (sector : ℕ) → sector < length V → get_or between sector [] ≡ sector_between sector
  unfolding between
  at_between sector within = get_or-map-range_with_len sector_between 0 (length V) sector sector [] within (omega arith)

  zero_if_first : (sector : ℕ) → OfFirst sector → (either : OfFirst sector ⊎ ¬ OfFirst sector) → block_of sector either ≡ zero_block
  unfolding block_of
  zero_if_first sector here (inl there) = refl
  zero_if_first sector here (inr none) = absurd (none here)

  same_if_not : (sector : ℕ) → ¬ OfFirst sector → (either : OfFirst sector ⊎ ¬ OfFirst sector) → block_of sector either ≡ get_or V sector []
  unfolding block_of
  same_if_not sector none (inl here) = absurd (none here)
  same_if_not sector none (inr still) = refl

  -- a block of either part is zero at the end
  zero_after : (j extent : ℕ) → j < count + more → IsAt owners extent number (place_of extents (at + j))
      → get_or W (sector_of_block extents extent (at + j)) [] ≡ zero_block
  zero_after j extent below here =
      is.written.inside j extent (omega (arith, below, length-zeros (count + more))) here ∙ zero_at (count + more) j below

  -- so it lies in the list
  lies_within : (sector : ℕ) → get_or W sector [] ≡ zero_block → sector < length V
  lies_within sector zero = elim (cases_lt sector (length V)) [
    | inl below ↦ below
    | inr past ↦ absurd (not_empty (sym (get_or_past W sector [] (omega (arith, past, is.as_long))) ∙ zero))
  ]

  first_zero : (sector : ℕ) → OfFirst sector → get_or between sector [] ≡ zero_block
  first_zero sector here =
      let j : ℕ = here.block - at in
      let back : at + j ≡ here.block = omega (arith, here.least) in
      let at_end : get_or W sector [] ≡ zero_block = ap (λ (s : ℕ). get_or W s []) (here.is ∙ ap (λ (b : ℕ). sector_of_block extents here.extent b) (sym back))
      ∙ zero_after j here.extent (omega (arith, here.least, here.most))
      (subst (λ (b : ℕ). IsAt owners here.extent number (place_of extents b)) (sym back) here.at) in
      at_between sector (lies_within sector at_end) ∙ zero_if_first sector here (of_blocks_or_not extents owners number at (at + count) sector)

  others_same : (sector : ℕ) → ¬ OfFirst sector → get_or between sector [] ≡ get_or V sector []
  others_same sector none = elim (cases_lt sector (length V)) [
    | inl within ↦ at_between sector within ∙ same_if_not sector none (of_blocks_or_not extents owners number at (at + count) sector)
    | inr past ↦ get_or_past between sector [] (omega (arith, past, length-between)) ∙ sym (get_or_past V sector [] past)
  ]

  -- the first part
  pub first_written : IsWrittenAt extents owners number at (zero_blocks count) V between
  first_written = record {
    as_long = length-between;
    written = record {
      inside = λ j extent below here.
          let few : j < count = omega (arith, below, length-zeros count) in
          first_zero (sector_of_block extents extent (at + j))
          record { block = at + j; extent = extent; least = omega arith; most = omega (arith, few); at = here; is = refl }
          ∙ sym (zero_at count j few);
      outside = λ sector none. others_same sector (λ here.
          let j : ℕ = here.block - at in
          let back : at + j ≡ here.block = omega (arith, here.least) in
          none j here.extent (omega (arith, here.least, here.most, length-zeros count))
          (subst (λ (b : ℕ). IsAt owners here.extent number (place_of extents b)) (sym back) here.at)
          (here.is ∙ ap (λ (b : ℕ). sector_of_block extents here.extent b) (sym back)));
    };
  }

  -- and the second
  pub second_written : IsWrittenAt extents owners number (at + count) (zero_blocks more) between W
  second_written = record {
    as_long = is.as_long ∙ sym length-between;
    written = record {
      inside = λ j extent below here.
          let few : j < more = omega (arith, below, length-zeros more) in
          let same : at + count + j ≡ at + (count + j) = omega arith in
          ap (λ (b : ℕ). get_or W (sector_of_block extents extent b) []) same
          ∙ zero_after (count + j) extent (omega (arith, few)) (subst (λ (b : ℕ). IsAt owners extent number (place_of extents b)) same here)
          ∙ sym (zero_at more j few);
      outside = λ sector none. elim (of_blocks_or_not extents owners number at (at + count) sector) [
        | inl here ↦
            let j : ℕ = here.block - at in
            let back : at + j ≡ here.block = omega (arith, here.least) in
            ap (λ (s : ℕ). get_or W s []) (here.is ∙ ap (λ (b : ℕ). sector_of_block extents here.extent b) (sym back))
            ∙ zero_after j here.extent (omega (arith, here.least, here.most))
            (subst (λ (b : ℕ). IsAt owners here.extent number (place_of extents b)) (sym back) here.at)
            ∙ sym (first_zero sector here)
        | inr before ↦
            is.written.outside sector (λ j extent below here same. elim (cases_lt j count) [
              | inl first ↦ before record { block = at + j; extent = extent; least = omega arith; most = omega (arith, first); at = here; is = same }
              | inr past ↦
                  let back : at + j ≡ at + count + (j - count) = omega (arith, past) in
                  none (j - count) extent (omega (arith, past, below, length-zeros (count + more), length-zeros more))
                  (subst (λ (b : ℕ). IsAt owners extent number (place_of extents b)) back here)
                  (same ∙ ap (λ (b : ℕ). sector_of_block extents extent b) back)
            ])
            ∙ sym (others_same sector before)
      ];
    };
  }

-- where no block is written the list is as it was
pub none_written : (extents : ExtentLayout) (owners : List (Option Owned)) (number at : ℕ) (V W : List Block)
    → IsWrittenAt extents owners number at [] V W → W ≡ V
none_written extents owners number at V W is =
    ext_get_or [] W V is.as_long (λ sector within. is.written.outside sector (λ j extent below here. absurd (omega (arith, below))))
