-- The writes of zeros together make the blocks zero, and change no other.
use Rattle.std.proofs.Common.{◌≡◌, ◌≢◌, inl, inr, ℕ, ◌+◌, ◌-◌, ◌<◌, ◌≤◌, List, length, Some, None, refl, sym, ◌∙◌, ap, subst, arith}
use Rattle.std.specs.Prelude.{slice_index_or}
use Rattle.std.proofs.lemmas.Bool.{cases_lt, ltb-false}
use Rattle.std.proofs.lemmas.List.{get_or-replicate, length-replicate}
use Rattle.extents.specs.declared.extent_layout.ExtentLayout.{ExtentLayout}
use Rattle.volume_table.specs.Law.{HasLength, IsWritten}
use Rattle.volume_table.specs.Staging.{after_all}
use Rattle.volume_table.specs.Volumes.{Block, VolumeList, VolumeMap, blocks_of, zero_block}
use Rattle.volume_table.specs.VolumeStep.{Command, Done, Write, blocks_in, first_refusal, or_refused, reply_to, volumes_after, zero_blocks}
use Rattle.volume_table.specs.Zeroing.{AreZeroWrites, checks_of_zero, no_write, then_write}
use Rattle.volume_table.specs.ZeroingLaw.{LeavesZeros}
use Rattle.volume_table.proofs.StepLemmas.{none_applies, not_the_one, others_stay, there, write_changes_its_blocks}
use Rattle.volume_table.proofs.ZeroedVolumes.{admitted, writes_are_done, writes_order}

-- where it is not refused the volume has the blocks
record IsZeroWithin (name : List ℕ) (at count : ℕ) (volumes : VolumeList) : Type 0 where
  pub found : blocks_of name volumes ≡ Some (blocks_in name volumes)
  pub fits : at + count ≤ length (blocks_in name volumes)

zero_within : (name : List ℕ) (at count : ℕ) (volumes : VolumeList) → first_refusal (checks_of_zero name at count volumes) ≡ None
    → IsZeroWithin name at count volumes
zero_within name at count volumes none =
    let one = none_applies _ _ _ none in
    let two = none_applies _ _ _ one.1 in
    let three = none_applies _ _ _ two.1 in
    record { found = there (blocks_of name volumes) one.0; fits = ltb-false (length (blocks_in name volumes)) (at + count) three.0 }

-- what writes of zeros leave of the volume with these blocks
record LeavesFrom (extents : ExtentLayout) (name : List ℕ) (at end : ℕ) (writes : List Command) (volumes : VolumeMap) (before : List Block) : Type 0 where
  pub left : List Block
  pub is_left : blocks_of name (after_all extents writes volumes).volumes ≡ Some left
  pub changes : IsWritten before left at (zero_blocks (end - at))
  pub others : (other : List ℕ) → other ≢ name → blocks_of other (after_all extents writes volumes).volumes ≡ blocks_of other volumes.volumes

zero_at : (count j : ℕ) (d : Block) → j < count → slice_index_or (zero_blocks count) j d ≡ zero_block
zero_at count j d below = get_or-replicate {A = Block} count j zero_block d below

length-zeros : (count : ℕ) → length (zero_blocks count) ≡ count
length-zeros count = length-replicate {A = Block} count zero_block

one_list : (first second : List Block) → Some first ≡ Some second → first ≡ second
one_list first second is = cc

-- zeros after zeros
zeros_then : (before mid left : List Block) (at count more : ℕ) → IsWritten before mid at (zero_blocks count)
    → IsWritten mid left (at + count) (zero_blocks more) → IsWritten before left at (zero_blocks (count + more))
zeros_then before mid left at count more first second = record {
  as_long = second.as_long ∙ first.as_long;
  inside = λ k d below. elim (cases_lt k count) [
    | inl early ↦ second.below (at + k) d (omega (arith, early)) ∙ first.inside k d (omega (arith, early, length-zeros count)) ∙ zero_at count k d early
        ∙ sym (zero_at (count + more) k d (omega (arith, early)))
    | inr late ↦
        let few : k - count < more = omega (arith, late, below, length-zeros (count + more)) in
        let place : at + count + (k - count) ≡ at + k = omega (arith, late) in
        ap (λ (n : ℕ). slice_index_or left n d) (sym place) ∙ second.inside (k - count) d (omega (arith, few, length-zeros more))
        ∙ zero_at more (k - count) d few
        ∙ sym (zero_at (count + more) k d (omega (arith, late, few)))
  ];
  below = λ k d early. second.below k d (omega (arith, early)) ∙ first.below k d early;
  above = λ k d late.
      second.above k d (omega (arith, late, length-zeros (count + more), length-zeros more))
      ∙ first.above k d (omega (arith, late, length-zeros (count + more), length-zeros count));
}

leaves_from : (extents : ExtentLayout) (name : List ℕ) (long : ℕ) {at end : ℕ} {writes : List Command} (volumes : VolumeMap) (before : List Block)
    → AreZeroWrites name at end writes → end ≤ long → blocks_of name volumes.volumes ≡ Some before → length before ≡ long
    → LeavesFrom extents name at end writes volumes before
leaves_from extents name long {at = at} volumes before no_write within was as_long = record {
  left = before;
  is_left = was;
  changes = record {
    as_long = refl;
    inside = λ k d below. absurd (omega (arith, below, length-zeros (at - at)));
    below = λ k d early. refl;
    above = λ k d late. refl;
  };
  others = λ other apart. refl;
}
leaves_from extents name long {at = at} {end = end} volumes before (then_write count least most rest) within was as_long =
    let order = writes_order name rest in
    let has : HasLength name long volumes.volumes = record { blocks = before; found = was; as_long = as_long } in
    let may = admitted extents name long at count volumes least most (omega (arith, order, within)) has in
    let done : reply_to extents (Write name at (zero_blocks count)) volumes ≡ Done = ap (λ o. or_refused o Done) (sym may) in
    let one = write_changes_its_blocks extents name at (zero_blocks count) volumes done in
    let first : IsWritten before one.left at (zero_blocks count) =
    subst (λ (b : List Block). IsWritten b one.left at (zero_blocks count)) (one_list one.before before (sym one.was ∙ was)) one.changes in
    let more = leaves_from extents name long (volumes_after extents (Write name at (zero_blocks count)) volumes) one.left rest within one.is_left
    (first.as_long ∙ as_long) in
    record {
      left = more.left;
      is_left = more.is_left;
      changes = subst (λ (n : ℕ). IsWritten before more.left at (zero_blocks n)) (omega (arith, order))
          (zeros_then before one.left more.left at count (end - (at + count)) first more.changes);
      others = λ other apart. more.others other apart
          ∙ others_stay extents (Write name at (zero_blocks count)) volumes other (not_the_one name other apart);
    }

pub leaves_zeros : (extents : ExtentLayout) (name : List ℕ) (at count : ℕ) (writes : List Command) (volumes : VolumeMap)
    → AreZeroWrites name at (at + count) writes → None ≡ first_refusal (checks_of_zero name at count volumes.volumes)
    → LeavesZeros extents name at count writes volumes
leaves_zeros extents name at count writes volumes zeros may =
    let within = zero_within name at count volumes.volumes (sym may) in
    let before = blocks_in name volumes.volumes in
    let leaves = leaves_from extents name (length before) volumes before zeros within.fits within.found refl in
    record {
      done = writes_are_done extents name (length before) volumes zeros within.fits record { blocks = before; found = within.found; as_long = refl };
      before = before;
      left = leaves.left;
      was = within.found;
      is_left = leaves.is_left;
      changes = subst (λ (n : ℕ). IsWritten before leaves.left at (zero_blocks n)) (omega arith) leaves.changes;
      others = leaves.others;
    }
