-- Clean extents stay so: what commands leave where no volume has a block.
use Rattle.std.proofs.Common.{◌≡◌, inl, inr, ℕ, ◌+◌, ◌<◌, ◌≤◌, Bool, true, false, List, [], length, get_or, Option, Some, None, sym, ap, subst, ◌∙◌, arith}
use Rattle.std.proofs.lemmas.Bool.{true≢false}
use Rattle.std.proofs.lemmas.Option.{none-some, same_Some}
use Rattle.extents.specs.declared.extent_layout.ExtentLayout.{ExtentLayout}
use Rattle.extents.specs.declared.owned.Owned.{Owned}
use Rattle.extents.specs.declared.record.Record.{Record}
use Rattle.extents.specs.ExtentMaps.{is_dirty, place_of, sector_of_block}
use Rattle.extents.specs.Owners.{IsAt, owner_of}
use Rattle.extents.specs.VolumeTables.{record_of}
use Rattle.extents.proofs.Blocks.{block_is_one, sector_is_of_one}
use Rattle.extents.proofs.OwnerLemmas.{owner_is_one}
use Rattle.volume_table.specs.Volumes.{Block, zero_block}
use Rattle.volume_table.specs.Shows.{AreClean, HasWritten}
use Rattle.volume_table.specs.StoreChanges.{IsPartlyZero}

-- blocks of different places lie in different sectors
pub same_sector : (extents : ExtentLayout) (owners : List (Option Owned)) (number other i j extent extent' : ℕ) → IsAt owners extent number (place_of extents i)
    → IsAt owners extent' other (place_of extents j) → sector_of_block extents extent i ≡ sector_of_block extents extent' j
    → (number ≡ other) × (i ≡ j)
same_sector extents owners number other i j extent extent' here there same =
    let parts = sector_is_of_one extents extent extent' i j same in
    let owner = owner_is_one owners extent' number (place_of extents i) other (place_of extents j)
    (subst (λ e. IsAt owners e number (place_of extents i)) parts.0 here) there in
    (owner.0, block_is_one extents.blocks i j owner.1 parts.1)

-- more zeros leave them clean
pub clean_partly : (extents : ExtentLayout) (dirty : List Bool) (records : List (Option Record)) (owners new_owners : List (Option Owned))
    (number first last : ℕ)
    (V W : List Block) → IsPartlyZero extents new_owners number first last V W → AreClean extents dirty records owners V
    → AreClean extents dirty records owners W
clean_partly extents dirty records owners new_owners number first last V W partly clean = record {
  free = λ extent block below is_clean is_free. elim (partly.each (sector_of_block extents extent block)) [
    | inl same ↦ same ∙ clean.free extent block below is_clean is_free
    | inr is ↦ is.0
  ];
  after_end = λ extent other block entry is_clean at used past. elim (partly.each (sector_of_block extents extent block)) [
    | inl same ↦ same ∙ clean.after_end extent other block entry is_clean at used past
    | inr is ↦ is.0
  ];
}

-- and blocks that are written within their volume
pub clean_written : (extents : ExtentLayout) (dirty : List Bool) (records : List (Option Record)) (owners : List (Option Owned)) (number at : ℕ)
    (written : List Block) (entry : Record) (before left : List Block) → record_of records number ≡ Some entry → at + length written ≤ entry.blocks
    → HasWritten extents owners number at written before left → AreClean extents dirty records owners before → AreClean extents dirty records owners left
clean_written extents dirty records owners number at written entry before left used within has clean = record {
  free = λ extent block below is_clean is_free. has.outside (sector_of_block extents extent block) (λ j extent' small is_at same.
      let one = sector_is_of_one extents extent extent' block (at + j) same in
      none-some (record { volume = number; place = place_of extents (at + j) }) (sym is_free ∙ ap (owner_of owners) one.0 ∙ is_at))
      ∙ clean.free extent block below is_clean is_free;
  after_end = λ extent other block one is_clean at_other other_used past. has.outside (sector_of_block extents extent block) (λ j extent' small is_at same.
      let both = same_sector extents owners other number block (at + j) extent extent' at_other is_at same in
      let entry_is : one ≡ entry = same_Some one entry (sym other_used ∙ ap (record_of records) both.0 ∙ used) in
      omega (arith, past, ap (λ (r : Record). r.blocks) entry_is, both.1, small, within))
      ∙ clean.after_end extent other block one is_clean at_other other_used past;
}

-- a record that is used was used before, and had no more blocks
pub record WasUsed (records : List (Option Record)) (number : ℕ) (entry : Record) : Type 0 where
  pub before : Record
  pub used : record_of records number ≡ Some before
  pub fewer : before.blocks ≤ entry.blocks

-- extents that were clean stay so under a table that has no other ones for a volume
pub clean_moved : (extents : ExtentLayout) (dirty dirty' : List Bool) (records records' : List (Option Record)) (owners owners' : List (Option Owned))
    (before left : List Block)
    → ((extent : ℕ) → is_dirty dirty' extent ≡ false → is_dirty dirty extent ≡ false)
    → ((extent : ℕ) → is_dirty dirty' extent ≡ false → owner_of owners' extent ≡ None → owner_of owners extent ≡ None)
    → ((extent number place : ℕ) → IsAt owners' extent number place → IsAt owners extent number place)
    → ((extent number place : ℕ) (entry : Record) → IsAt owners' extent number place → record_of records' number ≡ Some entry → WasUsed records number entry)
    → ((extent block : ℕ) → get_or left (sector_of_block extents extent block) [] ≡ get_or before (sector_of_block extents extent block) [])
    → AreClean extents dirty records owners before → AreClean extents dirty' records' owners' left
clean_moved extents dirty dirty' records records' owners owners' before left flags frees ats used same clean = record {
  free = λ extent block below is_clean is_free.
      same extent block ∙ clean.free extent block below (flags extent is_clean) (frees extent is_clean is_free);
  after_end = λ extent number block entry is_clean at entry_used past.
      let was = used extent number (place_of extents block) entry at entry_used in
      same extent block
      ∙ clean.after_end extent number block was.before (flags extent is_clean) (ats extent number (place_of extents block) at) was.used
      (omega (arith, was.fewer, past));
}

-- where all extents are dirty nothing is asked
pub all_dirty_clean : (extents : ExtentLayout) (dirty : List Bool) (records : List (Option Record)) (owners : List (Option Owned)) (sectors : List Block)
    → ((extent : ℕ) → is_dirty dirty extent ≡ true) → AreClean extents dirty records owners sectors
all_dirty_clean extents dirty records owners sectors all = record {
  free = λ extent block below is_clean is_free. absurd (true≢false (sym (all extent) ∙ is_clean));
  after_end = λ extent number block entry is_clean at used past. absurd (true≢false (sym (all extent) ∙ is_clean));
}

-- where no record is used and all sectors of extents are zero they are clean
pub zeros_clean : (extents : ExtentLayout) (dirty : List Bool) (records : List (Option Record)) (owners : List (Option Owned)) (sectors : List Block)
    → ((number : ℕ) → record_of records number ≡ None)
    → ((extent block : ℕ) → extent < extents.count → get_or sectors (sector_of_block extents extent block) [] ≡ zero_block)
    → AreClean extents dirty records owners sectors
zeros_clean extents dirty records owners sectors unused zero = record {
  free = λ extent block below is_clean is_free. zero extent block below;
  after_end = λ extent number block entry is_clean at used past. absurd (none-some entry (sym (unused number) ∙ used));
}
