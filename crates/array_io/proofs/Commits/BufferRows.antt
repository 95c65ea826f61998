-- Rows with what an entry holds of them and sectors elsewhere, and their XOR.
use Rattle.std.proofs.Common.{◌≡◌, inl, inr, ℕ, ◌+◌, Bool, true, false, cond, ◌<◌, ◌≤◌, List, [], length, refl, sym, ◌∙◌, ap, arith}
use Rattle.std.specs.Prelude.{map, slice_index_or, slice_set}
use Rattle.std.specs.List.{range_with_len}
use Rattle.std.proofs.lemmas.Bool.{cases_eq}
use Rattle.std.proofs.lemmas.List.{ext_get_or, get_or-set_same, get_or-set_other, length-set}
use Rattle.std.proofs.lemmas.List.FromFn.{fill_by_all, get_or-map-range_with_len, length-map-range_with_len}
use Rattle.sector_model.specs.History.{Bytes}
use Rattle.layout_map.specs.declared.sizes.TheConstants.{MOST_MEMBERS}
use Rattle.parity.specs.Xor.{IsSoundRow, xor_of, xor_of_all, zero_sector}
use Rattle.parity.proofs.Laws.{length-xor_of, length-xor_of_all, xor_of-assoc, xor_of-comm, xor_of-self, xor_of-zero_right, xor_of-zero-xor_of_all}
use Rattle.parity.proofs.Laws.{xor_of_all-set}
use Rattle.stripe_journal.specs.declared.entry.Entry.{Entry}
use Rattle.stripe_journal.specs.Entries.{form_of, masks_of, numbers_of, row_mask, sector_at, with_sector}
use Rattle.stripe_journal.specs.Forms.{has_bit, mask_at}
use Rattle.stripe_journal.proofs.Entries.{sector_elsewhere, sector_there}
use Rattle.degraded.proofs.Others.{map-range}
use Rattle.degraded.proofs.Sums.{xor_members-more}
use Rattle.array_io.specs.Steps.FormingRows.{row_with, sector_with}

-- a member's sector that the entry holds, and one that it doesn't
pub held_with : (entry : Entry) (i : ℕ) (values : List Bytes) (member : ℕ) → has_bit (row_mask entry i) member ≡ true
    → sector_with entry i values member ≡ sector_at entry i member
held_with entry i values member is = ap (λ (b : Bool). cond b (sector_at entry i member) (slice_index_or values member [])) is

pub lacking_with : (entry : Entry) (i : ℕ) (values : List Bytes) (member : ℕ) → has_bit (row_mask entry i) member ≡ false
    → sector_with entry i values member ≡ slice_index_or values member []
lacking_with entry i values member is = ap (λ (b : Bool). cond b (sector_at entry i member) (slice_index_or values member [])) is

-- the row has a sector for each member
pub length-row_with : (members : ℕ) (entry : Entry) (i : ℕ) (values : List Bytes) → length (row_with members entry i values) ≡ members
length-row_with members entry i values = length-map-range_with_len (sector_with entry i values) 0 members

pub member_with : (members : ℕ) (entry : Entry) (i : ℕ) (values : List Bytes) (member : ℕ) → member < members
    → slice_index_or (row_with members entry i values) member [] ≡ sector_with entry i values member
member_with members entry i values member within = get_or-map-range_with_len (sector_with entry i values) 0 members member member [] within (omega arith)

-- entries of one form have the same masks
pub same_mask : (first second : Entry) (i : ℕ) → form_of first ≡ form_of second → row_mask first i ≡ row_mask second i
same_mask first second i same = ap (λ (masks : List ℕ). mask_at masks i) (same_masks first second same)
  where
    same_masks : (first second : Entry) → form_of first ≡ form_of second → masks_of first ≡ masks_of second
    same_masks first second same = cc

-- rows of two entries that agree
pub row_same : (members : ℕ) (first second : Entry) (i : ℕ) (values : List Bytes) → row_mask first i ≡ row_mask second i
    → ((member : ℕ) → member < members → sector_at first i member ≡ sector_at second i member)
    → row_with members first i values ≡ row_with members second i values
row_same members first second i values mask each = map-range (sector_with first i values) (sector_with second i values) 0 members (λ k below.
    ap (λ (m : ℕ). cond (has_bit m k) (sector_at first i k) (slice_index_or values k [])) mask
    ∙ ap (λ (s : Bytes). cond (has_bit (row_mask second i) k) s (slice_index_or values k [])) (each k (omega (arith, below))))

-- a row with another sector of those that the entry holds
row_put : (members : ℕ) (entry : Entry) (i member : ℕ) (value : Bytes) (values : List Bytes) → members ≤ MOST_MEMBERS → i < length (numbers_of entry)
    → member < members
    → has_bit (row_mask entry i) member ≡ true
    → row_with members (with_sector entry i member value) i values ≡ slice_set (row_with members entry i values) member value
row_put members entry i member value values few below within held =
    let after = with_sector entry i member value in
    let row = row_with members entry i values in
    let long : length row ≡ members = length-row_with members entry i values in
    let new_long : length (row_with members after i values) ≡ members = length-row_with members after i values in
    ext_get_or [] (row_with members after i values) (slice_set row member value) (new_long ∙ sym (length-set row member value ∙ long)) (λ k there.
    let inside : k < members = omega (arith, new_long, there) in
    member_with members after i values k inside ∙ elim (cases_eq k member) [
      | inl same ↦ rw same (held_with after i values member held ∙ sector_there entry i member value below (omega (arith, few, within)) held
          ∙ sym (get_or-set_same row member value [] (omega (arith, long, within))))
      | inr other ↦
          ap (λ (s : Bytes). cond (has_bit (row_mask entry i) k) s (slice_index_or values k []))
          (sector_elsewhere entry i member i k value (omega (arith, few, within)) (omega (arith, few, inside)) held (λ row. other))
          ∙ sym (get_or-set_other row member k value [] other ∙ member_with members entry i values k inside)
    ])

-- a row that had zeros in a place is sound with the XOR of all in it
pub sound_with_sum : (members : ℕ) (entry : Entry) (i parity : ℕ) (sum : Bytes) (values : List Bytes) → members ≤ MOST_MEMBERS → i < length (numbers_of entry)
    → parity < members
    → has_bit (row_mask entry i) parity ≡ true → sector_at entry i parity ≡ zero_sector → sum ≡ xor_of_all (row_with members entry i values)
    → IsSoundRow (row_with members (with_sector entry i parity sum) i values)
sound_with_sum members entry i parity sum values few below within held zeros sum_is =
    let row = row_with members entry i values in
    let all = xor_of_all row in
    let long : length row ≡ members = length-row_with members entry i values in
    let zero_there : slice_index_or row parity [] ≡ zero_sector = member_with members entry i values parity within ∙ held_with entry i values parity held
    ∙ zeros in
    ap xor_of_all (row_put members entry i parity sum values few below within held)
    ∙ xor_of_all-set row parity sum (omega (arith, long, within))
    ∙ ap (λ (s : Bytes). xor_of (xor_of all s) sum) zero_there
    ∙ ap (λ (s : Bytes). xor_of s sum) (xor_of-zero_right all (length-xor_of_all row))
    ∙ ap (λ (s : Bytes). xor_of all s) sum_is
    ∙ xor_of-self all

-- the XOR of the sectors of the first so many members
abbrev pub sum_below : (sector : ℕ → Bytes) → (count : ℕ) → Bytes
sum_below sector count = xor_of_all (map sector (range_with_len 0 count))

-- with one member more
pub sum_more : (entry : Entry) (i : ℕ) (values : List Bytes) (member : ℕ) (sum sector : Bytes) → sum ≡ sum_below (sector_with entry i values) member
    → sector ≡ sector_with entry i values member → xor_of sum sector ≡ sum_below (sector_with entry i values) (member + 1)
sum_more entry i values member sum sector before is =
    ap (λ (s : Bytes). xor_of s sector) before ∙ ap (xor_of (sum_below (sector_with entry i values) member)) is
    ∙ sym (xor_members-more (sector_with entry i values) member)

-- the XOR of these sectors of the first so many members, and of those that the row has with what the entry holds
abbrev pub changes_below : Entry → (i : ℕ) → (values : List Bytes) → (count : ℕ) → Bytes
changes_below entry i values count = xor_of (sum_below (λ member. slice_index_or values member []) count) (sum_below (sector_with entry i values) count)

-- that of no member is zero
pub changes_none : (entry : Entry) (i : ℕ) (values : List Bytes) → zero_sector ≡ changes_below entry i values 0
changes_none entry i values = sym (xor_of-self zero_sector)

both_more : (a b c d : Bytes) → xor_of (xor_of (xor_of a b) c) d ≡ xor_of (xor_of a c) (xor_of b d)
both_more a b c d =
    ap (λ (s : Bytes). xor_of s d) (xor_of-assoc a b c ∙ ap (xor_of a) (xor_of-comm b c) ∙ sym (xor_of-assoc a c b))
    ∙ xor_of-assoc (xor_of a c) b d

-- with one member more
changes_more : (entry : Entry) (i : ℕ) (values : List Bytes) (member : ℕ)
    → xor_of (xor_of (changes_below entry i values member) (slice_index_or values member [])) (sector_with entry i values member) ≡ changes_below entry i values
    (member + 1)
changes_more entry i values member =
    let olds = λ (m : ℕ). slice_index_or values m [] in
    let news = sector_with entry i values in
    both_more (sum_below olds member) (sum_below news member) (olds member) (news member)
    ∙ ap (λ (s : Bytes). xor_of s (xor_of (sum_below news member) (news member))) (sym (xor_members-more olds member))
    ∙ ap (xor_of (sum_below olds (member + 1))) (sym (xor_members-more news member))

-- one that the entry holds changes from the old sector to the new one
pub changes_held : (entry : Entry) (i : ℕ) (values : List Bytes) (member : ℕ) (sum old new : Bytes) → sum ≡ changes_below entry i values member
    → old ≡ slice_index_or values member []
    → has_bit (row_mask entry i) member ≡ true → new ≡ sector_at entry i member → xor_of (xor_of sum old) new ≡ changes_below entry i values (member + 1)
changes_held entry i values member sum old new before old_is held new_is =
    ap (λ (s : Bytes). xor_of (xor_of s old) new) before
    ∙ ap (λ (s : Bytes). xor_of (xor_of (changes_below entry i values member) s) new) old_is
    ∙ ap (xor_of (xor_of (changes_below entry i values member) (slice_index_or values member []))) (new_is ∙ sym (held_with entry i values member held))
    ∙ changes_more entry i values member

-- another one doesn't
pub changes_lacking : (entry : Entry) (i : ℕ) (values : List Bytes) (member : ℕ) (sum : Bytes) → sum ≡ changes_below entry i values member
    → has_bit (row_mask entry i) member ≡ false → sum ≡ changes_below entry i values (member + 1)
changes_lacking entry i values member sum before lacking =
    let so_far = changes_below entry i values member in
    let old = slice_index_or values member [] in
    let long : length so_far ≡ 512 = length-xor_of (sum_below (λ m. slice_index_or values m []) member) (sum_below (sector_with entry i values) member) in
    before
    ∙ sym (xor_of-assoc so_far old old ∙ ap (xor_of so_far) (xor_of-self old) ∙ xor_of-zero_right so_far long)
    ∙ ap (xor_of (xor_of so_far old)) (sym (lacking_with entry i values member lacking))
    ∙ changes_more entry i values member

-- since the old row is sound, that of all members is the XOR of the new row
pub changes_all : (members : ℕ) (entry : Entry) (i : ℕ) (values : List Bytes) → length values ≡ members → IsSoundRow values
    → changes_below entry i values members ≡ xor_of_all (row_with members entry i values)
changes_all members entry i values long sound =
    let by_member : values ≡ map (λ (m : ℕ). slice_index_or values m []) (range_with_len 0 members) =
    fill_by_all (λ (m : ℕ). slice_index_or values m []) values members [] long (λ k within. refl) in
    ap (λ (s : Bytes). xor_of s (xor_of_all (row_with members entry i values))) (sym (ap xor_of_all by_member) ∙ sound)
    ∙ xor_of-zero-xor_of_all (row_with members entry i values)
