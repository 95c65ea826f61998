-- Which sectors of its rows an entry holds, and how many.
use Rattle.std.specs.Prelude.{◌≡◌, ℕ, zero, suc, ◌+◌, ◌<◌, ◌≤◌, ◌==◌, Bool, true, false, nat_lt, if◌then◌else◌, List, [], ◌∷◌, filter, length}
use Rattle.std.specs.Prelude.{slice_index_or, count_ones}
use Rattle.std.specs.List.{range_with_len}
use Rattle.arrayvec.specs.ArrayVec.{ArrayVec}
use Rattle.entry_runs.specs.Body.{bits_below}
pub use Rattle.entry_runs.specs.Body.{count_held, has_bit}
use Rattle.entry_runs.specs.WrittenOut.{masks_of_runs, rows_of_runs}
use Rattle.layout_map.specs.declared.format.Format.{Format}
use Rattle.layout_map.specs.declared.format.Format.TheVariants.{One, Two}
use Rattle.layout_map.specs.declared.geometry.Geometry.{Geometry}
use Rattle.layout_map.specs.declared.sizes.TheConstants.{ENTRY_ROWS}
use Rattle.layout_map.specs.Placement.{IsParityOf}
use Rattle.stripe_journal.specs.declared.form.Form.{Form}
use Rattle.stripe_journal.specs.declared.form.Form.TheVariants.{Held, Runs, Whole}

-- the mask of the i-th row
abbrev pub mask_at : List ℕ → (i : ℕ) → ℕ
mask_at masks i = slice_index_or masks i 0

-- the rows of an entry: those of runs are written out
abbrev pub rows_in : Form → List ℕ
rows_in (Whole rows) = rows.items
rows_in (Held rows masks) = rows.items
rows_in (Runs runs) = rows_of_runs runs.list.items

-- the format of the sets in which a seal of this form may count
abbrev pub format_of : Form → Format
format_of (Whole rows) = One
format_of (Held rows masks) = One
format_of (Runs runs) = Two

-- whether the body of an entry has a member's sector of the i-th row, in a set with so many members
abbrev pub in_body : (members : ℕ) → Form → (i member : ℕ) → Bool
in_body members (Whole rows) i member = nat_lt member members
in_body members (Held rows masks) i member = has_bit (mask_at masks i) member
in_body members (Runs runs) i member = has_bit (mask_at (masks_of_runs runs.list.items) i) member

-- whether the i-th row of an entry is one of zeros: every member's sector is zero, and none stands in the body
abbrev pub has_zeros : Form → (i : ℕ) → Bool
has_zeros (Whole rows) i = false
has_zeros (Held rows masks) i = false
has_zeros (Runs runs) i = mask_at (masks_of_runs runs.list.items) i == 0

-- whether the i-th row of an entry holds a member's sector: of a row of zeros it holds those of all members, else what the body has
abbrev pub holds : (members : ℕ) → Form → (i member : ℕ) → Bool
holds members form i member = if has_zeros form i then nat_lt member members else in_body members form i member

-- masks of an entry with so many rows: one byte each, with two bits at least for a row, and zero after the last row
pub record AreMasks (masks : List ℕ) (count : ℕ) : Type 0 where
  pub long : length masks ≡ ENTRY_ROWS
  pub bytes : (i : ℕ) → mask_at masks i < 256
  pub two_bits : (i : ℕ) → i < count → 2 ≤ count_ones (mask_at masks i)
  pub rest : (i : ℕ) → count ≤ i → mask_at masks i ≡ 0

-- What a seal may say of what its entry holds: rows that it lists are at most 32, and masks beside them those of so many rows.
pub record IsForm (form : Form) : Type 0 where
  pub whole : (rows : ArrayVec ℕ) → form ≡ Whole rows → length rows.items ≤ ENTRY_ROWS
  pub held : (rows : ArrayVec ℕ) (masks : List ℕ) → form ≡ Held rows masks → (length rows.items ≤ ENTRY_ROWS) × AreMasks masks (length rows.items)

-- A row that holds sectors of these members fits a set: it holds no sector of a member that the set lacks, and that of the row's parity.
pub record HoldsRow (geometry : Geometry) (row : ℕ) (held : ℕ → Bool) : Type 0 where
  pub of_set : (member : ℕ) → held member ≡ true → member < geometry.members
  pub has_parity : (member : ℕ) → IsParityOf geometry.members geometry.chunk row member → held member ≡ true

-- how many sectors of a body the rows before the i-th have
abbrev pub held_before : (members : ℕ) → Form → (i : ℕ) → ℕ
held_before members form zero = 0
held_before members form (suc i) = held_before members form i + count_held (in_body members form i) members

-- how many sectors a body has before a member's sector of the i-th row: those of the rows before it, and those of the members before it
abbrev pub rank : (members : ℕ) → Form → (i member : ℕ) → ℕ
rank members form i member = held_before members form i + count_held (in_body members form i) member

-- how many sectors of a body rows with these masks have
abbrev pub held_by_masks : (members : ℕ) → List ℕ → ℕ
held_by_masks members [] = 0
held_by_masks members (mask ∷ masks) = bits_below mask members + held_by_masks members masks

-- the members that are held, of those of a set
abbrev pub held_members : (members : ℕ) → (held : ℕ → Bool) → List ℕ
held_members members held = filter held (range_with_len 0 members)
