-- An entry in memory, and the device calls that put it on a journal.
use Rattle.std.specs.Prelude.{◌≡◌, ℕ, ◌+◌, ◌*◌, ◌%◌, ◌<◌, ◌≤◌, ◌==◌, Bool, true, if◌then◌else◌, List, [], length, map, replicate, take, drop}
use Rattle.std.specs.Prelude.{count_ones, slice_index_or}
use Rattle.std.specs.List.{flat_map, range_with_len}
use Rattle.std.specs.Borrow.{Lends, MutBor, Fml, Array, u8}
use Rattle.std.specs.Vec.{with_item}
use Rattle.entry_runs.specs.Body.{bits_below, has_bit}
use Rattle.entry_runs.specs.Built.{runs_in}
use Rattle.entry_runs.specs.Runs.{end_of_runs}
use Rattle.entry_runs.specs.WrittenOut.{masks_of_runs, rows_of_runs}
use Rattle.layout_map.specs.declared.format.Format.{Format}
use Rattle.layout_map.specs.declared.sizes.TheConstants.{ENTRY_ROWS, FIRST_BODY, HALVES, MOST_MEMBERS}
use Rattle.layout_map.specs.Formats.{body_sectors}
use Rattle.sector_model.specs.History.{Bytes}
use Rattle.stripe_journal.specs.declared.entry.Entry.{Entry}
use Rattle.stripe_journal.specs.declared.form.Form.{Form}
use Rattle.stripe_journal.specs.declared.form.Form.TheVariants.{Held}
use Rattle.stripe_journal.specs.contracts.entry.Entry.{the_row}
use Rattle.stripe_journal.specs.declared.seal.Seal.{Seal}
use Rattle.stripe_journal.specs.Forms.{IsForm, format_of, has_zeros, held_members, in_body, mask_at, rank, rows_in}

-- the row numbers of an entry, rising, those of zeros among them
abbrev pub numbers_of : Entry → List ℕ
numbers_of entry = rows_of_runs (runs_in entry.runs)

-- the row after the last of an entry, 0 where it has none
abbrev pub end_of : Entry → ℕ
end_of entry = end_of_runs (runs_in entry.runs)

-- the masks of its rows, 0 for a row of zeros
abbrev pub masks_of : Entry → List ℕ
masks_of entry = masks_of_runs (runs_in entry.runs)

-- the rows of an entry written out, each with its mask: which of their sectors it has, and where
abbrev pub form_of : Entry → Form
form_of entry = Held (record { items = numbers_of entry }) (masks_of entry)

-- the mask of the i-th row of an entry
abbrev pub row_mask : Entry → (i : ℕ) → ℕ
row_mask entry i = mask_at (masks_of entry) i

-- how many sectors an entry has before that of a member, 0 to 7, in the i-th row
abbrev pub place_at : Entry → (i member : ℕ) → ℕ
place_at entry i member = rank MOST_MEMBERS (form_of entry) i member

-- the sector of a member in the i-th row of an entry, where it holds that
abbrev pub sector_at : Entry → (i member : ℕ) → Bytes
sector_at entry i member = if has_bit (row_mask entry i) member then slice_index_or entry.sectors.items (place_at entry i member) [] else []

-- the sectors of the i-th row that it holds
abbrev pub row_of : Entry → (i : ℕ) → List Bytes
row_of entry i = take (bits_below (row_mask entry i) MOST_MEMBERS) (drop (place_at entry i 0) entry.sectors.items)

-- the entry with another sector there
abbrev pub with_sector : Entry → (i member : ℕ) → Bytes → Entry
with_sector entry i member value = record entry { sectors = with_item entry.sectors (place_at entry i member) value }

-- the entry ends with the last value after r in that sector
abbrev pub LendsSector : MutBor Entry → (i member : ℕ) → MutBor Bytes → Fml
LendsSector entry i member r = Lends the_row (Array u8 512) entry r (with_sector entry.now i member)

-- the sector of a member, where a row holds those that its mask has
abbrev pub sector_of_row : (mask : ℕ) → List Bytes → (member : ℕ) → Bytes
sector_of_row mask row member = slice_index_or row (bits_below mask member) []

-- a row with this mask holds a member's sector: where it is one of zeros, those of all
abbrev pub mask_holds : (mask member : ℕ) → Bool
mask_holds mask member = if mask == 0 then true else has_bit mask member

-- the sector that a row holds of a member: where it is one of zeros, zero
abbrev pub sector_of_mask : (mask : ℕ) → Bytes → Bytes
sector_of_mask mask value = if mask == 0 then replicate 512 0 else value

-- the same of the i-th row of an entry
abbrev pub holds_sector : Entry → (i member : ℕ) → Bool
holds_sector entry i member = mask_holds (row_mask entry i) member

abbrev pub sector_in_row : Entry → (i member : ℕ) → Bytes
sector_in_row entry i member = sector_of_mask (row_mask entry i) (sector_at entry i member)

-- of a row's sectors, those that its mask has, the ones of so many members
abbrev pub held_of : (members mask : ℕ) → List Bytes → List Bytes
held_of members mask row = map (sector_of_row mask row) (held_members members (has_bit mask))

-- what an entry's body holds, sector after sector: of each row the sectors that its mask has, of so many members
abbrev pub body_of : (members : ℕ) → Entry → List Bytes
body_of members entry = flat_map (λ i. held_of members (row_mask entry i) (row_of entry i)) (range_with_len 0 (length (numbers_of entry)))

-- the sector with which the half of the entry of this number begins, on a journal of this format
unfoldable pub half_start : Format → (number : ℕ) → ℕ
half_start format number = FIRST_BODY + body_sectors format * (number % HALVES)

-- the sector with which the body of a seal's entry begins
abbrev pub body_start : Seal → ℕ
body_start seal = half_start (format_of seal.form) seal.number

-- at most 32 rows, of each of which the entry has two sectors at least: what an entry of a set of format 1 is
pub record ListsItsRows (entry : Entry) : Type 0 where
  pub few : length (numbers_of entry) ≤ ENTRY_ROWS
  pub two : (i : ℕ) → i < length (numbers_of entry) → 2 ≤ count_ones (row_mask entry i)

-- An entry in memory has the rows of a seal of this form; of each it has the sectors of the set's members that the body of the seal's entry has, and its rows
-- of zeros are that entry's.
pub record IsEntryOf (members : ℕ) (form : Form) (entry : Entry) : Type 0 where
  pub rows : numbers_of entry ≡ rows_in form
  pub held : (i member : ℕ) → i < length (rows_in form) → member < members → in_body members (form_of entry) i member ≡ in_body members form i member
  pub zeros : (i : ℕ) → i < length (rows_in form) → has_zeros form i ≡ (row_mask entry i == 0)

-- A form says of an entry what a seal of a set of this format says: its rows, which of their sectors its body has, and which rows are of zeros.
pub record IsFormOf (entry : Entry) (format : Format) (form : Form) : Type 0 where
  pub of_format : format_of form ≡ format
  pub formed : IsForm form
  pub rows : rows_in form ≡ numbers_of entry
  pub held : (members i member : ℕ) → i < length (numbers_of entry) → in_body members form i member ≡ has_bit (row_mask entry i) member
  pub zeros : (i : ℕ) → i < length (numbers_of entry) → has_zeros form i ≡ (row_mask entry i == 0)
