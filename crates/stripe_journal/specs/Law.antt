-- What the spelling of seals keeps, and the places of bodies.
use Rattle.std.specs.Prelude.{◌≡◌, ℕ, ◌+◌, ◌*◌, ◌%◌, ◌<◌, ◌≤◌, List, [], length, take, drop, slice_index, slice_index_or, Some}
use Rattle.layout_map.specs.declared.sizes.TheConstants.{FIRST_BODY, HALVES, MOST_MEMBERS}
use Rattle.layout_map.specs.Formats.{journal_sectors}
use Rattle.entry_runs.specs.declared.sizes.TheConstants.{RUNS_BYTES}
use Rattle.entry_runs.specs.Spelling.{runs_bytes}
use Rattle.arrayvec.specs.ArrayVec.{ArrayVec}
use Rattle.byteorder.specs.Endian.{little_number}
use Rattle.stripe_journal.specs.Forms.{format_of, rows_in}
use Rattle.stripe_journal.specs.declared.entry.Entry.{Entry}
use Rattle.stripe_journal.specs.declared.form.Form.{Form}
use Rattle.stripe_journal.specs.declared.form.Form.TheVariants.{Held, Runs, Whole}
use Rattle.stripe_journal.specs.declared.seal.Seal.{Seal}
use Rattle.stripe_journal.specs.Body.{place_by_seal}
use Rattle.stripe_journal.specs.Entries.{IsEntryOf, body_of, body_start, sector_at}
use Rattle.stripe_journal.specs.Seals.{row_at}
use Rattle.stripe_journal.specs.Spelling.{count_in, first_mark, last_mark, seal_sector, zeros}

-- what stands in the bytes from 40 to 503 of a seal that lists its rows
pub record HasListed (sector rows masks : List ℕ) : Type 0 where
  pub rows_are : (i : ℕ) → i < length rows → little_number 4 (drop (40 + 4 * i) sector) ≡ row_at rows i
  pub past_is : (at : ℕ) → 40 + 4 * length rows ≤ at → at < 168 → slice_index sector at ≡ 0
  pub masks_are : take 32 (drop 168 sector) ≡ masks
  pub rest_is : (at : ℕ) → 200 ≤ at → at < 504 → slice_index sector at ≡ 0

-- and by the form of a seal: listed rows, with zeros for masks where the form has none, or the bytes of its runs
abbrev pub HasHeld : (sector : List ℕ) → Form → Type 0
HasHeld sector (Whole rows) = HasListed sector rows.items (zeros 32)
HasHeld sector (Held rows masks) = HasListed sector rows.items masks
HasHeld sector (Runs runs) = take RUNS_BYTES (drop 40 sector) ≡ runs_bytes runs.list.items

-- what stands at which byte of a seal's sector
pub record HasFields (sector : List ℕ) (seal : Seal) : Type 0 where
  pub begins : take 8 sector ≡ first_mark seal.form
  pub id_is : take 16 (drop 8 sector) ≡ seal.id
  pub number_is : little_number 8 (drop 24 sector) ≡ seal.number
  pub count_is : little_number 4 (drop 32 sector) ≡ count_in seal.form
  pub gap_is : (at : ℕ) → 36 ≤ at → at < 40 → slice_index sector at ≡ 0
  pub held_is : HasHeld sector seal.form
  pub ends : drop 504 sector ≡ last_mark seal.form

-- the spelling of a seal fills a sector
abbrev pub FillsASector : Type 0
FillsASector = (seal : Seal) → length seal.id ≡ 16 → length (seal_sector seal) ≡ 512

-- it has each field in its place
abbrev pub FieldsAreInPlace : Type 0
FieldsAreInPlace = (seal : Seal) → length seal.id ≡ 16 → HasFields (seal_sector seal) seal

-- a sector of bytes with each field of a seal in its place is the spelling of the seal
abbrev pub FieldsSpellTheSeal : Type 0
FieldsSpellTheSeal = (sector : List ℕ) (seal : Seal) → length sector ≡ 512 → ((k : ℕ) → slice_index sector k < 256) → HasFields sector seal
    → sector ≡ seal_sector seal

-- a sector spells one seal at most
abbrev pub SpellsOneSeal : Type 0
SpellsOneSeal = (sector : List ℕ) (first second : Seal) → length sector ≡ 512 → sector ≡ seal_sector first → sector ≡ seal_sector second → first ≡ second

-- a body of a set of at most 8 members lies in sectors 8 to 519, and one of a form of format 2 in sectors 8 to 8,199
abbrev pub BodiesAreWithin : Type 0
BodiesAreWithin = (members : ℕ) (seal : Seal) (row member place : ℕ) → members ≤ MOST_MEMBERS → member < members
    → place_by_seal members seal row member ≡ Some place → (FIRST_BODY ≤ place) × (place < journal_sectors (format_of seal.form))

-- one sector is in the bodies of two entries of one format only where their numbers are both even or both odd
abbrev pub HalvesLieApart : Type 0
HalvesLieApart = (members : ℕ) (first second : Seal) (row member row' member' place : ℕ) → members ≤ MOST_MEMBERS → member < members → member' < members
    → format_of first.form ≡ format_of second.form
    → place_by_seal members first row member ≡ Some place → place_by_seal members second row' member' ≡ Some place
    → first.number % HALVES ≡ second.number % HALVES

-- one sector of a body is one member's of one row
abbrev pub BodiesLieApart : Type 0
BodiesLieApart = (members : ℕ) (seal : Seal) (row member row' member' place : ℕ) → member < members → member' < members
    → place_by_seal members seal row member ≡ Some place → place_by_seal members seal row' member' ≡ Some place → (row ≡ row') × (member ≡ member')

-- an entry whose seal names no members holds those of each row, one after another
abbrev pub WholeRowsFollow : Type 0
WholeRowsFollow = (members : ℕ) (seal : Seal) (i member : ℕ) → (rows : ArrayVec ℕ) → seal.form ≡ Whole rows → i < length (rows_in seal.form) → member < members
    → place_by_seal members seal (row_at (rows_in seal.form) i) member ≡ Some (body_start seal + i * members + member)

-- what is written of an entry in memory stands where its seal says
abbrev pub BodiesAreInPlace : Type 0
BodiesAreInPlace = (members : ℕ) (seal : Seal) (entry : Entry) (i member k : ℕ) → members ≤ MOST_MEMBERS → IsEntryOf members seal.form entry
    → i < length (rows_in seal.form) → member < members → place_by_seal members seal (row_at (rows_in seal.form) i) member ≡ Some (body_start seal + k)
    → slice_index_or (body_of members entry) k [] ≡ sector_at entry i member
