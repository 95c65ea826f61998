-- The one spelling of a seal as a sector: 512 bytes, numbers with their lowest byte first.
use Rattle.std.specs.Prelude.{ℕ, ◌-◌, ◌*◌, List, ◌++◌, length, replicate, codes}
use Rattle.std.specs.List.{flat_map}
use Rattle.byteorder.specs.Endian.{little_bytes}
use Rattle.entry_runs.specs.Spelling.{runs_bytes}
use Rattle.stripe_journal.specs.declared.form.Form.{Form}
use Rattle.stripe_journal.specs.declared.form.Form.TheVariants.{Held, Runs, Whole}
use Rattle.stripe_journal.specs.declared.seal.Seal.{Seal}

-- the marks at the start and the end of a seal, by its form
unfoldable pub first_mark : Form → List ℕ
first_mark (Whole rows) = codes "RAID5JE1"
first_mark (Held rows masks) = codes "RAID5JE2"
first_mark (Runs runs) = codes "RAID5JE3"

unfoldable pub last_mark : Form → List ℕ
last_mark (Whole rows) = codes "1EJ5DIAR"
last_mark (Held rows masks) = codes "2EJ5DIAR"
last_mark (Runs runs) = codes "3EJ5DIAR"

-- bytes that say nothing
unfoldable pub zeros : ℕ → List ℕ
zeros n = replicate n 0

-- the count in a seal: of rows where it lists them, else of runs
abbrev pub count_in : Form → ℕ
count_in (Whole rows) = length rows.items
count_in (Held rows masks) = length rows.items
count_in (Runs runs) = length runs.list.items

-- 32 row numbers of 4 bytes: those of the seal, and zeros for the rest
unfoldable pub row_numbers : List ℕ → List ℕ
row_numbers rows = flat_map (little_bytes 4) rows ++ zeros (128 - 4 * length rows)

-- row numbers, 32 masks of one byte, zeros
unfoldable pub listed_bytes : (rows masks : List ℕ) → List ℕ
listed_bytes rows masks = row_numbers rows ++ masks ++ zeros 304

-- what an entry holds, in 464 bytes: listed rows, with zeros for masks where the form has none, or runs
unfoldable pub held_bytes : Form → List ℕ
held_bytes (Whole rows) = listed_bytes rows.items (zeros 32)
held_bytes (Held rows masks) = listed_bytes rows.items masks
held_bytes (Runs runs) = runs_bytes runs.list.items

-- mark, id, number, count, 4 zeros, what is held, mark
unfoldable pub seal_bytes : List ℕ → ℕ → Form → List ℕ
seal_bytes id number form =
    first_mark form ++ id ++ little_bytes 8 number ++ little_bytes 4 (count_in form) ++ zeros 4 ++ held_bytes form ++ last_mark form

-- the sector of a seal
abbrev pub seal_sector : Seal → List ℕ
seal_sector seal = seal_bytes seal.id seal.number seal.form
