-- The sectors of the rows of an entry, with what it holds of them.
use Rattle.std.specs.Prelude.{ℕ, List, length, map}
use Rattle.std.specs.List.{range_with_len}
use Rattle.sector_model.specs.History.{Bytes}
use Rattle.stripe_journal.specs.declared.entry.Entry.{Entry}
use Rattle.stripe_journal.specs.Entries.{numbers_of}
use Rattle.stripe_journal.specs.Seals.{row_at}
use Rattle.degraded.specs.RowValue.{Rows, row_values}
use Rattle.array_io.specs.Steps.FormingRows.{row_with}

-- of each row of an entry the sectors of so many members: what the entry holds, and elsewhere what these rows say
abbrev pub values_of : (members : ℕ) → (base : Rows) → Entry → List (List Bytes)
values_of members base entry = map (λ i. row_with members entry i (row_values base (row_at (numbers_of entry) i)))
    (range_with_len 0 (length (numbers_of entry)))
