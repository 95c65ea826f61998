-- A scrub's report, from row to row.
use Rattle.std.specs.Prelude.{◌≡◌, ◌⊎◌, ℕ, ◌+◌, ◌<◌, ◌≤◌, Bool, true, false, List, length, map, slice_get, Contains, Option, Some, None, Result, Ok, Err}
use Rattle.std.specs.Option.{ok_or}
use Rattle.std.specs.List.{range_with_len}
use Rattle.std.specs.List.Sorted.{IsStrictlyIncreasing}
use Rattle.sector_model.specs.declared.refusal.Refusal.{Refusal}
use Rattle.sector_model.specs.declared.refusal.Refusal.TheVariants.{Incomplete}
use Rattle.sector_model.specs.History.{Bytes, Slots, disk_of, sector_of}
use Rattle.layout_map.specs.declared.sizes.TheConstants.{FIRST_ROW}
use Rattle.parity.specs.Xor.{IsSoundRow}
use Rattle.superblock.specs.declared.table.Table.{Table}
use Rattle.scrub.specs.declared.report.ScrubReport.{ScrubReport}
use Rattle.scrub.specs.Scrubbing.{Report, row_in}

-- the sectors of the first members in a row, as they stand
abbrev pub first_in_row : Slots → (row count : ℕ) → List Bytes
first_in_row image row count = map (λ member. sector_of (disk_of (image member)) (FIRST_ROW + row)) (range_with_len 0 count)

-- a report, as a scrub's record has it
abbrev pub report_of : ScrubReport → Report
report_of report = record { rows = report.rows; bad = report.bad; first_bad = report.first_bad }

-- what a scrub answers, as its record has it
abbrev pub told_by : Result ScrubReport Refusal → Result Report Refusal
told_by (Ok report) = Ok (report_of report)
told_by (Err refusal) = Err refusal

-- what is told before the first row was looked at
abbrev pub no_row_yet : Report
no_row_yet = record { rows = 0; bad = 0; first_bad = None }

-- the first of some rows, where this one comes after them
abbrev pub first_or : Option ℕ → ℕ → Option ℕ
first_or None row = Some row
first_or (Some first) row = Some first

-- the report with this row more
abbrev pub counted : Report → (row : ℕ) → (is_sound : Bool) → Report
counted report row true = record { rows = report.rows + 1; bad = report.bad; first_bad = report.first_bad }
counted report row false = record {
  rows = report.rows + 1;
  bad = report.bad + 1;
  first_bad = first_or report.first_bad row;
}

-- whether all rows were read, or a slot was marked missing (`false`), or the scrub was refused
abbrev pub were_read : Result (Option ScrubReport) Refusal → Result Bool Refusal
were_read (Ok (Some report)) = Ok true
were_read (Ok None) = Ok false
were_read (Err refusal) = Err refusal

-- what a scrub answers, by what came of its rows
abbrev pub reported : Result (Option ScrubReport) Refusal → Result ScrubReport Refusal
reported (Ok found) = ok_or found Incomplete
reported (Err refusal) = Err refusal

-- It tells of some of the rows from the first of a part up to one, each of them once, and on an honest bank of exactly
-- those that are not sound.
pub record TellsBelow (honest : Type 0) (table : Table) (image : Slots) (first row : ℕ) (report : Report) : Type 0 where
  pub rows : List ℕ
  pub rising : IsStrictlyIncreasing rows
  pub between : (bad : ℕ) → Contains rows bad → (first ≤ bad) × (bad < row)
  pub few : length rows ≤ report.rows
  pub looked_at : first + report.rows ≡ row
  pub bad : report.bad ≡ length rows
  pub first_bad : report.first_bad ≡ slice_get rows 0
  pub unsound : honest → (bad : ℕ) → Contains rows bad → ¬ IsSoundRow (row_in table image bad)
  pub all : honest → (other : ℕ) → first ≤ other → other < row
      → Contains rows other ⊎ IsSoundRow (row_in table image other)
