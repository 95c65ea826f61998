-- Where a seal belongs.
use Rattle.std.specs.Prelude.{◌≡◌, ◌≢◌, ℕ, ◌%◌, ◌<◌, ◌≤◌, List, length}
use Rattle.entry_runs.specs.declared.run.Run.{Run}
use Rattle.entry_runs.specs.Body.{has_bit}
use Rattle.entry_runs.specs.Runs.{end_of}
use Rattle.layout_map.specs.declared.sizes.TheConstants.{HALVES}
use Rattle.layout_map.specs.declared.geometry.Geometry.{Geometry}
use Rattle.layout_map.specs.Placement.{rows_of}
use Rattle.stripe_journal.specs.declared.form.Form.{Form}
use Rattle.stripe_journal.specs.declared.seal.Seal.{Seal}
use Rattle.stripe_journal.specs.Forms.{HoldsRow, format_of, holds, rows_in}
use Rattle.stripe_journal.specs.Seals.{row_at}

-- these are rows of a set
abbrev pub AreBelow : Geometry → List ℕ → Type 0
AreBelow geometry rows = (i : ℕ) → i < length rows → row_at rows i < rows_of geometry.chunk geometry.stripes

-- an entry of this form holds of each of these rows only sectors of a set's members, that with the parity among them
abbrev pub RowsHold : Geometry → Form → List ℕ → Type 0
RowsHold geometry form rows = (i : ℕ) → i < length rows → HoldsRow geometry (row_at rows i) (holds geometry.members form i)

-- a run fits a set: it is one of zeros, or its mask has in each of its rows bits of the set's members only, that of the parity among them
abbrev pub FitsRun : Geometry → Run → Type 0
FitsRun geometry run = run.mask ≢ 0 → (row : ℕ) → run.first ≤ row → row < end_of run → HoldsRow geometry row (has_bit run.mask)

-- A seal belongs into a seal place (0 or 1) of a set's journal: it has the set's id, its form is one of the set's format, the place is that of
-- its number, its rows are rows of the set, and its entry holds sectors of the set's members, in each row that with the parity among them.
pub record Belongs (id : List ℕ) (geometry : Geometry) (place : ℕ) (seal : Seal) : Type 0 where
  pub of_set : seal.id ≡ id
  pub of_format : format_of seal.form ≡ geometry.format
  pub own_place : seal.number % HALVES ≡ place
  pub below : AreBelow geometry (rows_in seal.form)
  pub held : RowsHold geometry seal.form (rows_in seal.form)
