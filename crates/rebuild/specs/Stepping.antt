-- A step of a rebuild, by its code's words.
use Rattle.std.specs.Prelude.{◌≡◌, ◌⊎◌, ℕ, ◌<◌, Result, Ok, Err}
use Rattle.sector_model.specs.declared.refusal.Refusal.{Refusal}
use Rattle.layout_map.specs.declared.geometry.Geometry.{Geometry}
use Rattle.layout_map.specs.Placement.{rows_of}
use Rattle.superblock.specs.declared.table.Table.{Table}
use Rattle.superblock.specs.NextTables.{IsMoved, IsRebuilt}
use Rattle.array_io.specs.Believed.Holds.{row_count}
use Rattle.rebuild.specs.declared.progress.Progress.{Progress}
use Rattle.rebuild.specs.declared.progress.Progress.TheVariants as declared
use Rattle.rebuild.specs.Rebuilding as told
use Rattle.rebuild.specs.Rebuilding.{Complete, Position}

-- the progress that the code's tells of
abbrev pub progress_by : Progress → told.Progress
progress_by (declared.Position position) = Position position
progress_by declared.Complete = Complete

-- and its answer
abbrev pub answer_by : Result Progress Refusal → Result told.Progress Refusal
answer_by (Ok progress) = Ok (progress_by progress)
answer_by (Err refusal) = Err refusal

-- the next table of a step up to this row: the new position, or the member in sync after the last one
abbrev pub IsNextAt : (old : Table) → (member end : ℕ) → (new : Table) → Type 0
IsNextAt old member end new = ((end < row_count old) × IsMoved old end new) ⊎ ((end ≡ row_count old) × IsRebuilt old member new)

-- how far the rebuild is then
abbrev pub IsProgressAt : Geometry → (end : ℕ) → Progress → Type 0
IsProgressAt geometry end progress = ((end < rows_of geometry.chunk geometry.stripes) × (progress_by progress ≡ Position end))
    ⊎ ((end ≡ rows_of geometry.chunk geometry.stripes) × (progress_by progress ≡ Complete))
