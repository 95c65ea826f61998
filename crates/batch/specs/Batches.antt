-- What waits in a batch.
use Rattle.std.specs.Prelude.{◌≤◌, length}
use Rattle.entry_runs.specs.Built.{runs_in}
use Rattle.entry_runs.specs.WrittenOut.{masks_of_runs, rows_of_runs}
use Rattle.batch.specs.declared.batch.Batch.{Batch}
use Rattle.batch.specs.Listed.{places_in}
use Rattle.batch.specs.Places.{AreApart, AreOfSet, ArePlacesOf, ArePlanned, Given}
use Rattle.batch.specs.Staging.{first_of, most_of}

-- the sectors that wait, in the order in which they came
abbrev pub waiting : Batch → Given
waiting batch = first_of (places_in batch.places) batch.sectors.items

-- Each batch is so: its sectors are of the set, not too many, and none is there twice; these are their places; and these runs have the rows that a commit
-- changes.
pub record IsBatch (batch : Batch) : Type 0 where
  pub few : length (waiting batch) ≤ most_of batch.geometry.format
  pub of_set : AreOfSet batch.geometry (waiting batch)
  pub apart : AreApart (waiting batch)
  pub placed : ArePlacesOf batch.geometry (waiting batch) (places_in batch.places)
  pub planned : ArePlanned batch.geometry (places_in batch.places) (rows_of_runs (runs_in batch.runs)) (masks_of_runs (runs_in batch.runs))
