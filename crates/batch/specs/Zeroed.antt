-- What a list of sectors that become zero has.
use Rattle.std.specs.Prelude.{◌≡◌, ◌≤◌, ℕ, ◌<◌, List, length, take}
use Rattle.entry_runs.specs.Built.{runs_in}
use Rattle.entry_runs.specs.WrittenOut.{masks_of_runs, rows_of_runs}
use Rattle.parity.specs.Xor.{zero_sector}
use Rattle.batch.specs.declared.zero_sectors.ZeroSectors.{ZeroSectors}
use Rattle.batch.specs.Listed.{places_in}
use Rattle.batch.specs.Places.{AreApart, AreOfSet, ArePlacesOf, ArePlanned, Given, bytes_at}
use Rattle.batch.specs.Staging.{most_of}
use Rattle.batch.specs.ZeroSectors.{with_zeros}

-- its logical sectors, in the order in which they came
abbrev pub listed : ZeroSectors → List ℕ
listed zeros = take (length (places_in zeros.places)) zeros.sectors

-- each with zeros
abbrev pub zeroed : ZeroSectors → Given
zeroed zeros = with_zeros (listed zeros)

-- Each list is so: its sectors are of the set, not too many, none is there twice, and each has zeros; these are their places; and these runs have the rows that
-- a commit changes.
pub record IsZeroed (zeros : ZeroSectors) : Type 0 where
  pub few : length (zeroed zeros) ≤ most_of zeros.geometry.format
  pub of_set : AreOfSet zeros.geometry (zeroed zeros)
  pub apart : AreApart (zeroed zeros)
  pub zero : (k : ℕ) → k < length (zeroed zeros) → bytes_at (zeroed zeros) k ≡ zero_sector
  pub placed : ArePlacesOf zeros.geometry (zeroed zeros) (places_in zeros.places)
  pub planned : ArePlanned zeros.geometry (places_in zeros.places) (rows_of_runs (runs_in zeros.runs)) (masks_of_runs (runs_in zeros.runs))
