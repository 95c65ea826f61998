-- The rows of runs and their masks, written out: two lists of the same length.
use Rattle.std.specs.Prelude.{ℕ, ◌+◌, List, [], ◌∷◌, ◌++◌, replicate, count_ones}
use Rattle.std.specs.List.{range_with_len}
use Rattle.entry_runs.specs.declared.run.Run.{Run}

-- each row, a row of zeros among them
abbrev pub rows_of_runs : List Run → List ℕ
rows_of_runs [] = []
rows_of_runs (run ∷ runs) = range_with_len run.first run.length ++ rows_of_runs runs

-- the mask of each row, 0 for a row of zeros
abbrev pub masks_of_runs : List Run → List ℕ
masks_of_runs [] = []
masks_of_runs (run ∷ runs) = replicate run.length run.mask ++ masks_of_runs runs

-- how many bits masks have
abbrev pub bits_in : List ℕ → ℕ
bits_in [] = 0
bits_in (mask ∷ masks) = count_ones mask + bits_in masks
