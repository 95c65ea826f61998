-- What a seal may say.
use Rattle.std.specs.Prelude.{ℕ, ◌<◌, ◌≤◌, ◌^◌, List, length, slice_index_or}
use Rattle.std.specs.List.Sorted.{IsStrictlyIncreasing}
use Rattle.sector_model.specs.declared.calls.TheConstants.{GREATEST_COUNT}

-- the row of this number in a seal
abbrev pub row_at : List ℕ → ℕ → ℕ
row_at rows i = slice_index_or rows i 0

-- the rows of an entry: one at least, each below the next
pub record AreRows (rows : List ℕ) : Type 0 where
  pub least : 1 ≤ length rows
  pub each : (i : ℕ) → i < length rows → row_at rows i < 2 ^ 32
  pub rising : IsStrictlyIncreasing rows

-- an entry has a number, and rows
pub record IsSeal (number : ℕ) (numbers : List ℕ) : Type 0 where
  pub number_least : 1 ≤ number
  pub number_most : number ≤ GREATEST_COUNT
  pub rows : AreRows numbers
