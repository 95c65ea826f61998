-- Single logical sectors that one entry makes zero.
use Rattle.std.specs.Prelude.{ℕ, List, map}
use Rattle.std.specs.List.{range_with_len}
use Rattle.parity.specs.Xor.{zero_sector}
use Rattle.batch.specs.Places.{Given}

-- these logical sectors, each with zeros
abbrev pub with_zeros : List ℕ → Given
with_zeros sectors = map (λ logical. (logical, zero_sector)) sectors

-- those from the first on, so many
abbrev pub zeros_from : (first count : ℕ) → Given
zeros_from first count = with_zeros (range_with_len first count)
