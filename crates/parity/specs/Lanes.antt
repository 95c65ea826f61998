-- A sector in vectors of 64 lanes, a byte a lane.
use Rattle.std.specs.Prelude.{ℕ, List, [], ◌∷◌, ◌++◌}

-- the bytes of the vectors in order. Those of eight vectors are a sector: vector i has the bytes 64 i to 64 i + 63
abbrev pub sector_in : List (List ℕ) → List ℕ
sector_in [] = []
sector_in (vector ∷ vectors) = vector ++ sector_in vectors
