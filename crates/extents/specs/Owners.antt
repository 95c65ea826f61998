-- Who has which extent.
use Rattle.std.specs.Prelude.{◌≡◌, ℕ, ◌<◌, List, Option, Some, None, slice_index_or}
use Rattle.extents.specs.declared.owned.Owned.{Owned}

-- who has an extent; those after the list are free
abbrev pub owner_of : List (Option Owned) → ℕ → Option Owned
owner_of owners extent = slice_index_or owners extent None

-- the extent is this one of a volume's
abbrev pub IsAt : List (Option Owned) → (extent volume place : ℕ) → Type 0
IsAt owners extent volume place = owner_of owners extent ≡ Some record { volume = volume; place = place }

-- a volume has exactly n extents, at the places 0 to n - 1
pub record HasPlaces (owners : List (Option Owned)) (volume n : ℕ) : Type 0 where
  pub extent_at : (place : ℕ) → place < n → (extent : ℕ) × IsAt owners extent volume place
  pub below : (extent place : ℕ) → IsAt owners extent volume place → place < n
  pub once : (first second place : ℕ) → IsAt owners first volume place → IsAt owners second volume place → first ≡ second
