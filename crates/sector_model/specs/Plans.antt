-- When the devices of a bank in memory go down.
use Rattle.std.specs.Prelude.{ℕ, Bool, false, ◌||◌, nat_le, Option, Some, None, slice_index_or}
use Rattle.sector_model.specs.declared.plan.Plan.{Plan}

-- a moment that was planned has come
abbrev pub has_come : Option ℕ → ℕ → Bool
has_come None call = false
has_come (Some first) call = nat_le first call

-- the plan takes this device down at a call of this number
abbrev pub fails_at : Plan → ℕ → ℕ → Bool
fails_at plan dev call = has_come (slice_index_or plan.down dev None) call || has_come plan.stop call
