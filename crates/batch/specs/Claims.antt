-- The place that a logical sector gets beside those that have one.
use Rattle.std.specs.Prelude.{◌≡◌, ℕ, ◌<◌, ◌≤◌, Bool, true, false, List, length, slice_set}
use Rattle.sector_model.specs.History.{Bytes}
use Rattle.layout_map.specs.declared.geometry.Geometry.{Geometry}
use Rattle.batch.specs.declared.placed.Placed.{Placed}
use Rattle.batch.specs.declared.staging.Claim.{Claim}
use Rattle.batch.specs.declared.staging.Claim.TheVariants.{Has, Full, At}
use Rattle.batch.specs.Places.{Given}
use Rattle.batch.specs.Staging.{AreHeld, IsAdded}

-- the sectors with this one where it got a place
abbrev pub with_claimed : Claim → (sector : ℕ × Bytes) → Given → Given
with_claimed Has sector all = all
with_claimed Full sector all = all
with_claimed (At number) sector all = slice_set all number sector

-- whether it has a place then
abbrev pub is_claimed : Claim → Bool
is_claimed Has = true
is_claimed Full = false
is_claimed (At number) = true

-- Whatever sectors have these places, with that one it is added to them.
pub record IsClaimed (geometry : Geometry) (limit logical : ℕ) (places more : List Placed) (claim : Claim) : Type 0 where
  pub room : (number : ℕ) → claim ≡ At number → number < limit
  pub adds : (all : Given) (sector : ℕ × Bytes) → sector.0 ≡ logical → limit ≤ length all → AreHeld geometry all places
      → IsAdded geometry limit sector all (with_claimed claim sector all) places more (is_claimed claim)
