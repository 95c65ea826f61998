-- Each place so far occurs.
use Rattle.std.proofs.Common.{ℕ, ◌<◌}
use Rattle.extents.specs.Owners.{IsAt}
use Rattle.extents.proofs.checks.places_occur.Given as goal

abbrev pub invariant-loop-place : goal.invariant-loop-place
invariant-loop-place l = (p : ℕ) → p < l.place → (e : ℕ) × IsAt l.extents e l.volume p
