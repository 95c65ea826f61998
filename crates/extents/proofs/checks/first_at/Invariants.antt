-- No extent so far is the volume's at the place.
use Rattle.std.proofs.Common.{ℕ, ◌<◌}
use Rattle.extents.specs.Owners.{IsAt}
use Rattle.extents.proofs.checks.first_at.Given as goal

abbrev pub invariant-loop-extent : goal.invariant-loop-extent
invariant-loop-extent l = (e : ℕ) → e < l.extent → IsAt l.extents e l.volume l.place → ⊥
