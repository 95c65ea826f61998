-- No extent so far is at the place.
use Rattle.std.proofs.Common.{ℕ, ◌<◌}
use Rattle.extents.specs.Owners.{IsAt}
use Rattle.volume_table.proofs.oracle.extent_at.Given as goal

abbrev pub invariant-loop-extent : goal.invariant-loop-extent
invariant-loop-extent l = (e : ℕ) → e < l.extent → IsAt l.owners e l.number l.place → ⊥
