-- No record so far has the name.
use Rattle.std.proofs.Common.{ℕ, ◌<◌}
use Rattle.extents.specs.Checks.{IsNamed}
use Rattle.extents.proofs.volume_table.found_in.Given as goal

abbrev pub invariant-loop-number : goal.invariant-loop-number
invariant-loop-number l = (i : ℕ) → i < l.number → IsNamed l.records i l.name → ⊥
