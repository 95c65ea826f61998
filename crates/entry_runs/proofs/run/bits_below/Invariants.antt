-- The bits so far are counted.
use Rattle.std.proofs.Common.{◌≡◌}
use Rattle.entry_runs.specs.Body.{bits_below}
use Rattle.entry_runs.proofs.run.bits_below.Given as goal

abbrev pub invariant-loop-below : goal.invariant-loop-below
invariant-loop-below l = l.count ≡ bits_below l.mask l.below
