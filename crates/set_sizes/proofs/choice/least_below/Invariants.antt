use Rattle.std.proofs.Common.{ℕ, ◌-◌, ◌<◌}
use Rattle.set_sizes.specs.Rooms.{HasRoom}
use Rattle.set_sizes.proofs.choice.least_below.Given as goal

abbrev pub invariant-loop-enough : goal.invariant-loop-enough
invariant-loop-enough l = record {
  enough : HasRoom l.members l.chunk l.blocks l.enough;
  too_few : (other : ℕ) → HasRoom l.members l.chunk l.blocks other → l.too_few < other;
}

abbrev pub decreases-loop-enough : goal.decreases-loop-enough
decreases-loop-enough l = l.enough - l.too_few
