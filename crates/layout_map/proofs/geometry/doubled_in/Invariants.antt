use Rattle.std.proofs.Common.{◌≡◌, ◌≤◌, ◌-◌}
use Rattle.layout_map.specs.Placement.{doubled}
use Rattle.layout_map.proofs.geometry.doubled_in.Given as goal

abbrev pub invariant-loop-doubling : goal.invariant-loop-doubling
invariant-loop-doubling l = record {
  least : 1 ≤ l.size;
  same : doubled (24 - l.doubling) l.size l.room ≡ doubled 24 l.size-2 l.room;
}
