-- Whole stripes so far.
use Rattle.std.proofs.Common.{◌≡◌, ◌≤◌, ◌-◌, ◌%◌, []}
use Rattle.layout_map.specs.Placement.{stripe_blocks}
use Rattle.batch.specs.ZeroRuns.{zero_runs}
use Rattle.extents.specs.SetExtents.{extents_in}
use Rattle.volume_table.specs.WholeStripes.{GathersStripes}
use Rattle.volume_table.proofs.store.stripes.gather_stripes.Given as goal

abbrev pub invariant-loop-end : goal.invariant-loop-end
invariant-loop-end l = record {
  least : l.at ≤ l.end;
  most : l.end ≤ l.last;
  begins : l.end % stripe_blocks l.geometry.members l.geometry.chunk ≡ 0;
  none : l.end ≡ l.at → zero_runs l.rows ≡ [];
  gathers : GathersStripes l.geometry (extents_in l.geometry) l.map l.volume l.at l.end (zero_runs l.rows);
}

abbrev pub decreases-loop-end : goal.decreases-loop-end
decreases-loop-end l = l.last - l.end
