-- The sectors of the blocks so far.
use Rattle.std.proofs.Common.{◌≡◌, ◌≤◌, ◌-◌, []}
use Rattle.batch.specs.Zeroed.{zeroed}
use Rattle.extents.specs.SetExtents.{extents_in}
use Rattle.volume_table.specs.ZeroedRanges.{GathersBlocks}
use Rattle.volume_table.proofs.store.zero_ranges.gather_blocks.Given as goal

abbrev pub invariant-loop-end : goal.invariant-loop-end
invariant-loop-end l = record {
  least : l.at ≤ l.end;
  most : l.end ≤ l.limit;
  none : l.end ≡ l.at → zeroed l.sectors ≡ [];
  geometry : l.sectors.geometry ≡ l.geometry;
  gathers : GathersBlocks (extents_in l.geometry) l.map l.volume l.at l.end (zeroed l.sectors);
}

abbrev pub decreases-loop-end : goal.decreases-loop-end
decreases-loop-end l = l.limit - l.end
