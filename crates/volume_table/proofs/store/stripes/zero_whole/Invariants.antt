-- The blocks below `at` are zero, and those from there on are whole stripes.
use Rattle.std.proofs.Common.{◌≤◌, ◌-◌}
use Rattle.array_io.specs.Believed.OpenArray.{array_view}
use Rattle.volume_table.specs.ZeroedRanges.{AreWholeStripes}
use Rattle.volume_table.proofs.ZeroedRanges.{IsZeroedUpTo}
use Rattle.volume_table.proofs.store.stripes.zero_whole.Given as goal

abbrev pub invariant-loop-at : goal.invariant-loop-at
invariant-loop-at g l = record {
  least : l.first ≤ l.at;
  most : l.at ≤ l.last;
  whole : AreWholeStripes l.geometry l.at l.last;
  zeroed : IsZeroedUpTo (g.B.Bank.honest l.initial.array.bank) (g.B.Bank.honest l.array.bank) l.map l.volume l.first l.at (array_view l.initial.array)
      (array_view l.array);
}

abbrev pub decreases-loop-at : goal.decreases-loop-at
decreases-loop-at g l = l.last - l.at
