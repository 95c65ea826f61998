-- The blocks below `at` are zero.
use Rattle.std.proofs.Common.{◌-◌}
use Rattle.extents.specs.SetExtents.{extents_in}
use Rattle.volume_table.proofs.ZeroedBlocks.{IsZeroing}
use Rattle.array_io.specs.Believed.OpenArray.{array_view}
use Rattle.volume_table.proofs.store.dirty_blocks.zero_blocks.Given as goal

abbrev pub invariant-loop-at : goal.invariant-loop-at
invariant-loop-at g l = IsZeroing (extents_in l.initial.array.table.geometry) (g.B.Bank.honest l.initial.array.bank) (g.B.Bank.honest l.array.bank) l.dirty
    l.map
    l.volume l.first l.last l.at
    (array_view l.initial.array)
    (array_view l.array)

abbrev pub decreases-loop-at : goal.decreases-loop-at
decreases-loop-at g l = l.last - l.at
