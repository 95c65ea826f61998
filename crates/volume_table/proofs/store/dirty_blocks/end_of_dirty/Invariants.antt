-- Each step goes on to the next extent.
use Rattle.std.proofs.Common.{◌<◌, ◌≤◌, ◌-◌}
use Rattle.volume_table.proofs.store.dirty_blocks.end_of_dirty.Given as goal

abbrev pub invariant-loop-end : goal.invariant-loop-end
invariant-loop-end l = record { least : l.at < l.end; most : l.end ≤ l.last }

abbrev pub decreases-loop-end : goal.decreases-loop-end
decreases-loop-end l = l.last - l.end
