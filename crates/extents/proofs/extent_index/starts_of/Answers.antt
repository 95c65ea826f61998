use Rattle.std.proofs.Common.{◌≤◌, ◌+◌, get_or, arith}
use Rattle.extents.proofs.IndexLemmas.{starts_begin, start_few, start_adds}
use Rattle.extents.proofs.extent_index.starts_of.Goals as goal
use Rattle.layout_map.specs.declared.sizes.TheConstants.{MOST_EXTENTS}

pub loop-volume-init : goal.loop-volume-init
loop-volume-init c =
    let counts = c.counts_of-starts.ensures in
    starts_begin c.args.owners.now c.counts_of-starts.result counts.long counts.first counts.counts

pub overflow_add-starts-in-loop-volume : goal.overflow_add-starts-in-loop-volume
overflow_add-starts-in-loop-volume c =
    let few : get_or c.loop-volume.starts (c.loop-volume.volume + 1) 0 + get_or c.loop-volume.starts c.loop-volume.volume 0 ≤ MOST_EXTENTS =
    start_few c.args.owners.now c.loop-volume.starts c.loop-volume.volume c.requires c.loop-volume.invariant c.loop-volume-test.true in
    omega arith

pub loop-volume-preserved : goal.loop-volume-preserved
loop-volume-preserved c = start_adds c.args.owners.now c.loop-volume.starts c.loop-volume.volume c.loop-volume.invariant c.loop-volume-test.true
