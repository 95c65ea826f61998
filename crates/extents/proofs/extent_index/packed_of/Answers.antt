-- An extent that has an owner goes to its place among the packed ones, and a free one is passed over.
use Rattle.std.proofs.Common.{◌<◌, ◌+◌, arith}
use Rattle.extents.proofs.IndexLemmas.{slot_is, slot_fits, pack_passes, pack_adds}
use Rattle.extents.proofs.extent_index.packed_of.Goals as goal
use Rattle.extents.proofs.extent_index.packed_of.Goals.{in-Some, in_default, After-from-in-Some}
use Rattle.layout_map.specs.declared.sizes.TheConstants.{MOST_EXTENTS}

fits : (c : After-from-in-Some) → c.from-first.result + c.from-in-Some.result < MOST_EXTENTS
fits c =
    slot_fits c.args.owners.now c.args.starts.now c.loop-extent.extent c.from.result c.from-first.result c.from-in-Some.result c.in-Some.owned
    c.requires.map c.requires.starts c.in-Some.is c.from.ensures c.from-first.ensures c.from-in-Some.ensures

pub overflow_add-packed : goal.overflow_add-packed
overflow_add-packed c = omega (arith, fits c)

pub offset_bounds-packed-first : goal.offset_bounds-packed-first
offset_bounds-packed-first c = omega (arith, fits c)

pub bounds-packed-first : goal.bounds-packed-first
bounds-packed-first c = fits c

pub loop-extent-preserved : goal.loop-extent-preserved
loop-extent-preserved c =
    let owners = c.args.owners.now in
    let extent = c.loop-extent.extent in
    elim c.match-owner.branch [
      | in-Some w ↦
          let slot = slot_is owners c.args.starts.now extent w.from.result w.from-first.result w.from-in-Some.result w.in-Some.owned
          c.requires.map c.requires.starts w.in-Some.is w.from.ensures w.from-first.ensures w.from-in-Some.ensures in
          rw (w.packed-is, slot) (pack_adds owners c.loop-extent.packed extent w.in-Some.owned c.requires.map c.loop-extent.invariant w.in-Some.is)
      | in_default w ↦ rw w.packed-is (pack_passes owners c.loop-extent.packed extent c.loop-extent.invariant w.in_default.is)
    ]
