-- The part of the index from the volume's start to the next one's has its extents.
use Rattle.std.proofs.Common.{arith}
use Rattle.extents.proofs.OwnerLemmas.{owned_is_within}
use Rattle.extents.proofs.IndexLemmas.{IsPart, part_is, part_is_extents, none_are_extents}
use Rattle.extents.proofs.extent_map.ExtentMap.extents_of.Goals as goal
use Rattle.extents.proofs.extent_map.ExtentMap.extents_of.Goals.{After-from-end}

part : (c : After-from-end) → IsPart c.self.inside.owners.items c.args.volume c.from-first.result c.from-end.result
part c =
    part_is c.self.inside.owners.items c.self.inside.index c.args.volume c.from-volume.result c.from-first.result c.from-end.result
    c.self.invariant c.from-volume.ensures c.if-volume-ge-MOST_VOLUMES.false c.from-first.ensures c.from-end.ensures

pub returns-then-volume-ge-MOST_VOLUMES-clause-extents : goal.returns-then-volume-ge-MOST_VOLUMES-clause-extents
returns-then-volume-ge-MOST_VOLUMES-clause-extents c =
    rw (← c.self.view_is) (none_are_extents c.self.inside.owners.items c.args.volume c.self.invariant.map (omega (arith, c.from-volume.ensures)))

pub slice_bounds-result-start : goal.slice_bounds-result-start
slice_bounds-result-start c = omega (arith, (part c).ends)

pub slice_bounds-result-count : goal.slice_bounds-result-count
slice_bounds-result-count c = omega (arith, (part c).ends)

pub slice_bounds-result-end-2 : goal.slice_bounds-result-end-2
slice_bounds-result-end-2 c = (part c).within

pub returns-clause-extents : goal.returns-clause-extents
returns-clause-extents c =
    rw (← c.self.view_is) (part_is_extents c.self.inside.owners.items c.self.inside.index.packed c.args.volume c.from-first.result c.from-end.result
    c.self.invariant.map c.self.invariant.indexed.packed (part (goal.at.returns-clause-extents c).After-from-end))

-- each is an extent of the map
pub returns-clause-below : goal.returns-clause-below
returns-clause-below c = λ place within.
    let at = (part_is_extents c.self.inside.owners.items c.self.inside.index.packed c.args.volume c.from-first.result c.from-end.result
    c.self.invariant.map c.self.invariant.indexed.packed (part (goal.at.returns-clause-below c).After-from-end)).each place within in
    omega (arith, owned_is_within c.self.inside.owners.items _ c.args.volume place at, c.self.invariant.map.at_most)
