-- The extents after the call are those that the slice shows then, and they are a map again.
use Rattle.std.proofs.Common.{length, ◌∙◌, ap}
use Rattle.std.specs.List.{refill}
use Rattle.extents.specs.ExtentMaps.{IsGivenBack, IsExtentMap}
use Rattle.extents.proofs.MapLemmas.{all_written, given_is_map}
use Rattle.extents.proofs.extent_map.ExtentMap.give_back.Goals as goal
use Rattle.extents.proofs.extent_map.ExtentMap.give_back.Goals.{After-deref}

given_map : (c : After-deref) → IsExtentMap (refill (length c.self.inside.owners.items) c.self.inside.owners.items c.free_all.new.owners)
given_map c =
    let map : IsExtentMap c.args.self.now = rw (← c.self.view_is) c.self.invariant.map in
    let given : IsGivenBack c.args.self.now c.free_all.new.owners c.args.volume = rw (c.as_mut_slice.ensures.value, c.self.view_is) at c.free_all.ensures in
    let written = all_written c.self.inside.owners.items c.free_all.new.owners (c.free_all.ensures.extents ∙ ap length c.as_mut_slice.ensures.value) in
    rw written (given_is_map c.args.self.now c.free_all.new.owners c.args.volume map given)

pub of-self-inside-requires : goal.of-self-inside-requires
of-self-inside-requires c = rw c.deref.ensures.0 (given_map c)

pub invariant_of-self : goal.invariant_of-self
invariant_of-self c = record { map = given_map (goal.at.invariant_of-self c).After-deref; indexed = rw c.deref.ensures.0 at c.of-self-inside.ensures }

pub returns : goal.returns
returns c =
    let written = all_written c.self.inside.owners.items c.free_all.new.owners (c.free_all.ensures.extents ∙ ap length c.as_mut_slice.ensures.value) in
    rw written (rw (c.as_mut_slice.ensures.value, c.self.view_is) at c.free_all.ensures)
