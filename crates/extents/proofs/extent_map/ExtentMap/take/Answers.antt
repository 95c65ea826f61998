-- The extents after the call are those that the slice shows then, and they are a map again.
use Rattle.std.proofs.Common.{◌≡◌, false, min, length, sym, ◌∙◌, ap}
use Rattle.std.specs.List.{refill}
use Rattle.extents.specs.ExtentMaps.{IsTaken, IsExtentMap, AreAppended, is_wanted, free_below}
use Rattle.extents.proofs.MapLemmas.{all_written, taken_is_map}
use Rattle.extents.proofs.TakenTwice.{twice_is_taken}
use Rattle.extents.proofs.extent_map.ExtentMap.take.Goals as goal
use Rattle.extents.proofs.extent_map.ExtentMap.take.Goals.{After-deref}

taken : (c : After-deref) → IsTaken c.args.dirty.now c.args.self.now (refill (length c.self.inside.owners.items) c.self.inside.owners.items
    c.append_lowest.new.owners) c.args.volume c.args.n
taken c =
    let shown = c.as_mut_slice-owners.ensures.value ∙ c.self.view_is in
    let cleans : AreAppended (is_wanted false c.args.dirty.now) c.args.self.now c.append_lowest-clean.new.owners c.args.volume c.count-first.result c.args.n =
    rw shown at c.append_lowest-clean.ensures.appended in
    let given : c.append_lowest-clean.result ≡ min c.args.n (free_below (is_wanted false c.args.dirty.now) c.args.self.now (length c.args.self.now)) =
    rw shown at c.append_lowest-clean.ensures.given in
    let written = all_written c.self.inside.owners.items c.append_lowest.new.owners
    (c.append_lowest.ensures.appended.extents ∙ cleans.extents ∙ sym (ap length c.self.view_is)) in
    rw written
    (twice_is_taken c.args.dirty.now c.args.self.now c.append_lowest-clean.new.owners c.args.volume c.count-first.result c.args.n cleans
    c.append_lowest.new.owners c.append_lowest-clean.result given c.append_lowest.ensures.appended c.count-first.ensures.number)

taken_map : (c : After-deref) → IsExtentMap (refill (length c.self.inside.owners.items) c.self.inside.owners.items c.append_lowest.new.owners)
taken_map c =
    let map : IsExtentMap c.args.self.now = rw (← c.self.view_is) c.self.invariant.map in
    taken_is_map c.args.dirty.now c.args.self.now _ c.args.volume c.args.n (taken c) map c.requires.volume c.requires.free

pub of-self-inside-requires : goal.of-self-inside-requires
of-self-inside-requires c = rw c.deref.ensures.0 (taken_map c)

pub invariant_of-self : goal.invariant_of-self
invariant_of-self c = record { map = taken_map (goal.at.invariant_of-self c).After-deref; indexed = rw c.deref.ensures.0 at c.of-self-inside.ensures }

pub returns : goal.returns
returns c = taken (goal.at.returns c).After-deref
