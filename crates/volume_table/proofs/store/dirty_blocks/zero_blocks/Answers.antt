-- Each range makes some more blocks zero.
use Rattle.std.proofs.Common.{◌≡◌, ◌≤◌, ℕ, ◌-◌, Bool, List, Option, length, sym, ◌∙◌, ap, subst, arith}
use Rattle.std.specs.Prelude.{Ok, Err}
use Rattle.std.proofs.lemmas.Result.{err_from_is_err_and}
use Rattle.layout_map.specs.declared.geometry.Geometry.{Geometry}
use Rattle.array_io.specs.Believed.OpenArray.{array_view}
use Rattle.extents.specs.declared.extent_layout.ExtentLayout.{ExtentLayout}
use Rattle.extents.specs.declared.owned.Owned.{Owned}
use Rattle.extents.specs.ExtentMaps.{HasPlace, place_of}
use Rattle.extents.specs.SetExtents.{extents_in}
use Rattle.volume_table.specs.ListChanges.{ChangesList}
use Rattle.volume_table.specs.StoreChanges.{IsPartlyZero, IsZeroed}
use Rattle.volume_table.specs.Stretches.{IsStretch}
use Rattle.volume_table.specs.ZeroedRanges.{AreZeroedInTurn, EndsZeroing}
use Rattle.volume_table.proofs.ZeroedBlocks.{zeroing_begins, zeroing_passes}
use Rattle.volume_table.proofs.ZeroedRanges.{zeroing_ends, zeroing_honest, zeroing_in_turn}
use Rattle.volume_table.proofs.store.dirty_blocks.zero_blocks.Goals as goal

pub loop-at-init : goal.loop-at-init
loop-at-init g c = zeroing_begins (extents_in c.args.array.now.table.geometry) (g.B.Bank.honest c.args.array.now.bank) c.args.dirty.now c.args.map.now
    c.args.volume
    c.args.first c.args.last _ c.requires.order

-- the stretch, by where the extents of the set lie
stretch_in : (geometry : Geometry) (extents : ExtentLayout) (dirty : List Bool) (owners : List (Option Owned)) (number at last end : ℕ) (flag : Bool)
    → extents ≡ extents_in geometry → IsStretch extents dirty owners number at last end flag
    → IsStretch (extents_in geometry) dirty owners number at last end flag
stretch_in geometry extents dirty owners number at last end flag is stretch =
    subst (λ (e : ExtentLayout). IsStretch e dirty owners number at last end flag) is stretch

pub next_stretch-stretch-requires-clause-placed : goal.next_stretch-stretch-requires-clause-placed
next_stretch-stretch-requires-clause-placed g c block least most =
    subst (λ (e : ExtentLayout). HasPlace c.args.map.now c.args.volume (place_of e block)) (sym c.of-extents.ensures)
    (c.requires.placed block (omega (arith, least, c.loop-at.invariant.least)) most)

pub zero_range-requires-clause-sized : goal.zero_range-requires-clause-sized
zero_range-requires-clause-sized g c =
    subst (λ (geometry : Geometry). length c.args.map.now ≤ (extents_in geometry).count) (sym c.loop-at.invariant.changes.goes_on.not_older.same_geometry)
    c.requires.sized

pub zero_range-requires-clause-placed : goal.zero_range-requires-clause-placed
zero_range-requires-clause-placed g c block least most =
    subst (λ (geometry : Geometry). HasPlace c.args.map.now c.args.volume (place_of (extents_in geometry) block))
    (sym c.loop-at.invariant.changes.goes_on.not_older.same_geometry)
    (c.requires.placed block (omega (arith, least, c.loop-at.invariant.least)) (omega (arith, most, c.next_stretch-stretch.ensures.most)))

pub returns-in_err-zero_range-clause-honest : goal.returns-in_err-zero_range-clause-honest
returns-in_err-zero_range-clause-honest g c =
    (λ is. c.in_err-zero_range.ensures.honest.0 (c.loop-at.invariant.forth is), λ is. c.loop-at.invariant.back (c.in_err-zero_range.ensures.honest.1 is))

pub returns-in_err-zero_range-clause-changes : goal.returns-in_err-zero_range-clause-changes
returns-in_err-zero_range-clause-changes g c =
    let geometry = c.args.array.now.table.geometry in
    let p = err_from_is_err_and c.from_residual.result c.from_residual.ensures.1 in
    subst (ChangesList (g.B.Bank.honest c.args.array.now.bank) (c.args.last - c.args.first)
    (IsPartlyZero (extents_in geometry) c.args.map.now c.args.volume c.args.first c.args.last)
    (IsZeroed (extents_in geometry) c.args.dirty.now c.args.map.now c.args.volume c.args.first c.args.last)
    (array_view c.args.array.now)
    (array_view c.zero_range.new.array))
    (sym (p.1 ∙ ap (λ s. Err s) p.2))
    (zeroing_ends (extents_in geometry) (g.B.Bank.honest c.args.array.now.bank) (g.B.Bank.honest c.loop-at.array.bank) c.args.dirty.now c.args.map.now
    c.args.volume c.args.first c.args.last c.loop-at.at c.next_stretch-stretch.result.end (array_view c.args.array.now) (array_view c.loop-at.array)
    (array_view c.zero_range.new.array) c.in_err-zero_range.field-0.0 c.next_stretch-stretch.ensures.most (g.met.B.Bank.true_to c.loop-at.array.bank)
    c.loop-at.invariant
    (subst (λ (set : Geometry). EndsZeroing (g.B.Bank.honest c.loop-at.array.bank) (extents_in set) c.args.map.now c.args.volume c.loop-at.at
    c.next_stretch-stretch.result.end (array_view c.loop-at.array) (array_view c.zero_range.new.array) c.in_err-zero_range.field-0.0)
    c.loop-at.invariant.changes.goes_on.not_older.same_geometry c.in_err-zero_range.ensures.zeroes))

pub loop-at-preserved-in_ok-zero_range : goal.loop-at-preserved-in_ok-zero_range
loop-at-preserved-in_ok-zero_range g c =
    let geometry = c.args.array.now.table.geometry in
    zeroing_honest (extents_in geometry) (g.B.Bank.honest c.args.array.now.bank) (g.B.Bank.honest c.loop-at.array.bank)
    (g.B.Bank.honest c.zero_range.new.array.bank) c.args.dirty.now c.args.map.now c.args.volume c.args.first c.args.last c.next_stretch-stretch.result.end
    (array_view c.args.array.now) (array_view c.zero_range.new.array) c.in_ok-zero_range.ensures.honest.0 c.in_ok-zero_range.ensures.honest.1
    (zeroing_in_turn (extents_in geometry) (g.B.Bank.honest c.args.array.now.bank) (g.B.Bank.honest c.loop-at.array.bank) c.args.dirty.now c.args.map.now
    c.args.volume c.args.first c.args.last (array_view c.args.array.now) c.next_stretch-stretch.ensures.most
    (g.met.B.Bank.true_to c.loop-at.array.bank) c.loop-at.invariant
    (subst (λ (set : Geometry). AreZeroedInTurn (g.B.Bank.honest c.loop-at.array.bank) (extents_in set) c.args.map.now c.args.volume c.loop-at.at
    c.next_stretch-stretch.result.end (array_view c.loop-at.array) (array_view c.zero_range.new.array))
    c.loop-at.invariant.changes.goes_on.not_older.same_geometry c.in_ok-zero_range.ensures.zeroes))

pub loop-at-preserved : goal.loop-at-preserved
loop-at-preserved g c =
    let geometry = c.args.array.now.table.geometry in
    zeroing_passes (extents_in geometry) (g.B.Bank.honest c.args.array.now.bank) (g.B.Bank.honest c.loop-at.array.bank) c.args.dirty.now c.args.map.now
    c.args.volume c.args.first c.args.last c.loop-at.at c.next_stretch-stretch.result.end c.next_stretch-stretch.result.dirty _ _
    (stretch_in geometry c.of-extents.result c.args.dirty.now c.args.map.now c.args.volume c.loop-at.at c.args.last c.next_stretch-stretch.result.end
    c.next_stretch-stretch.result.dirty c.of-extents.ensures c.next_stretch-stretch.ensures) c.if-stretch.false c.loop-at.invariant

pub returns-clause-honest : goal.returns-clause-honest
returns-clause-honest g c = (c.loop-at.invariant.forth, c.loop-at.invariant.back)

pub returns-clause-changes : goal.returns-clause-changes
returns-clause-changes g c =
    let same : c.loop-at.at ≡ c.args.last = omega (arith, c.loop-at-test.false, c.loop-at.invariant.most) in
    subst (λ (at : ℕ). ChangesList (g.B.Bank.honest c.args.array.now.bank) (at - c.args.first)
    (IsPartlyZero (extents_in c.args.array.now.table.geometry) c.args.map.now c.args.volume c.args.first c.args.last)
    (IsZeroed (extents_in c.args.array.now.table.geometry) c.args.dirty.now c.args.map.now c.args.volume c.args.first at)
    (array_view c.args.array.now)
    (array_view c.loop-at.array) (Ok tt)) same c.loop-at.invariant.changes
