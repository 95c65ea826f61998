use Rattle.std.proofs.Common.{◌≡◌, ◌-◌, ◌+◌, ◌*◌, ℕ, suc, arith, ap, sym, ◌∙◌}
use Rattle.layout_map.specs.Placement.{doubled}
use Rattle.layout_map.proofs.Places.{doubled_done, doubled_once_more}
use Rattle.layout_map.proofs.geometry.doubled_in.Goals as goal

pub returns-then-room-size-le-MOST_EXTENTS-clause-size :
    goal.returns-then-room-size-le-MOST_EXTENTS-clause-size
returns-then-room-size-le-MOST_EXTENTS-clause-size c =
    sym (doubled_done (24 - c.loop-doubling.doubling) c.loop-doubling.size c.args.room c.if-room-size-le-MOST_EXTENTS.true) ∙ c.loop-doubling.invariant.same

pub loop-doubling-preserved : goal.loop-doubling-preserved
loop-doubling-preserved c =
    let now = c.loop-doubling in
    let next : 24 - now.doubling ≡ suc (24 - (now.doubling + 1)) = omega (arith, c.loop-doubling-test.true) in
    let twice : now.size * 2 ≡ 2 * now.size = omega arith in
    record {
      least = omega (arith, now.invariant.least);
      same =
          ap (λ (size : ℕ). doubled (24 - (now.doubling + 1)) size c.args.room) twice
          ∙ sym (doubled_once_more (24 - (now.doubling + 1)) now.size c.args.room (omega (arith, c.if-room-size-le-MOST_EXTENTS.false)))
          ∙ ap (λ (n : ℕ). doubled n now.size c.args.room) (sym next)
          ∙ now.invariant.same;
    }

pub returns-clause-size : goal.returns-clause-size
unfolding doubled
returns-clause-size c =
    let now = c.loop-doubling in
    let none : 24 - now.doubling ≡ 0 = omega (arith, c.loop-doubling-test.false) in
    sym (ap (λ (n : ℕ). doubled n now.size c.args.room) none) ∙ now.invariant.same
