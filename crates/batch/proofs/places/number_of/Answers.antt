use Rattle.std.proofs.Common.{ℕ, ◌+◌, ◌-◌, ◌/◌, arith}
use Rattle.batch.proofs.Order.{below_too}
use Rattle.batch.proofs.places.number_of.Goals as goal

pub loop-first-preserved-then-comes_before : goal.loop-first-preserved-then-comes_before
loop-first-preserved-then-comes_before c =
    let now = c.loop-first in
    let middle : ℕ = now.first + (now.end - now.first) / 2 in
    record {
      order = omega (arith, c.loop-first-test.true);
      within = now.invariant.within;
      below = λ i inside.
          below_too c.args.places.now c.requires c.args.row c.args.member middle i (omega (arith, c.loop-first-test.true, now.invariant.within))
          (c.comes_before.ensures.0 c.if-comes_before.true) (omega (arith, inside));
      others = now.invariant.others;
    }
