use Rattle.std.proofs.Common.{ℕ, ◌+◌, ◌-◌, ◌/◌, arith}
use Rattle.batch.proofs.ZeroOrder.{ends_later, ends_too}
use Rattle.batch.proofs.zero_rows.runs_before.Goals as goal

pub loop-first-preserved-then-end-from : goal.loop-first-preserved-then-end-from
loop-first-preserved-then-end-from c =
    let now = c.loop-first in
    let middle : ℕ = now.first + (now.end - now.first) / 2 in
    record {
      order = omega (arith, c.loop-first-test.true);
      within = now.invariant.within;
      before = λ i inside.
          ends_too c.args.runs.now c.requires c.args.row middle i (omega (arith, c.loop-first-test.true, now.invariant.within))
          (omega (arith, c.if-end-from.true, c.end.ensures, c.from.ensures)) (omega (arith, inside));
      others = now.invariant.others;
    }

pub loop-first-preserved : goal.loop-first-preserved
loop-first-preserved c =
    let now = c.loop-first in
    let middle : ℕ = now.first + (now.end - now.first) / 2 in
    record {
      order = omega arith;
      within = omega (arith, c.loop-first-test.true, now.invariant.within);
      before = now.invariant.before;
      others = λ i least inside.
          ends_later c.args.runs.now c.requires c.args.row middle i (omega (arith, c.if-end-from.false, c.end.ensures, c.from.ensures))
          least inside;
    }
