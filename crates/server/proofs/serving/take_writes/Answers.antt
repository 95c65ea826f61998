use Rattle.std.proofs.Common.{[], arith, refl, sym, ◌+◌, ◌-◌, ◌<◌, ◌≤◌, ◌∙◌, ◌≡◌, ℕ}
use Rattle.std.proofs.lemmas.Result.{err_from_is_err_and}
use Rattle.server.proofs.Reading.{come_left}
use Rattle.server.proofs.serving.take_writes.Goals as goal

pub loop-preserved : goal.loop-preserved
loop-preserved g c =
    let inv = c.loop.invariant in
    let one = c.in_ok-take_next.ensures in
    record {
      honest = λ fair. one.honest.0 (inv.honest fair);
      still = λ fair. inv.still (one.honest.1 fair);
      going = one.going;
      of_set = one.of_set;
      holds = one.holds;
      capacity = one.capacity;
      buffer = one.buffer ∙ inv.buffer;
      room = omega (arith, one.room, inv.room);
      scrubbed = one.scrubbed ∙ inv.scrubbed;
      comes = λ first start was so come. one.comes first start was (c.args.count - (c.loop.counter + 1)) (λ fair. inv.honest (so fair))
          (come_left (g.B.Bank.honest first) start was (c.args.count - c.loop.counter) (c.args.count - (c.loop.counter + 1) + 1) _
          (omega (arith, c.loop-test.true)) (inv.comes first start was so come));
    }

pub returns-in_err-take_next-clause-comes : goal.returns-in_err-take_next-clause-comes
returns-in_err-take_next-clause-comes g c = λ first start was so come.
    let p = err_from_is_err_and c.from_residual.result c.from_residual.ensures.1 in
    let inv = c.loop.invariant in
    rw (p.1, p.2) (c.in_err-take_next.ensures.comes first start was (c.args.count - (c.loop.counter + 1)) (λ fair. inv.honest (so fair))
    (come_left (g.B.Bank.honest first) start was (c.args.count - c.loop.counter) (c.args.count - (c.loop.counter + 1) + 1) _
    (omega (arith, c.loop-test.true)) (inv.comes first start was so come)))

pub returns-in_err-take_next-clause-still : goal.returns-in_err-take_next-clause-still
returns-in_err-take_next-clause-still g c =
    let p = err_from_is_err_and c.from_residual.result c.from_residual.ensures.1 in
    rw (p.1, p.2) c.in_err-take_next.ensures.still

pub returns-clause-comes : goal.returns-clause-comes
returns-clause-comes g c = λ first start was so come.
    come_left (g.B.Bank.honest first) start was (c.args.count - c.loop.counter) 0 _ (omega (arith, c.loop-test.false))
    (c.loop.invariant.comes first start was so come)
