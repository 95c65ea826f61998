use Rattle.std.proofs.Common.{◌-◌, ◌*◌, Ok, ap, arith}
use Rattle.requests.proofs.BlockLemmas.{skips_more, skips_same}
use Rattle.requests.proofs.blocks.skip_blocks.Goals as goal
use Rattle.requests.proofs.blocks.skip_blocks.Goals.{in-None, in-Some+else-left-eq0-2}

pub returns-then-left-eq0-2-clause-skipped : goal.returns-then-left-eq0-2-clause-skipped
returns-then-left-eq0-2-clause-skipped g c = λ _.
    let skipped = rw c.in-Some.is at c.in_ok-skip_part.ensures.skipped in
    skips_more _ _ _ (512 * c.args.count - c.loop.left) c.in-Some.skipped _ c.loop.invariant.read skipped.1
    (omega (arith, skipped.0, c.loop.invariant.most, c.if-left-eq0-2.true))

pub loop-preserved : goal.loop-preserved
loop-preserved g c = elim c.match-branch-2.branch [
  | in-None w ↦ record {
    some = omega (arith, w.left-is, c.loop.invariant.some);
    most = omega (arith, w.left-is, c.loop.invariant.most);
    read = rw w.left-is (skips_same _ _ _ _ c.loop.invariant.read (c.in_ok-skip_part.ensures.interrupted (ap Ok w.in-None.is)));
  }
  | in-Some+else-left-eq0-2 w ↦
      let skipped = rw w.in-Some.is at c.in_ok-skip_part.ensures.skipped in
      record {
        some = omega (arith, w.left-is, w.if-left-eq0-2.false);
        most = omega (arith, w.left-is, c.loop.invariant.most);
        read = rw w.left-is (skips_more _ _ _ (512 * c.args.count - c.loop.left) w.in-Some.skipped _ c.loop.invariant.read skipped.1
            (omega (arith, skipped.0, c.loop.invariant.most)));
      }
]
