use Rattle.std.proofs.Common.{◌+◌, Ok, ap, arith}
use Rattle.requests.proofs.BlockLemmas.{block_more, block_same, block_whole}
use Rattle.requests.proofs.blocks.read_block.Goals as goal
use Rattle.requests.proofs.blocks.read_block.Goals.{in-None, in-Some+else-done-eq-BLOCK_BYTES}

pub returns-then-done-eq-BLOCK_BYTES-clause-read : goal.returns-then-done-eq-BLOCK_BYTES-clause-read
returns-then-done-eq-BLOCK_BYTES-clause-read g c = λ _.
    let more = block_more _ _ _ c.loop.done c.in-Some.count _ _ c.loop.invariant.read c.in_ok-read_more.ensures.front
    (rw c.in-Some.is at c.in_ok-read_more.ensures.read) in
    block_whole _ _ (c.loop.done + c.in-Some.count) _ more (omega (arith, c.read_more.array_long, c.if-done-eq-BLOCK_BYTES.true))

pub loop-preserved : goal.loop-preserved
loop-preserved g c = elim c.match-branch-2.branch [
  | in-None w ↦ record {
    long = c.read_more.array_long;
    less = omega (arith, w.done-is, c.loop.invariant.less);
    read = rw w.done-is (block_same _ _ _ c.loop.done _ _ c.loop.invariant.read c.in_ok-read_more.ensures.front
        (c.in_ok-read_more.ensures.interrupted (ap Ok w.in-None.is)));
  }
  | in-Some+else-done-eq-BLOCK_BYTES w ↦
      let within = rw w.in-Some.is at c.in_ok-read_more.ensures.within in
      record {
        long = c.read_more.array_long;
        less = omega (arith, w.done-is, within, w.if-done-eq-BLOCK_BYTES.false);
        read = rw w.done-is (block_more _ _ _ c.loop.done w.in-Some.count _ _ c.loop.invariant.read c.in_ok-read_more.ensures.front
            (rw w.in-Some.is at c.in_ok-read_more.ensures.read));
      }
]
