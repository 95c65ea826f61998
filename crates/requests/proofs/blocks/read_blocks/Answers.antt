use Rattle.std.proofs.Common.{◌<◌, Ok, length, length-set, ap, ◌∙◌, arith}
use Rattle.std.proofs.lemmas.Result.{err_from_is_err_and}
use Rattle.requests.proofs.BlockLemmas.{blocks_end, blocks_more, blocks_stop, skips_block}
use Rattle.requests.proofs.blocks.read_blocks.Goals as goal

pub returns-in_err-read_block-clause-fault : goal.returns-in_err-read_block-clause-fault
returns-in_err-read_block-clause-fault g c =
    let p = err_from_is_err_and c.from_residual.result c.from_residual.ensures.1 in
    let within : c.loop-at.at < length c.args.to.now = omega (arith, c.loop-at-test.true, c.loop-at.invariant.long) in
    rw p.1 (blocks_stop _ _ _ c.loop-at.at _ c.loop-at.invariant.count c.in_err-read_block.ensures.fault within)

pub returns-then-not-branch-clause-ended : goal.returns-then-not-branch-clause-ended
returns-then-not-branch-clause-ended g c = λ _.
    let within : c.loop-at.at < length c.args.to.now = omega (arith, c.loop-at-test.true, c.loop-at.invariant.long) in
    blocks_end _ _ _ c.loop-at.at _ c.loop-at.invariant.count (c.in_ok-read_block.ensures.ended (ap Ok c.if-not-branch.true)) within

pub loop-at-preserved : goal.loop-at-preserved
loop-at-preserved g c =
    let read = c.in_ok-read_block.ensures.read (ap Ok c.if-not-branch.false) in
    let within : c.loop-at.at < length c.loop-at.to = omega (arith, c.loop-at-test.true, c.loop-at.invariant.long) in
    record {
      long = length-set c.loop-at.to c.loop-at.at c.read_block.new.to ∙ c.loop-at.invariant.long;
      read = blocks_more _ _ _ c.loop-at.at c.loop-at.to c.read_block.new.to within c.loop-at.invariant.read read;
      count = skips_block _ _ _ c.loop-at.at _ c.loop-at.invariant.count read c.in_ok-read_block.ensures.len;
    }
