use Rattle.std.proofs.lemmas.Result.{err_from_is_err_and}
use Rattle.report.specs.Replies.{block_line}
use Rattle.report.proofs.WriteLemmas.{AppendsPart-item}
use Rattle.report.proofs.replies.write_blocks.Goals as goal

pub returns-in_err-write_block : goal.returns-in_err-write_block
returns-in_err-write_block g c =
    let p = err_from_is_err_and c.from_residual.result c.from_residual.ensures.1 in
    let it = c.in_err-write_block.ensures in
    rw (p.1, p.2) (record {
      ok = tt;
      part = AppendsPart-item block_line _ _ _ c.args.blocks.now c.loop-block.block-index _ c.loop-block-test.true c.loop-block.invariant it.part;
      kind = it.kind;
    })
