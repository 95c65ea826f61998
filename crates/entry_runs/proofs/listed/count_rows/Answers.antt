use Rattle.std.proofs.Common.{arith}
use Rattle.entry_runs.proofs.Listings.{rows_next}
use Rattle.entry_runs.proofs.listed.count_rows.Goals as goal

pub loop-run-preserved : goal.loop-run-preserved
loop-run-preserved c = record {
  sum = omega (arith, c.loop-run.invariant.sum, rows_next c.args.runs.now c.loop-run.run-index c.loop-run-test.true, c.from-count.ensures);
  most = omega (arith, c.loop-run.invariant.most, c.from-count.ensures, c.from-count.type_inv);
}
