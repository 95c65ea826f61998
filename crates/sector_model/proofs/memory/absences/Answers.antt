use Rattle.std.proofs.Common.{sym, arith}
use Rattle.sector_model.proofs.Copies.{absences_more}
use Rattle.std.proofs.lemmas.Result.{err_from_is_err_and}
use Rattle.sector_model.proofs.memory.absences.Goals as goal

pub loop-slot-preserved : goal.loop-slot-preserved
loop-slot-preserved c = record {
  so_far = omega (arith, c.in_ok-push.ensures.len, c.loop-slot.invariant.so_far);
  marked = rw (c.in_ok-push.ensures.items) (absences_more c.loop-slot.slot-index c.args.slots.now c.loop-slot.flags.items c.slot-item.result c.is_none.result
      c.loop-slot.invariant.marked
      (omega (arith, c.loop-slot.flags.ok.0, c.loop-slot.invariant.so_far)) c.loop-slot-test.true c.slot-item.is (sym c.is_none.ensures));
}

pub returns-in_err-push-clause-each : goal.returns-in_err-push-clause-each
returns-in_err-push-clause-each c = rw (err_from_is_err_and c.from_residual.result c.from_residual.ensures.1).1 tt

pub returns-in_err-push-clause-len : goal.returns-in_err-push-clause-len
returns-in_err-push-clause-len c = rw (err_from_is_err_and c.from_residual.result c.from_residual.ensures.1).1 tt
