use Rattle.std.proofs.Common.{arith}
use Rattle.sector_model.proofs.Copies.{copies_more}
use Rattle.std.proofs.lemmas.Result.{err_from_is_err_and}
use Rattle.sector_model.proofs.memory.copies.Goals as goal

pub loop-slot-preserved : goal.loop-slot-preserved
loop-slot-preserved c = record {
  so_far = omega (arith, c.in_ok-push.ensures.len, c.loop-slot.invariant.so_far);
  copied = rw (c.in_ok-push.ensures.items) (copies_more c.loop-slot.slot-index c.args.slots.now c.loop-slot.disks.items c.slot-item.result
      c.in_ok-disk_in.field-0 c.loop-slot.invariant.copied
      (omega (arith, c.loop-slot.disks.ok.0, c.loop-slot.invariant.so_far)) c.loop-slot-test.true c.slot-item.is c.in_ok-disk_in.ensures.copied
      c.in_ok-disk_in.ensures.whole);
}

pub returns-in_err-disk_in-clause-each : goal.returns-in_err-disk_in-clause-each
returns-in_err-disk_in-clause-each c = rw (err_from_is_err_and c.from_residual.result c.from_residual.ensures.1).1 tt

pub returns-in_err-disk_in-clause-len : goal.returns-in_err-disk_in-clause-len
returns-in_err-disk_in-clause-len c = rw (err_from_is_err_and c.from_residual.result c.from_residual.ensures.1).1 tt

pub returns-in_err-push-clause-each : goal.returns-in_err-push-clause-each
returns-in_err-push-clause-each c = rw (err_from_is_err_and c.from_residual-in_err-push.result c.from_residual-in_err-push.ensures.1).1 tt

pub returns-in_err-push-clause-len : goal.returns-in_err-push-clause-len
returns-in_err-push-clause-len c = rw (err_from_is_err_and c.from_residual-in_err-push.result c.from_residual-in_err-push.ensures.1).1 tt
