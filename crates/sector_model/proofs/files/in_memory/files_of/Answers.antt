use Rattle.std.proofs.Common.{arith, sym, ◌∙◌}
use Rattle.sector_model.specs.MemFiles.{contents_in}
use Rattle.sector_model.proofs.Begun.{files_more}
use Rattle.std.proofs.lemmas.Result.{err_from_is_err_and}
use Rattle.sector_model.proofs.files.in_memory.files_of.Goals as goal

pub loop-number-preserved : goal.loop-number-preserved
loop-number-preserved c = record {
  so_far = omega (arith, c.in_ok-push.ensures.len, c.loop-number.invariant.so_far);
  each = rw (c.in_ok-push.ensures.items) (files_more contents_in c.args.slots.now c.loop-number.files.items c.in_ok-file_in.field-0 _
      (sym c.loop-number.files.ok.0 ∙ c.loop-number.invariant.so_far) c.loop-number.invariant.each c.in_ok-file_in.ensures);
}

pub returns-in_err-files-clause-ten : goal.returns-in_err-files-clause-ten
returns-in_err-files-clause-ten c = rw (err_from_is_err_and c.from_residual.result c.from_residual.ensures.1).1 tt

pub returns-in_err-files-clause-each : goal.returns-in_err-files-clause-each
returns-in_err-files-clause-each c = rw (err_from_is_err_and c.from_residual.result c.from_residual.ensures.1).1 tt

pub returns-in_err-file_in-clause-ten : goal.returns-in_err-file_in-clause-ten
returns-in_err-file_in-clause-ten c = rw (err_from_is_err_and c.from_residual-in_err-file_in.result c.from_residual-in_err-file_in.ensures.1).1 tt

pub returns-in_err-file_in-clause-each : goal.returns-in_err-file_in-clause-each
returns-in_err-file_in-clause-each c = rw (err_from_is_err_and c.from_residual-in_err-file_in.result c.from_residual-in_err-file_in.ensures.1).1 tt

pub returns-in_err-push-clause-ten : goal.returns-in_err-push-clause-ten
returns-in_err-push-clause-ten c = rw (err_from_is_err_and c.from_residual-in_err-push.result c.from_residual-in_err-push.ensures.1).1 tt

pub returns-in_err-push-clause-each : goal.returns-in_err-push-clause-each
returns-in_err-push-clause-each c = rw (err_from_is_err_and c.from_residual-in_err-push.result c.from_residual-in_err-push.ensures.1).1 tt
