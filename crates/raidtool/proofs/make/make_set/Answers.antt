use Rattle.std.proofs.lemmas.Result.{err_from_is_err_and}
use Rattle.raidtool.proofs.Causes.{by_refusal, not_cut}
use Rattle.raidtool.proofs.make.make_set.Goals as goal

pub returns-in_err-make_in-clause-cause : goal.returns-in_err-make_in-clause-cause
returns-in_err-make_in-clause-cause g c =
    let from = err_from_is_err_and c.from_residual.result c.from_residual.ensures.1 in
    rw (from.1, from.2) (c.in_err-make_in.ensures.cause)

pub returns-in_err-write_made_set-clause-cause : goal.returns-in_err-write_made_set-clause-cause
returns-in_err-write_made_set-clause-cause g c =
    let from = err_from_is_err_and c.from_residual-in_err-write_made_set.result c.from_residual-in_err-write_made_set.ensures.1 in
    rw (from.1, from.2) (by_refusal _ _ (λ other. absurd (not_cut _ other c.in_err-write_made_set.ensures.kind)))
