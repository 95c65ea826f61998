use Rattle.std.proofs.lemmas.Result.{err_from_is_err_and}
use Rattle.server.proofs.serving.write_in.Goals as goal

pub returns-in_err-stretch-clause-refused : goal.returns-in_err-stretch-clause-refused
returns-in_err-stretch-clause-refused c =
    let p = err_from_is_err_and c.from_residual.result c.from_residual.ensures.1 in
    rw (p.1, p.2) (λ left some. c.in_err-stretch.ensures.refused left)
