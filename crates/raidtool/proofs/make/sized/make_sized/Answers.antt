use Rattle.std.proofs.lemmas.Result.{err_from_is_err_and}
use Rattle.raidtool.proofs.make.sized.make_sized.Goals as goal

pub returns-in_err-write_sized-clause-part : goal.returns-in_err-write_sized-clause-part
returns-in_err-write_sized-clause-part g c =
    let from = err_from_is_err_and c.from_residual-in_err-write_sized.result c.from_residual-in_err-write_sized.ensures.1 in
    rw (from.1, from.2) (λ same. (c.in_ok-geometry.geometry, c.in_ok-geometry.ensures.made, c.in_err-write_sized.ensures.part))
