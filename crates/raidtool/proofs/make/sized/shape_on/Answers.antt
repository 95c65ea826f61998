use Rattle.std.proofs.lemmas.Result.{err_from_is_err_and}
use Rattle.raidtool.proofs.SizedMakes.{length_shape}
use Rattle.raidtool.proofs.make.sized.shape_on.Goals as goal

pub returns-in_err-bytes-in-Most-clause-fault : goal.returns-in_err-bytes-in-Most-clause-fault
returns-in_err-bytes-in-Most-clause-fault g c =
    let from = err_from_is_err_and c.from_residual.result c.from_residual.ensures.1 in
    rw (c.in-Most.is, from.1, from.2) (length_shape g.F.Growing.tells g.F.Growing.told g.F.Growing.has_failed _ _ _ c.args.wanted.now.chunk _
    c.requires.members c.in_err-bytes-in-Most.ensures.fault)
