use Rattle.std.specs.Prelude.{codes}
use Rattle.std.proofs.lemmas.Result.{err_from_is_err_and}
use Rattle.server.proofs.Writing.{volumes_cut, volumes_then}
use Rattle.server.proofs.telling.write_volumes.Goals as goal

pub returns : goal.returns
returns g c =
    volumes_then _ _ _ (codes "volumes ") c.args.volumes.now c.write_reply.result c.in_ok-write_count.ensures.ok
    (record { ok = c.write_reply.ensures.ok; part = c.write_reply.ensures.part; kind = c.write_reply.ensures.kind })

pub returns-in_err-write_count : goal.returns-in_err-write_count
returns-in_err-write_count g c =
    let p = err_from_is_err_and c.from_residual.result c.from_residual.ensures.1 in
    rw (p.1, p.2) (volumes_cut _ _ (codes "volumes ") c.args.volumes.now _ c.in_err-write_count.ensures)
