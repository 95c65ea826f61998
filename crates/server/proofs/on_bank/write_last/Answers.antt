use Rattle.std.proofs.lemmas.Result.{err_from_is_err_and}
use Rattle.server.proofs.Opened.{cut_last, wrote_last}
use Rattle.server.proofs.on_bank.write_last.Goals as goal

pub returns : goal.returns
returns g c = wrote_last _ _ _ c.in_ok-write_reply.ensures.ok

pub returns-in_err-write_reply : goal.returns-in_err-write_reply
returns-in_err-write_reply g c =
    let p = err_from_is_err_and c.from_residual.result c.from_residual.ensures.1 in
    rw (p.1, p.2) (cut_last _ _ _ _ c.in_err-write_reply.ensures.kind c.in_err-write_reply.ensures.part)
