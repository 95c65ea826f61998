use Rattle.std.proofs.Common.{refl}
use Rattle.std.proofs.lemmas.Result.{err_from_is_err_and}
use Rattle.set_commands.proofs.Served.{opening_is_end}
use Rattle.server.proofs.Opened.{served_ends, served_set}
use Rattle.server.specs.OnBanks.{not_opened}
use Rattle.server.proofs.on_bank.serve_set.Goals as goal

pub serve_requests-requires : goal.serve_requests-requires
serve_requests-requires g c = record { going = c.in_ok-store.ensures.opened.opens.going _ refl }

pub returns-clause-serves : goal.returns-clause-serves
returns-clause-serves g c = served_set _ _ _ _ _ _ _ c.serve_requests.result c.in_ok-store.ensures.opened
    (c.serve_requests.ensures.serves c.args.bank c.in_ok-store.ensures.honest.0)

pub returns-clause-end : goal.returns-clause-end
returns-clause-end g c = served_ends _ _ _ _ _ c.serve_requests.result (c.serve_requests.ensures.serves c.args.bank c.in_ok-store.ensures.honest.0)

pub returns-in_err-store-clause-serves : goal.returns-in_err-store-clause-serves
returns-in_err-store-clause-serves g c =
    let p = err_from_is_err_and c.from_residual.result c.from_residual.ensures.1 in
    rw (p.1, p.2) (not_opened _ c.in_err-store.ensures.refused)

pub returns-in_err-store-clause-end : goal.returns-in_err-store-clause-end
returns-in_err-store-clause-end g c =
    let p = err_from_is_err_and c.from_residual.result c.from_residual.ensures.1 in
    rw (p.1, p.2) (opening_is_end _ c.in_err-store.ensures.err)
