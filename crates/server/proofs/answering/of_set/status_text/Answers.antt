use Rattle.std.proofs.Common.{refl}
use Rattle.std.proofs.lemmas.Result.{err_from_is_err_and}
use Rattle.server.proofs.ServedRequests.{status_is_told}
use Rattle.server.proofs.answering.of_set.status_text.Goals as goal

pub returns-clause-text : goal.returns-clause-text
returns-clause-text g c = λ going. status_is_told _ c.in_ok-status.status _ _ c.in_ok-status.ensures c.in_ok-value.ensures.value c.in_ok-text.ensures.text

pub returns-in_err-status-clause-text : goal.returns-in_err-status-clause-text
returns-in_err-status-clause-text g c = λ going. absurd (c.in_err-status.ensures.going going)

pub returns-in_err-status-clause-memory : goal.returns-in_err-status-clause-memory
returns-in_err-status-clause-memory g c = λ going. absurd (c.in_err-status.ensures.going going)

pub returns-in_err-value-clause-text : goal.returns-in_err-value-clause-text
returns-in_err-value-clause-text g c = rw (err_from_is_err_and c.from_residual-in_err-value.result c.from_residual-in_err-value.ensures.1).1 (λ going. tt)

pub returns-in_err-value-clause-memory : goal.returns-in_err-value-clause-memory
returns-in_err-value-clause-memory g c =
    let p = err_from_is_err_and c.from_residual-in_err-value.result c.from_residual-in_err-value.ensures.1 in
    rw (p.1, p.2) (λ going. c.in_err-value.ensures.err)

pub returns-in_err-text-clause-text : goal.returns-in_err-text-clause-text
returns-in_err-text-clause-text g c = rw (err_from_is_err_and c.from_residual-in_err-text.result c.from_residual-in_err-text.ensures.1).1 (λ going. tt)

pub returns-in_err-text-clause-memory : goal.returns-in_err-text-clause-memory
returns-in_err-text-clause-memory g c =
    let p = err_from_is_err_and c.from_residual-in_err-text.result c.from_residual-in_err-text.ensures.1 in
    rw (p.1, p.2) (λ going. refl)
