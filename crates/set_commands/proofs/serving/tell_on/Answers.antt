use Rattle.std.proofs.Common.{refl}
use Rattle.std.proofs.lemmas.Result.{IfErr-weaker, err_from_is_err_and}
use Rattle.std.specs.Prelude.{Result, Ok, Err, OnOk}
use Rattle.set_commands.specs.Serving.{StatusOn}
use Rattle.set_commands.proofs.Served.{opening_is_tell_end, opening_not_memory, opening_not_writing, status_told, tells_on}
use Rattle.set_commands.proofs.Served.{tells_part_on, untold_end, untold_for, untold_same}
use Rattle.set_commands.proofs.serving.tell_on.Goals as goal

pub returns-clause-told : goal.returns-clause-told
returns-clause-told g c =
    let told : StatusOn (g.B.Bank.honest c.args.bank) c.args.id _ c.in_ok-status.status =
    record { store = _; opened = c.in_ok-store.ensures.opened; tells = c.in_ok-status.ensures } in
    tells_on _ _ _ c.args.json _ _ c.in_ok-status.status told c.write_status.result c.write_status.ensures.ok

pub returns-clause-unopened : goal.returns-clause-unopened
returns-clause-unopened g c = untold_for _ _ _ _ c.write_status.result _ c.write_status.ensures.err

pub returns-clause-cut : goal.returns-clause-cut
returns-clause-cut g c =
    let told : StatusOn (g.B.Bank.honest c.args.bank) c.args.id _ c.in_ok-status.status =
    record { store = _; opened = c.in_ok-store.ensures.opened; tells = c.in_ok-status.ensures } in
    tells_part_on _ _ _ c.args.json _ _ c.in_ok-status.status told _ c.write_status.result c.write_status.ensures.err

pub returns-in_err-store-clause-told : goal.returns-in_err-store-clause-told
returns-in_err-store-clause-told g c = rw (err_from_is_err_and c.from_residual.result c.from_residual.ensures.1).1 tt

pub returns-in_err-store-clause-unwritten : goal.returns-in_err-store-clause-unwritten
returns-in_err-store-clause-unwritten g c = rw (err_from_is_err_and c.from_residual.result c.from_residual.ensures.1).1 (λ other. refl)

pub returns-in_err-store-clause-unopened : goal.returns-in_err-store-clause-unopened
returns-in_err-store-clause-unopened g c =
    let p = err_from_is_err_and c.from_residual.result c.from_residual.ensures.1 in
    rw (p.1, p.2) (λ memory fault. c.in_err-store.ensures.refused)

pub returns-in_err-status-clause-told : goal.returns-in_err-status-clause-told
returns-in_err-status-clause-told g c = rw (err_from_is_err_and c.from_residual-in_err-status.result c.from_residual-in_err-status.ensures.1).1 tt

pub returns-in_err-status-clause-unwritten : goal.returns-in_err-status-clause-unwritten
returns-in_err-status-clause-unwritten g c = rw (err_from_is_err_and c.from_residual-in_err-status.result c.from_residual-in_err-status.ensures.1).1
    (λ other. refl)

pub returns-in_err-store-clause-end : goal.returns-in_err-store-clause-end
returns-in_err-store-clause-end g c =
    let p = err_from_is_err_and c.from_residual.result c.from_residual.ensures.1 in
    rw (p.1, p.2) (opening_is_tell_end _ c.in_err-store.ensures.err)

pub returns-in_err-store-clause-cut : goal.returns-in_err-store-clause-cut
returns-in_err-store-clause-cut g c =
    let p = err_from_is_err_and c.from_residual.result c.from_residual.ensures.1 in
    rw (p.1, p.2) (λ cut. absurd (opening_not_writing _ c.in_err-store.ensures.err cut))

pub returns-in_err-status-clause-end : goal.returns-in_err-status-clause-end
returns-in_err-status-clause-end g c = absurd (status_told _ _ _ _ _ c.in_ok-store.ensures.opened c.in_err-status.ensures)

pub returns-in_err-status-clause-unopened : goal.returns-in_err-status-clause-unopened
returns-in_err-status-clause-unopened g c = absurd (status_told _ _ _ _ _ c.in_ok-store.ensures.opened c.in_err-status.ensures)

pub returns-in_err-status-clause-cut : goal.returns-in_err-status-clause-cut
returns-in_err-status-clause-cut g c = absurd (status_told _ _ _ _ _ c.in_ok-store.ensures.opened c.in_err-status.ensures)

pub returns-clause-end : goal.returns-clause-end
returns-clause-end g c = untold_end _ _ _ _ c.write_status.result c.write_status.ensures.err

pub returns-clause-unwritten : goal.returns-clause-unwritten
returns-clause-unwritten g c = untold_same _ _ _ _ c.write_status.result c.write_status.ensures.err

-- what holds at any rate holds where a call is answered well
at_any_rate : {T E P : Type 0} (result : Result T E) → P → OnOk result P
at_any_rate (Ok value) holds = holds
at_any_rate (Err error) holds = tt

pub returns-clause-health : goal.returns-clause-health
returns-clause-health g c = at_any_rate c.write_status.result (record {
  status = c.in_ok-status.status;
  told = record { store = _; opened = c.in_ok-store.ensures.opened; tells = c.in_ok-status.ensures };
  is = c.assembled.ensures;
})

pub returns-clause-memory : goal.returns-clause-memory
returns-clause-memory g c = IfErr-weaker c.write_status.result _ _ (λ refusal end is. (_, c.in_ok-store.ensures.opened)) c.write_status.ensures.err

pub returns-in_err-store-clause-memory : goal.returns-in_err-store-clause-memory
returns-in_err-store-clause-memory g c =
    let p = err_from_is_err_and c.from_residual.result c.from_residual.ensures.1 in
    rw (p.1, p.2) (λ is. absurd (opening_not_memory _ c.in_err-store.ensures.err is))
