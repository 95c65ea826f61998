use Rattle.std.proofs.lemmas.Result.{err_from_is_err_and, IfErr-weaker, on_ok_weaker}
use Rattle.std.proofs.Common.{inl, refl}
use Rattle.set_commands.proofs.FreshLemmas.{read_whole, unchanged_if_early}
use Rattle.set_commands.proofs.Served.{opening_is_end, opening_not_memory, opening_not_reading, opening_not_writing, script_is_end}
use Rattle.set_commands.proofs.Served.{served_opened, served_ran, served_until_loss}
use Rattle.set_commands.proofs.Served.{served_until_read, served_until_write}
use Rattle.set_commands.proofs.serving.serve_on.Goals as goal

pub returns-clause-ran : goal.returns-clause-ran
returns-clause-ran g c = served_ran _ _ c.in_ok-store.ensures.honest.0 _ _ _ _ c.in_ok-store.ensures.opened _ _ c.run_script.result c.run_script.ensures.done

pub returns-clause-read : goal.returns-clause-read
returns-clause-read g c = λ some. on_ok_weaker c.run_script.result (λ ran. read_whole _ _ _ _ _ ran some) c.run_script.ensures.done

pub returns-clause-early : goal.returns-clause-early
returns-clause-early g c = IfErr-weaker c.run_script.result _ _ (λ refusal same early. same (inl early))
    (unchanged_if_early c.run_script.result _ c.run_script.ensures.err (λ memory. let same = c.run_script.ensures.memory memory in (same.1, same.2)))

pub returns-clause-unopened : goal.returns-clause-unopened
returns-clause-unopened g c = served_opened _ _ _ c.run_script.result c.run_script.ensures.err

pub returns-clause-loss : goal.returns-clause-loss
returns-clause-loss g c = served_until_loss _ _ c.in_ok-store.ensures.honest.0 _ _ _ _ c.in_ok-store.ensures.opened _ _ _ c.run_script.result
    c.run_script.ensures.loss

pub returns-clause-read_fault : goal.returns-clause-read_fault
returns-clause-read_fault g c = served_until_read _ _ c.in_ok-store.ensures.honest.0 _ _ _ _ c.in_ok-store.ensures.opened _ _ c.run_script.result
    c.run_script.ensures.read_fault

pub returns-clause-write_fault : goal.returns-clause-write_fault
returns-clause-write_fault g c = served_until_write _ _ c.in_ok-store.ensures.honest.0 _ _ _ _ c.in_ok-store.ensures.opened _ _ c.run_script.result
    c.run_script.ensures.write_fault

pub returns-clause-end : goal.returns-clause-end
returns-clause-end g c = IfErr-weaker c.run_script.result _ _ (λ refusal. script_is_end refusal) c.run_script.ensures.err

pub returns-in_err-store-clause-ran : goal.returns-in_err-store-clause-ran
returns-in_err-store-clause-ran g c =
    let p = err_from_is_err_and c.from_residual.result c.from_residual.ensures.1 in
    rw p.1 tt

pub returns-in_err-store-clause-read : goal.returns-in_err-store-clause-read
returns-in_err-store-clause-read g c = λ some.
    let p = err_from_is_err_and c.from_residual.result c.from_residual.ensures.1 in
    rw p.1 tt

pub returns-in_err-store-clause-end : goal.returns-in_err-store-clause-end
returns-in_err-store-clause-end g c =
    let p = err_from_is_err_and c.from_residual.result c.from_residual.ensures.1 in
    rw (p.1, p.2) (opening_is_end _ c.in_err-store.ensures.err)

pub returns-in_err-store-clause-early : goal.returns-in_err-store-clause-early
returns-in_err-store-clause-early g c =
    let p = err_from_is_err_and c.from_residual.result c.from_residual.ensures.1 in
    rw p.1 (λ early. (refl, refl))

pub returns-in_err-store-clause-unopened : goal.returns-in_err-store-clause-unopened
returns-in_err-store-clause-unopened g c =
    let p = err_from_is_err_and c.from_residual.result c.from_residual.ensures.1 in
    rw (p.1, p.2) (λ is. c.in_err-store.ensures.refused)

pub returns-in_err-store-clause-loss : goal.returns-in_err-store-clause-loss
returns-in_err-store-clause-loss g c =
    let p = err_from_is_err_and c.from_residual.result c.from_residual.ensures.1 in
    rw (p.1, p.2) (λ ends. inl (c.in_err-store.ensures.refused, (refl, refl)))

pub returns-in_err-store-clause-read_fault : goal.returns-in_err-store-clause-read_fault
returns-in_err-store-clause-read_fault g c =
    let p = err_from_is_err_and c.from_residual.result c.from_residual.ensures.1 in
    rw (p.1, p.2) (λ is. absurd (opening_not_reading _ c.in_err-store.ensures.err is))

pub returns-in_err-store-clause-write_fault : goal.returns-in_err-store-clause-write_fault
returns-in_err-store-clause-write_fault g c =
    let p = err_from_is_err_and c.from_residual.result c.from_residual.ensures.1 in
    rw (p.1, p.2) (λ is. absurd (opening_not_writing _ c.in_err-store.ensures.err is))

pub returns-clause-memory : goal.returns-clause-memory
returns-clause-memory g c = IfErr-weaker c.run_script.result _ _ (λ refusal end is. (_, c.in_ok-store.ensures.opened)) c.run_script.ensures.err

pub returns-in_err-store-clause-memory : goal.returns-in_err-store-clause-memory
returns-in_err-store-clause-memory g c =
    let p = err_from_is_err_and c.from_residual.result c.from_residual.ensures.1 in
    rw (p.1, p.2) (λ is. absurd (opening_not_memory _ c.in_err-store.ensures.err is))
