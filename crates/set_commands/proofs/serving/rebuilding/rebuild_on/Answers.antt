use Rattle.std.proofs.Common.{inl, inr, refl}
use Rattle.std.proofs.lemmas.Result.{err_from_is_err_and, IfErr-weaker}
use Rattle.set_commands.proofs.Served.{only_cut, opening_is_tell_end, opening_not_writing}
use Rattle.set_commands.proofs.ServedSet.{ok_then, part_then, rebuild_end, rebuild_stopped, rebuild_uncut, rebuilt_on}
use Rattle.set_commands.proofs.serving.rebuilding.rebuild_on.Goals as goal

pub returns-clause-rebuilt : goal.returns-clause-rebuilt
returns-clause-rebuilt g c = ok_then _ _ _ (λ written. rebuilt_on _ _ c.in_ok-store.ensures.honest.0 _ _ _ _ c.in_ok-store.ensures.opened _ _ _ _
    c.in_ok-progress.ensures.rebuilds c.rows.ensures written) c.write_progress.ensures.ok

pub returns-clause-cut : goal.returns-clause-cut
returns-clause-cut g c = part_then _ _ _ (λ part. rebuilt_on _ _ c.in_ok-store.ensures.honest.0 _ _ _ _ c.in_ok-store.ensures.opened _ _ _ _
    c.in_ok-progress.ensures.rebuilds c.rows.ensures part) c.write_progress.ensures.part

pub returns-in_err-progress-clause-end : goal.returns-in_err-progress-clause-end
returns-in_err-progress-clause-end g c =
    let p = err_from_is_err_and c.from_residual-in_err-progress.result c.from_residual-in_err-progress.ensures.1 in
    rw (p.1, p.2) (rebuild_end _ _ c.in_ok-store.ensures.honest.0 _ _ _ _ c.in_ok-store.ensures.opened _ _ c.in_err-progress.ensures.rebuilds)

pub returns-in_err-progress-clause-refused : goal.returns-in_err-progress-clause-refused
returns-in_err-progress-clause-refused g c =
    let p = err_from_is_err_and c.from_residual-in_err-progress.result c.from_residual-in_err-progress.ensures.1 in
    rw (p.1, p.2) (λ other. inr (rebuild_stopped _ _ c.in_ok-store.ensures.honest.0 _ _ _ _ c.in_ok-store.ensures.opened _ _
    c.in_err-progress.ensures.rebuilds))

pub returns-in_err-progress-clause-cut : goal.returns-in_err-progress-clause-cut
returns-in_err-progress-clause-cut g c =
    let p = err_from_is_err_and c.from_residual-in_err-progress.result c.from_residual-in_err-progress.ensures.1 in
    rw (p.1, p.2) (λ cut. absurd (rebuild_uncut _ _ c.in_ok-store.ensures.honest.0 _ _ _ _ c.in_ok-store.ensures.opened _ _ c.in_err-progress.ensures.rebuilds
    cut))

pub returns-in_err-progress-clause-unwritten : goal.returns-in_err-progress-clause-unwritten
returns-in_err-progress-clause-unwritten g c = rw (err_from_is_err_and c.from_residual-in_err-progress.result c.from_residual-in_err-progress.ensures.1).1
    (λ other. refl)

pub returns-in_err-store-clause-unwritten : goal.returns-in_err-store-clause-unwritten
returns-in_err-store-clause-unwritten g c = rw (err_from_is_err_and c.from_residual.result c.from_residual.ensures.1).1 (λ other. refl)

pub returns-in_err-store-clause-refused : goal.returns-in_err-store-clause-refused
returns-in_err-store-clause-refused g c =
    let p = err_from_is_err_and c.from_residual.result c.from_residual.ensures.1 in
    rw (p.1, p.2) (λ other. inl c.in_err-store.ensures.refused)

pub returns-in_err-store-clause-end : goal.returns-in_err-store-clause-end
returns-in_err-store-clause-end g c =
    let p = err_from_is_err_and c.from_residual.result c.from_residual.ensures.1 in
    rw (p.1, p.2) (inl (opening_is_tell_end _ c.in_err-store.ensures.err))

pub returns-in_err-store-clause-cut : goal.returns-in_err-store-clause-cut
returns-in_err-store-clause-cut g c =
    let p = err_from_is_err_and c.from_residual.result c.from_residual.ensures.1 in
    rw (p.1, p.2) (λ cut. absurd (opening_not_writing _ c.in_err-store.ensures.err cut))

pub returns-clause-end : goal.returns-clause-end
returns-clause-end g c = IfErr-weaker c.write_progress.result _ _ (λ refusal is. inl (inr (inl is))) c.write_progress.ensures.kind

pub returns-clause-unwritten : goal.returns-clause-unwritten
returns-clause-unwritten g c = only_cut _ _ c.write_progress.ensures.kind

pub returns-clause-refused : goal.returns-clause-refused
returns-clause-refused g c = only_cut _ _ c.write_progress.ensures.kind

pub returns-in_err-store-clause-rebuilt : goal.returns-in_err-store-clause-rebuilt
returns-in_err-store-clause-rebuilt g c = rw (err_from_is_err_and c.from_residual.result c.from_residual.ensures.1).1 tt

pub returns-in_err-progress-clause-rebuilt : goal.returns-in_err-progress-clause-rebuilt
returns-in_err-progress-clause-rebuilt g c = rw (err_from_is_err_and c.from_residual-in_err-progress.result c.from_residual-in_err-progress.ensures.1).1 tt
