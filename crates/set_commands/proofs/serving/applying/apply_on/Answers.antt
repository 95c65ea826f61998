use Rattle.std.proofs.Common.{inr}
use Rattle.std.proofs.lemmas.Result.{err_from_is_err_and}
use Rattle.set_commands.proofs.Applied.{applied_on, event_end, event_uncut, refused_on}
use Rattle.set_commands.proofs.Served.{only_cut}
use Rattle.set_commands.proofs.ServedSet.{ok_then, part_then}
use Rattle.set_commands.proofs.serving.applying.apply_on.Goals as goal

pub returns-in_err-reply-clause-end : goal.returns-in_err-reply-clause-end
returns-in_err-reply-clause-end g c =
    let p = err_from_is_err_and c.from_residual-in_err-reply.result c.from_residual-in_err-reply.ensures.1 in
    rw (p.1, p.2) (event_end _ _ c.in_ok-store.ensures.honest.0 _ _ _ _ c.in_ok-store.ensures.opened _ _ c.apply.ensures.applies _
    c.in_err-reply.ensures.refused)

pub returns-in_err-reply-clause-refused : goal.returns-in_err-reply-clause-refused
returns-in_err-reply-clause-refused g c =
    let p = err_from_is_err_and c.from_residual-in_err-reply.result c.from_residual-in_err-reply.ensures.1 in
    rw (p.1, p.2) (λ other. inr (refused_on _ _ c.in_ok-store.ensures.honest.0 _ _ _ _ c.in_ok-store.ensures.opened _ _ c.apply.ensures.applies _
    c.in_err-reply.ensures.refused))

pub returns-in_err-reply-clause-cut : goal.returns-in_err-reply-clause-cut
returns-in_err-reply-clause-cut g c =
    let p = err_from_is_err_and c.from_residual-in_err-reply.result c.from_residual-in_err-reply.ensures.1 in
    rw (p.1, p.2) (λ cut. absurd (event_uncut _ _ c.in_ok-store.ensures.honest.0 _ _ _ _ c.in_ok-store.ensures.opened _ _ c.apply.ensures.applies _
    c.in_err-reply.ensures.refused cut))

pub returns-clause-applied : goal.returns-clause-applied
returns-clause-applied g c = ok_then _ _ _ (λ written. applied_on _ _ c.in_ok-store.ensures.honest.0 _ _ _ _ c.in_ok-store.ensures.opened _ _
    c.apply.ensures.applies
    _ _ c.in_ok-reply.ensures.same c.in_ok-reply.ensures.done written) c.write_event.ensures.ok

pub returns-clause-unwritten : goal.returns-clause-unwritten
returns-clause-unwritten g c = only_cut _ _ c.write_event.ensures.kind

pub returns-clause-refused : goal.returns-clause-refused
returns-clause-refused g c = only_cut _ _ c.write_event.ensures.kind

pub returns-clause-cut : goal.returns-clause-cut
returns-clause-cut g c = part_then _ _ _ (λ part. applied_on _ _ c.in_ok-store.ensures.honest.0 _ _ _ _ c.in_ok-store.ensures.opened _ _ c.apply.ensures.applies
    _ _ c.in_ok-reply.ensures.same c.in_ok-reply.ensures.done part) c.write_event.ensures.part
