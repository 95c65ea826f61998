use Rattle.std.proofs.Common.{◌+◌, ℕ, refl, ap, arith, Err, Ok}
use Rattle.std.proofs.lemmas.Result.{err_from_is_err_and}
use Rattle.rebuild.specs.Stepping.{progress_by}
use Rattle.set_commands.specs.Steps.{none_made}
use Rattle.set_commands.proofs.MadeSteps.{ends_early, ends_last, none_answered, none_refused, of_its_step, one_more, steps_on}
use Rattle.set_commands.proofs.serving.rebuilding.rebuild_rows.Goals as goal

pub loop-init : goal.loop-init
loop-init g c = record {
  before = 0;
  counted = refl;
  within = omega arith;
  honest = λ honest. honest;
  still = λ honest. honest;
  made = none_made refl refl;
}

pub loop-preserved : goal.loop-preserved
loop-preserved g c =
    let was = c.loop.invariant in
    record {
      before = was.before + 1;
      counted = ap (λ (n : ℕ). n + 1) was.counted;
      within = omega (arith, was.counted, c.loop-test.true);
      honest = λ honest. c.in_ok-progress.ensures.honest.0 (was.honest honest);
      still = λ honest. was.still (c.in_ok-progress.ensures.honest.1 honest);
      made = one_more _ _ was.before _ _ _ _ _ was.honest (ap (λ p. Ok (progress_by p)) c.in-Position.is) was.made
          (of_its_step _ _ c.args.store.now.array.table _ _ (Ok (progress_by c.in_ok-progress.progress))
          (steps_on _ was.before _ _ was.made).geometry c.rebuild_rows-rows.ensures
          c.in_ok-progress.ensures.rebuilds);
    }

pub returns-in_err-progress-clause-honest : goal.returns-in_err-progress-clause-honest
returns-in_err-progress-clause-honest g c = (
  λ honest. c.in_err-progress.ensures.honest.0 (c.loop.invariant.honest honest),
  λ honest. c.loop.invariant.still (c.in_err-progress.ensures.honest.1 honest),
)

pub returns-in_err-progress-clause-rebuilds : goal.returns-in_err-progress-clause-rebuilds
returns-in_err-progress-clause-rebuilds g c =
    let p = err_from_is_err_and c.from_residual.result c.from_residual.ensures.1 in
    let was = c.loop.invariant in
    rw (p.1, p.2) (ends_early _ _ c.args.steps _ _ was.before _ _ _ _ c.unwrap_or-most.ensures was.honest (omega (arith, was.counted, c.loop-test.true))
    was.made
    (of_its_step _ _ c.args.store.now.array.table _ _ (Err c.in_err-progress.field-0.0)
    (steps_on _ was.before _ _ was.made).geometry c.rebuild_rows-rows.ensures c.in_err-progress.ensures.rebuilds)
    (none_refused _))

pub returns-in-Complete-clause-honest : goal.returns-in-Complete-clause-honest
returns-in-Complete-clause-honest g c = (
  λ honest. c.in_ok-progress.ensures.honest.0 (c.loop.invariant.honest honest),
  λ honest. c.loop.invariant.still (c.in_ok-progress.ensures.honest.1 honest),
)

pub returns-in-Complete-clause-rebuilds : goal.returns-in-Complete-clause-rebuilds
returns-in-Complete-clause-rebuilds g c =
    let was = c.loop.invariant in
    ends_early _ _ c.args.steps _ _ was.before _ _ _ _ c.unwrap_or-most.ensures was.honest (omega (arith, was.counted, c.loop-test.true)) was.made
    (of_its_step _ _ c.args.store.now.array.table _ _ (Ok (progress_by c.in_ok-progress.progress))
    (steps_on _ was.before _ _ was.made).geometry c.rebuild_rows-rows.ensures
    c.in_ok-progress.ensures.rebuilds) (none_answered _ c.in-Complete.is)

pub returns-clause-honest : goal.returns-clause-honest
returns-clause-honest g c = (
  λ honest. c.rebuild_step-2.ensures.honest.0 (c.loop.invariant.honest honest),
  λ honest. c.loop.invariant.still (c.rebuild_step-2.ensures.honest.1 honest),
)

pub returns-clause-rebuilds : goal.returns-clause-rebuilds
returns-clause-rebuilds g c =
    let was = c.loop.invariant in
    ends_last _ _ c.args.steps _ _ was.before _ _ _ _ c.unwrap_or-most.ensures c.rows.ensures was.honest
    (omega (arith, was.counted, was.within, c.loop-test.false)) was.made
    (of_its_step _ _ c.args.store.now.array.table _ _ _ (steps_on _ was.before _ _ was.made).geometry c.rebuild_rows-rows.ensures
    c.rebuild_step-2.ensures.rebuilds)
