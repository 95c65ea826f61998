use Rattle.std.proofs.Common.{ℕ, List, [], ◌∷◌, ◌++◌, refl, sym, subst, arith}
use Rattle.entry_runs.specs.Built.{runs_in}
use Rattle.entry_runs.specs.WrittenOut.{masks_of_runs, rows_of_runs}
use Rattle.batch.proofs.OnePlan.{none_fit}
use Rattle.batch.proofs.PlannedRows.{ArePlannedBy, planned_all, planned_more, starts_next}
use Rattle.batch.proofs.planning.plan_rows.Goals as goal

pub loop-first-preserved : goal.loop-first-preserved
loop-first-preserved c =
    let geometry = c.args.geometry.now in
    let places = c.args.places.now in
    let now = c.loop-first in
    let next = c.next_row-next.result in
    let is = c.next_row-next.ensures in
    let starts = now.invariant.starts c.loop-first-test.true in
    let rows = rows_of_runs (runs_in now.runs) in
    let masks = masks_of_runs (runs_in now.runs) in
    let made = c.if-not-push.ensures in
    record {
      within = is.within;
      starts = starts_next geometry places now.first next rows masks starts is now.invariant.planned;
      after = λ inside. omega (arith, made.ends refl, is.later next.end (omega arith) inside);
      planned = subst (λ (list : List ℕ). ArePlannedBy geometry places next.end list (masks_of_runs (runs_in c.push.new.self)))
          (sym (made.rows refl))
          (subst (λ (list : List ℕ). ArePlannedBy geometry places next.end (rows ++ next.row ∷ []) list) (sym (made.masks refl))
          (planned_more geometry places now.first next rows masks starts is now.invariant.planned));
    }

pub returns-clause-planned : goal.returns-clause-planned
returns-clause-planned c = λ done.
    let now = c.loop-first in
    planned_all c.args.geometry.now c.args.places.now now.first (rows_of_runs (runs_in now.runs)) (masks_of_runs (runs_in now.runs))
    (omega (arith, c.loop-first-test.false, now.invariant.within)) now.invariant.planned

pub returns-then-not-push-clause-none : goal.returns-then-not-push-clause-none
returns-then-not-push-clause-none c = λ full.
    let now = c.loop-first in
    none_fit c.args.geometry.now c.args.places.now now.first c.next_row-next.result (rows_of_runs (runs_in now.runs)) (masks_of_runs (runs_in now.runs))
    (now.invariant.starts c.loop-first-test.true) c.next_row-next.ensures now.invariant.planned (c.if-not-push.ensures.none refl)
