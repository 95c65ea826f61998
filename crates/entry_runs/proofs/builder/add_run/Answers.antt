use Rattle.std.proofs.Common.{◌≡◌, Bool, true, false, ◌-◌, ◌≤◌, ◌++◌, ◌∷◌, [], List, length, ap, sym, subst, ◌∙◌, arith}
use Rattle.std.proofs.lemmas.Bool.{eqb-true}
use Rattle.entry_runs.specs.declared.run.Run.{Run}
use Rattle.entry_runs.specs.declared.sizes.TheConstants.{MOST_RUNS}
use Rattle.entry_runs.specs.Joined.{touches, with_run}
use Rattle.entry_runs.specs.Runs.{AreEach, run_at}
use Rattle.entry_runs.proofs.Builds.{each_more, lengthened, lengthened_each, not_lengthened}
use Rattle.entry_runs.proofs.Joins.{put_first, put_last, too_many}
use Rattle.entry_runs.proofs.builder.add_run.Goals.{else-count-gt0-via-then-count-gt0+else-touches, else-count-gt0-via-else-count-gt0}
use Rattle.entry_runs.proofs.builder.add_run.Goals as goal

-- the last run touches the next
touch_last : (c : goal.After-lengthen) → touches (run_at c.args.list.now.items (length c.args.list.now.items - 1)) c.args.next ≡ true
touch_last c =
    ap (λ (xs : List Run). touches (run_at xs (length xs - 1)) c.args.next) (sym c.as_slice-runs.ensures.value) ∙ sym c.touches.ensures ∙ c.if-touches.true

some_run : (c : goal.After-lengthen) → 1 ≤ length c.args.list.now.items
some_run c = omega (arith, ap length c.as_slice-runs.ensures.value, c.if-count-gt0.true)

pub returns-then-touches-clause-taken : goal.returns-then-touches-clause-taken
returns-then-touches-clause-taken c =
    lengthened c.args.list.now.items c.lengthen.new.list.items c.args.next c.lengthen.result (some_run c) (touch_last c) c.lengthen.ensures

pub returns-then-touches-clause-each : goal.returns-then-touches-clause-each
returns-then-touches-clause-each c =
    lengthened_each c.args.list.now.items c.lengthen.new.list.items c.args.next c.lengthen.result c.requires.fit.each c.requires.one (some_run c) (touch_last c)
    c.lengthen.ensures

pub returns-then-touches-clause-none : goal.returns-then-touches-clause-none
returns-then-touches-clause-none c =
    not_lengthened c.args.list.now.items c.lengthen.new.list.items c.args.next c.lengthen.result (some_run c) (touch_last c) c.lengthen.ensures

-- else it stands after all

stands_last : (runs items : List Run) (next : Run) (result : Bool) → runs ≡ items → 1 ≤ length runs → result ≡ touches (run_at runs (length runs - 1)) next
    → result ≡ false → with_run items next ≡ items ++ next ∷ []
stands_last runs items next result same some is isnt =
    subst (λ (all : List Run). with_run all next ≡ all ++ next ∷ []) same
    (put_last runs next (length runs - 1) (omega (arith, some)) (sym is ∙ isnt))

stands_first : (runs items : List Run) (next : Run) → runs ≡ items → length runs ≡ 0 → with_run items next ≡ items ++ next ∷ []
stands_first runs items next same none =
    subst (λ (all : List Run). with_run all next ≡ all ++ next ∷ []) same (put_first runs next none)

pub returns-then-is_full-clause-none : goal.returns-then-is_full-clause-none
returns-then-is_full-clause-none c = λ isnt fit.
    let items = c.args.list.now.items in
    let runs = c.as_slice-runs.result.now in
    let full : length items ≡ MOST_RUNS = eqb-true (length items) MOST_RUNS (sym c.is_full.ensures.value ∙ c.if-is_full.true) in
    let stands : with_run items c.args.next ≡ items ++ c.args.next ∷ [] = elim c.else-count-gt0.branch [
      | else-count-gt0-via-then-count-gt0+else-touches w ↦
          stands_last runs items c.args.next w.touches.result c.as_slice-runs.ensures.value (omega (arith, w.if-count-gt0.true)) w.touches.ensures
          w.if-touches.false
      | else-count-gt0-via-else-count-gt0 w ↦ stands_first runs items c.args.next c.as_slice-runs.ensures.value (omega (arith, w.if-count-gt0.false))
    ] in
    too_many items (with_run items c.args.next) c.args.next full stands fit

pub returns-clause-taken : goal.returns-clause-taken
returns-clause-taken c = λ is.
    let items = c.args.list.now.items in
    let runs = c.as_slice-runs.result.now in
    let stands : with_run items c.args.next ≡ items ++ c.args.next ∷ [] = elim c.else-count-gt0.branch [
      | else-count-gt0-via-then-count-gt0+else-touches w ↦
          stands_last runs items c.args.next w.touches.result c.as_slice-runs.ensures.value (omega (arith, w.if-count-gt0.true)) w.touches.ensures
          w.if-touches.false
      | else-count-gt0-via-else-count-gt0 w ↦ stands_first runs items c.args.next c.as_slice-runs.ensures.value (omega (arith, w.if-count-gt0.false))
    ] in
    c.push.ensures.items ∙ sym stands

pub returns-clause-each : goal.returns-clause-each
returns-clause-each c = λ is.
    subst AreEach (sym c.push.ensures.items) (each_more c.args.list.now.items c.args.next c.requires.fit.each c.requires.one)
