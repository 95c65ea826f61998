use Rattle.std.proofs.lemmas.Result.{on_ok_weaker}
use Rattle.set_commands.proofs.FreshLemmas.{read_whole, runs_fresh, unchanged_if_early}
use Rattle.set_commands.proofs.serving.fresh.serve_fresh.Goals as goal

-- src/serving/fresh.rt:30:1
pub returns-clause-ran : goal.returns-clause-ran
returns-clause-ran g c = λ script told. on_ok_weaker c.run_script.result (λ ran. runs_fresh script _ _ _ _ told ran c.in_ok-store.ensures.fresh)
    c.run_script.ensures.done

-- src/serving/fresh.rt:30:1
pub returns-clause-read : goal.returns-clause-read
returns-clause-read g c = λ some. on_ok_weaker c.run_script.result (λ ran. read_whole _ _ _ _ _ ran some) c.run_script.ensures.done

-- src/serving/fresh.rt:30:1
pub returns-clause-early : goal.returns-clause-early
returns-clause-early g c = unchanged_if_early c.run_script.result _ c.run_script.ensures.err
    (λ memory. let same = c.run_script.ensures.memory memory in (same.1, same.2))
