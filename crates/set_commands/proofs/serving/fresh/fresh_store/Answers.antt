use Rattle.set_commands.proofs.FreshLemmas.{open_refused, opened_fresh}
use Rattle.set_commands.proofs.serving.fresh.fresh_store.Goals as goal

-- src/serving/fresh.rt:47:1
pub returns-in-Ok-clause-fresh : goal.returns-in-Ok-clause-fresh
returns-in-Ok-clause-fresh c = opened_fresh _ _ c.in_ok-fresh_array.ensures.fresh c.in-Ok.ensures.opened

-- src/serving/fresh.rt:47:1
pub returns-in-Err-clause-err : goal.returns-in-Err-clause-err
returns-in-Err-clause-err c = open_refused _ _ c.in-Err.unopened.refusal c.in_ok-fresh_array.ensures.fresh c.in-Err.ensures.refused
