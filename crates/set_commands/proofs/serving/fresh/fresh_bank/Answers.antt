use Rattle.std.proofs.Common.{arith}
use Rattle.std.proofs.lemmas.Result.{IfOk-weaker}
use Rattle.set_commands.proofs.FreshLemmas.{quiet_beyond}
use Rattle.set_commands.proofs.serving.fresh.fresh_bank.Goals as goal

-- src/serving/fresh.rt:74:1
pub returns-clause-quiet : goal.returns-clause-quiet
returns-clause-quiet c = λ id. IfOk-weaker c.new.result _ _
    (λ bank began. quiet_beyond id _ _ c.in_ok-fresh_image.field-0.slots.items began (omega (arith, c.in_ok-fresh_image.ensures.slots))) c.new.ensures.history
