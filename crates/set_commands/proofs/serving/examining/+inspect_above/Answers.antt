-- No id is above this one, or the set of the least of these is inspected, and then those above it.
use Rattle.std.proofs.Common.{arith}
use Rattle.std.proofs.lemmas.Result.{on_ok_weaker}
use Rattle.set_commands.proofs.Inspected.{above_still, at_still, health_above_still, health_at_still, health_none_above, health_none_left, health_one_more}
use Rattle.set_commands.proofs.Inspected.{none_above, one_more, put_none, put_then}
use Rattle.set_commands.proofs.serving.examining.+inspect_above.Goals as goal

pub returns-in_default-clause-puts : goal.returns-in_default-clause-puts
returns-in_default-clause-puts g t c =
    put_none _ _ (none_above (g.B.Bank.honest c.args.bank.now) c.args.json c.args.most c.args.above _ _ (λ none. omega (arith, none, c.if-most-eq0.false))
    (rw c.in_default.is at c.in_ok-id.ensures.finds))

pub returns-clause-puts : goal.returns-clause-puts
returns-clause-puts g t c =
    let honest = g.B.Bank.honest c.args.bank.now in
    on_ok_weaker c.inspect_above.result (λ rest.
    put_then _ _ _ _ _ _ c.in_ok-inspect_one.ensures.puts rest (λ one other inspections goes_on.
    one_more honest c.args.json c.args.most _ c.args.above c.in-Some.id _ _ _ _ one other (λ none. omega (arith, none, c.if-most-eq0.false)) (omega arith)
    (rw c.in-Some.is at c.in_ok-id.ensures.finds)
    (at_still honest _ c.in_ok-id.ensures.honest.0 c.in-Some.id c.args.json _ _ one inspections)
    (above_still honest _ (λ fair. c.in_ok-inspect_one.ensures.honest.0 (c.in_ok-id.ensures.honest.0 fair)) c.args.json _ _ _ _ other goes_on)))
    c.inspect_above.ensures.puts

pub returns-then-most-eq0-clause-health : goal.returns-then-most-eq0-clause-health
returns-then-most-eq0-clause-health g t c = health_none_left (g.B.Bank.honest c.args.bank.now) c.args.most c.args.above _ c.args.health.now c.if-most-eq0.true

pub returns-in_default-clause-health : goal.returns-in_default-clause-health
returns-in_default-clause-health g t c =
    health_none_above (g.B.Bank.honest c.args.bank.now) c.args.most c.args.above _ _ c.args.health.now (λ none. omega (arith, none, c.if-most-eq0.false))
    (rw c.in_default.is at c.in_ok-id.ensures.finds)

pub returns-clause-health : goal.returns-clause-health
returns-clause-health g t c =
    let honest = g.B.Bank.honest c.args.bank.now in
    on_ok_weaker c.inspect_above.result (λ rest.
    health_one_more honest c.args.most _ c.args.above c.in-Some.id _ _ _ _ _ _ _ (λ none. omega (arith, none, c.if-most-eq0.false)) (omega arith)
    (rw c.in-Some.is at c.in_ok-id.ensures.finds)
    (health_at_still honest _ c.in_ok-id.ensures.honest.0 c.in-Some.id _ _ _ _ c.in_ok-inspect_one.ensures.health)
    (health_above_still honest _ (λ fair. c.in_ok-inspect_one.ensures.honest.0 (c.in_ok-id.ensures.honest.0 fair)) _ _ _ _ _ _ rest))
    c.inspect_above.ensures.health
