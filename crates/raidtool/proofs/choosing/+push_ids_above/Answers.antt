use Rattle.std.proofs.Common.{◌≡◌, ◌++◌, ◌∷◌, [], arith, rules}
use Rattle.std.proofs.lemmas.Result.{on_ok_weaker}
use Rattle.raidtool.proofs.Chosen.{appends_none_above, appends_none_left, appends_one_more}
use Rattle.raidtool.proofs.choosing.+push_ids_above.Goals as goal

pub returns-then-most-eq0-clause-found : goal.returns-then-most-eq0-clause-found
returns-then-most-eq0-clause-found g t c =
    appends_none_left (g.B.Bank.honest c.args.bank.now) c.args.most c.args.above _ c.args.ids.now.items c.if-most-eq0.true

pub returns-in_default-clause-found : goal.returns-in_default-clause-found
returns-in_default-clause-found g t c =
    appends_none_above (g.B.Bank.honest c.args.bank.now) c.args.most c.args.above _ _ c.args.ids.now.items (λ none. omega (arith, none, c.if-most-eq0.false))
    (rw c.in_default.is at c.in_ok-id.ensures.finds)

pub returns-clause-found : goal.returns-clause-found
returns-clause-found g t c =
    let one : c.push.new.self.items ≡ c.args.ids.now.items ++ c.in-Some.id ∷ [] = search rules in
    on_ok_weaker c.push_ids_above.result (λ rest.
    appends_one_more (g.B.Bank.honest c.args.bank.now) _ c.in_ok-id.ensures.honest.0 c.args.most _ c.args.above c.in-Some.id _ _ _ _ _ _
    (λ none. omega (arith, none, c.if-most-eq0.false)) (omega arith) (rw c.in-Some.is at c.in_ok-id.ensures.finds) one rest)
    c.push_ids_above.ensures.found
