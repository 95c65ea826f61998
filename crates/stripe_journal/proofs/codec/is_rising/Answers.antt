use Rattle.std.proofs.Common.{rules, of_calls, nat_lt}
use Rattle.std.proofs.lemmas.Fn.{always_returns_same}
use Rattle.stripe_journal.proofs.Seals.{rising_from}
use Rattle.stripe_journal.proofs.codec.is_rising.Goals as goal

pub returns : goal.returns
returns c =
    let answers = always_returns_same _ _ _ (λ a r f k. search (rules, of_calls)) in
    rising_from c.args.rows.now c.is_sorted_by.result (c.is_sorted_by.ensures.cases (λ x y. nat_lt x y) answers)
