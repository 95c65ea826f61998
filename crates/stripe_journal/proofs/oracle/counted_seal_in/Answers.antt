use Rattle.std.proofs.Common.{rules, ◌≡◌, ℕ, length, ap, arith, subst}
use Rattle.stripe_journal.specs.declared.seal.Seal.{Seal}
use Rattle.stripe_journal.specs.LastSealed.{Belongs}
use Rattle.stripe_journal.specs.Spelling.{seal_sector}
use Rattle.stripe_journal.proofs.CountedSeals.{none_beyond_last, none_counted_there, none_in_nothing}
use Rattle.stripe_journal.proofs.oracle.counted_seal_in.Goals as goal

pub returns-in-None-get-clause-none : goal.returns-in-None-get-clause-none
returns-in-None-get-clause-none c = λ _.
    rw c.in-Some.is (none_beyond_last _ _ _ _ (omega (arith, c.in-None-get.ensures.lookup.3, ap length c.deref.ensures.value)))

pub returns-in-None-clause-none : goal.returns-in-None-clause-none
returns-in-None-clause-none c = λ _. rw c.in-None.is (none_in_nothing _ _ _)

pub returns-in-Some-get-clause-some : goal.returns-in-Some-get-clause-some
returns-in-Some-get-clause-some c = search rules

pub returns-in-Some-get-clause-none : goal.returns-in-Some-get-clause-none
returns-in-Some-get-clause-none c = λ none.
    none_counted_there _ _ _ _ c.in-Some-get.sector.now (search rules)
    (subst (λ (place : ℕ). (seal : Seal) → c.in-Some-get.sector.now ≡ seal_sector seal → ¬ Belongs c.args.id.now c.args.geometry.now place seal)
    c.from.ensures (c.counted.ensures.none none))
