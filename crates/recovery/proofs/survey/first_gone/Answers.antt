use Rattle.std.proofs.Common.{ℕ, ◌≢◌, sym, arith}
use Rattle.superblock.specs.declared.state.State.TheVariants.{Missing}
use Rattle.superblock.specs.Tables.{state_at}
use Rattle.recovery.specs.Making.{bank_view}
use Rattle.recovery.specs.Surveying.{IsThere}
use Rattle.recovery.proofs.SurveyedOut.{below_one_more}
use Rattle.std.proofs.lemmas.Bool.{false≢true}
use Rattle.recovery.proofs.survey.first_gone.Goals as goal

pub loop-slot-preserved : goal.loop-slot-preserved
loop-slot-preserved g c =
    below_one_more (λ (k : ℕ). state_at c.args.survey.now.table.states k ≢ Missing
    → IsThere (g.B.Bank.honest c.args.bank.now) (bank_view (g.B.Bank.panel c.args.bank.now) (g.B.Bank.history c.args.bank.now)) c.args.survey.now.table k)
    c.loop-slot.slot c.loop-slot.invariant (c.is_gone.ensures.there c.if-is_gone.false)

pub loop-slot-init : goal.loop-slot-init
loop-slot-init g c = λ k below. absurd (omega (arith, below))

pub is_gone-requires-clause-of_set : goal.is_gone-requires-clause-of_set
is_gone-requires-clause-of_set g c = c.loop-slot-test.true

pub is_gone-requires-clause-surveyed : goal.is_gone-requires-clause-surveyed
is_gone-requires-clause-surveyed g c = c.requires.surveyed

pub returns-then-is_gone-clause-some : goal.returns-then-is_gone-clause-some
returns-then-is_gone-clause-some g c = c.is_gone.ensures.gone c.if-is_gone.true

pub returns-then-is_gone-clause-none : goal.returns-then-is_gone-clause-none
returns-then-is_gone-clause-none g c = λ is. absurd (false≢true (sym is))

pub returns-clause-some : goal.returns-clause-some
returns-clause-some g c = tt

pub returns-clause-none : goal.returns-clause-none
returns-clause-none g c = λ _ slot below. c.loop-slot.invariant slot (omega (arith, below, c.loop-slot-test.false))
