use Rattle.std.proofs.Common.{ℕ, ◌≡◌, ◌≢◌, sym, arith}
use Rattle.superblock.specs.declared.state.State.TheVariants.{InSync}
use Rattle.superblock.specs.Tables.{state_at}
use Rattle.recovery.specs.Making.{bank_view}
use Rattle.recovery.specs.Surveying.{IsThere}
use Rattle.recovery.proofs.SurveyedOut.{below_one_more}
use Rattle.std.proofs.lemmas.Bool.{false≢true}
use Rattle.recovery.proofs.survey.other_out.Goals.{else-slot-first-via-then-slot-first+else-not-is_full, else-slot-first-via-else-slot-first}
use Rattle.recovery.proofs.survey.other_out.Goals as goal

pub loop-slot-preserved : goal.loop-slot-preserved
loop-slot-preserved g c =
    below_one_more (λ (k : ℕ). k ≢ c.args.first → (state_at c.args.survey.now.table.states k ≡ InSync)
    × IsThere (g.B.Bank.honest c.args.bank.now) (bank_view (g.B.Bank.panel c.args.bank.now) (g.B.Bank.history c.args.bank.now)) c.args.survey.now.table k)
    c.loop-slot.slot c.loop-slot.invariant
    (elim c.else-slot-first.branch [
      | else-slot-first-via-then-slot-first+else-not-is_full w ↦ λ apart. w.is_full.ensures.full w.if-not-is_full.false
      | else-slot-first-via-else-slot-first w ↦ λ apart. absurd (apart w.if-slot-first.false)
    ])

pub loop-slot-init : goal.loop-slot-init
loop-slot-init g c = λ k below. absurd (omega (arith, below))

pub is_full-requires-clause-of_set : goal.is_full-requires-clause-of_set
is_full-requires-clause-of_set g c = c.loop-slot-test.true

pub is_full-requires-clause-surveyed : goal.is_full-requires-clause-surveyed
is_full-requires-clause-surveyed g c = c.requires.surveyed

pub returns-then-not-is_full-clause-some : goal.returns-then-not-is_full-clause-some
returns-then-not-is_full-clause-some g c = (λ same. c.if-slot-first.true (sym same), c.is_full.ensures.out c.if-not-is_full.true)

pub returns-then-not-is_full-clause-none : goal.returns-then-not-is_full-clause-none
returns-then-not-is_full-clause-none g c = λ is. absurd (false≢true (sym is))

pub returns-clause-some : goal.returns-clause-some
returns-clause-some g c = tt

pub returns-clause-none : goal.returns-clause-none
returns-clause-none g c = λ _ slot below. c.loop-slot.invariant slot (omega (arith, below, c.loop-slot-test.false))
