use Rattle.std.proofs.Common.{ℕ, ◌≢◌, arith, sym}
use Rattle.std.proofs.lemmas.Bool.{false≢true}
use Rattle.recovery.proofs.SurveyedOut.{below_one_more}
use Rattle.raidtool.specs.Needs.{IsWhole}
use Rattle.raidtool.proofs.replacing.are_others_whole.Goals.{else-other-slot-via-then-other-slot+else-not-is_whole, else-other-slot-via-else-other-slot}
use Rattle.raidtool.proofs.replacing.are_others_whole.Goals as goal

pub loop-other-init : goal.loop-other-init
loop-other-init g c = λ k below. absurd (omega (arith, below))

pub loop-other-preserved : goal.loop-other-preserved
loop-other-preserved g c =
    below_one_more (λ (k : ℕ). k ≢ c.args.slot → IsWhole c.args.table.now (g.B.Bank.panel c.args.bank.now) k) c.loop-other.other c.loop-other.invariant
    (elim c.else-other-slot.branch [
      | else-other-slot-via-then-other-slot+else-not-is_whole w ↦ λ apart. w.is_whole.ensures.whole w.if-not-is_whole.false
      | else-other-slot-via-else-other-slot w ↦ λ apart. absurd (apart w.if-other-slot.false)
    ])

pub is_whole-requires-clause-of_set : goal.is_whole-requires-clause-of_set
is_whole-requires-clause-of_set g c = c.loop-other-test.true

pub is_whole-requires-clause-of_bank : goal.is_whole-requires-clause-of_bank
is_whole-requires-clause-of_bank g c = c.requires.of_bank

pub returns-then-not-is_whole-clause-whole : goal.returns-then-not-is_whole-clause-whole
returns-then-not-is_whole-clause-whole g c = λ is. absurd (false≢true is)

pub returns-then-not-is_whole-clause-lost : goal.returns-then-not-is_whole-clause-lost
returns-then-not-is_whole-clause-lost g c = λ is all. c.is_whole.ensures.lost c.if-not-is_whole.true
    (all c.loop-other.other c.loop-other-test.true c.if-other-slot.true)

pub returns-clause-whole : goal.returns-clause-whole
returns-clause-whole g c = λ is other below. c.loop-other.invariant other (omega (arith, below, c.loop-other-test.false))

pub returns-clause-lost : goal.returns-clause-lost
returns-clause-lost g c = λ is. absurd (false≢true (sym is))
