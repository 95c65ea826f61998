use denote.Enum.Bare.{same_true, sameb}
use Rattle.std.proofs.Common.{rules, ◌≡◌, Bool, true, false, refl, sym, ◌∙◌}
use Rattle.std.specs.Prelude.{not}
use Rattle.std.proofs.lemmas.Bool.{false≢true}
use Rattle.superblock.specs.contracts.state.State.{the_type}
use Rattle.superblock.specs.declared.state.State.{State}
use Rattle.superblock.specs.declared.state.State.TheVariants.{InSync}
use Rattle.superblock.specs.Tables.{state_at}
use Rattle.array_io.proofs.Laws.Fresh.{in_sync_not_missing}
use Rattle.array_io.proofs.Calls.Trusting.{unlike}
use Rattle.recovery.specs.Making.{bank_view}
use Rattle.recovery.proofs.SurveyedOut.{not_full_dead, not_full_state}
use Rattle.recovery.proofs.survey.is_full.Goals as goal

unset : (b : Bool) → not b ≡ true → b ≡ false
unset true is = absurd (false≢true is)
unset false is = refl

set : (b : Bool) → not b ≡ false → b ≡ true
set true is = refl
set false is = absurd (false≢true (sym is))

pub is_dead-requires-clause-of_set : goal.is_dead-requires-clause-of_set
is_dead-requires-clause-of_set g c = c.requires.of_set

pub is_dead-requires-clause-surveyed : goal.is_dead-requires-clause-surveyed
is_dead-requires-clause-surveyed g c = c.requires.surveyed

pub returns-then-eq-clause-full : goal.returns-then-eq-clause-full
returns-then-eq-clause-full g c = λ live.
    let here : state_at c.args.survey.now.table.states c.args.slot ≡ InSync = same_true the_type (search rules) _ _ (sym c.if-eq.ensures) in
    (here, c.is_dead.ensures.there (unset c.is_dead.result live) (λ missing. in_sync_not_missing (sym here ∙ missing)))

pub returns-then-eq-clause-out : goal.returns-then-eq-clause-out
returns-then-eq-clause-out g c = λ dead.
    not_full_dead (g.B.Bank.honest c.args.bank.now) (bank_view (g.B.Bank.panel c.args.bank.now) (g.B.Bank.history c.args.bank.now)) c.args.survey.now.table
    c.args.slot
    c.requires.of_set (c.is_dead.ensures.dead (set c.is_dead.result dead))

pub returns-else-eq-clause-full : goal.returns-else-eq-clause-full
returns-else-eq-clause-full g c = λ same. absurd (false≢true (sym c.if-eq.false ∙ same))

pub returns-else-eq-clause-out : goal.returns-else-eq-clause-out
returns-else-eq-clause-out g c = λ other.
    not_full_state (g.B.Bank.honest c.args.bank.now) (bank_view (g.B.Bank.panel c.args.bank.now) (g.B.Bank.history c.args.bank.now)) c.args.survey.now.table
    c.args.slot
    c.requires.of_set (unlike (λ (state : State). sameb the_type state InSync) (state_at c.args.survey.now.table.states c.args.slot) InSync
    (sym c.eq.ensures ∙ other) refl)
