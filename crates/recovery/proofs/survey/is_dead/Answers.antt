use Rattle.std.proofs.Common.{arith, sym}
use Rattle.std.specs.Prelude.{slice_index_or}
use Rattle.std.proofs.lemmas.Bool.{false≢true}
use Rattle.recovery.specs.Making.{bank_view}
use Rattle.recovery.proofs.SurveyedOut.{dead_down, dead_other, dead_short, is_there_up, least_fits, tested_apart, tested_same}
use Rattle.recovery.proofs.survey.is_dead.Goals as goal

pub presence_of-requires : goal.presence_of-requires
presence_of-requires g c = omega (arith, c.requires.of_set, c.requires.surveyed.of_bank)

pub returns-in-Absent-clause-dead : goal.returns-in-Absent-clause-dead
returns-in-Absent-clause-dead g c = λ dead.
    dead_down (g.B.Bank.honest c.args.bank.now) (bank_view (g.B.Bank.panel c.args.bank.now) (g.B.Bank.history c.args.bank.now)) c.args.survey.now.table
    c.args.slot
    (λ honest. g.met.B.Bank.true_to c.args.bank.now honest) c.in-Absent.ensures

pub returns-in-Absent-clause-there : goal.returns-in-Absent-clause-there
returns-in-Absent-clause-there g c = λ live. absurd (false≢true (sym live))

pub returns-in-TooShort-clause-dead : goal.returns-in-TooShort-clause-dead
returns-in-TooShort-clause-dead g c = λ dead.
    dead_short (g.B.Bank.honest c.args.bank.now) (bank_view (g.B.Bank.panel c.args.bank.now) (g.B.Bank.history c.args.bank.now)) c.args.survey.now.table
    c.args.slot
    (λ honest. g.met.B.Bank.true_to c.args.bank.now honest) c.in-TooShort.ensures.0 c.in-TooShort.ensures.1
    (least_fits c.args.survey.now.table.geometry c.args.slot)

pub returns-in-TooShort-clause-there : goal.returns-in-TooShort-clause-there
returns-in-TooShort-clause-there g c = λ live. absurd (false≢true (sym live))

pub returns-in-There-clause-dead : goal.returns-in-There-clause-dead
returns-in-There-clause-dead g c = λ dead.
    dead_other (g.B.Bank.honest c.args.bank.now) (bank_view (g.B.Bank.panel c.args.bank.now) (g.B.Bank.history c.args.bank.now)) c.args.survey.now c.args.slot
    c.requires.of_set c.requires.surveyed
    (tested_apart (slice_index_or c.args.survey.now.own c.args.slot 0) (slice_index_or c.args.survey.now.table.incarnations c.args.slot 0) dead)

pub returns-in-There-clause-there : goal.returns-in-There-clause-there
returns-in-There-clause-there g c = λ live.
    is_there_up (g.B.Bank.honest c.args.bank.now) (bank_view (g.B.Bank.panel c.args.bank.now) (g.B.Bank.history c.args.bank.now)) c.args.survey.now c.args.slot
    (λ honest. g.met.B.Bank.true_to c.args.bank.now honest) c.requires.of_set c.requires.surveyed c.in-There.ensures.0 c.in-There.ensures.1
    (tested_same (slice_index_or c.args.survey.now.own c.args.slot 0) (slice_index_or c.args.survey.now.table.incarnations c.args.slot 0) live)
