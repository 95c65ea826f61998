use Rattle.std.proofs.Common.{Ok, Option, subst}
use Rattle.std.proofs.lemmas.Result.{err_from_is_err_and}
use Rattle.recovery.specs.declared.survey.Survey.{Survey}
use Rattle.recovery.specs.Making.{bank_view}
use Rattle.recovery.specs.Surveying.{Surveys}
use Rattle.recovery.proofs.Surveyed.{table_refused, table_told, table_untold}
use Rattle.recovery.proofs.find.chosen_table.Goals as goal

pub returns-in_err-survey-clause-found : goal.returns-in_err-survey-clause-found
returns-in_err-survey-clause-found g c =
    let p = err_from_is_err_and c.from_residual.result c.from_residual.ensures.1 in
    rw (p.1, p.2) (table_refused (g.B.Bank.honest c.args.bank.now) c.args.id
    (bank_view (g.B.Bank.panel c.args.bank.now) (g.B.Bank.history c.args.bank.now))
    (bank_view (g.B.Bank.panel c.survey_bank.new.bank) (g.B.Bank.history c.survey_bank.new.bank)) _ c.in_err-survey.ensures.surveyed)

pub returns-in-Some-clause-found : goal.returns-in-Some-clause-found
returns-in-Some-clause-found g c =
    let old = bank_view (g.B.Bank.panel c.args.bank.now) (g.B.Bank.history c.args.bank.now) in
    let new = bank_view (g.B.Bank.panel c.survey_bank.new.bank) (g.B.Bank.history c.survey_bank.new.bank) in
    table_told (g.B.Bank.honest c.args.bank.now) c.args.id old new c.in-Some.survey
    (λ honest. g.met.B.Bank.true_to c.args.bank.now honest)
    (λ honest. g.met.B.Bank.true_to c.survey_bank.new.bank (c.survey_bank.ensures.honest.0 honest))
    (subst (λ (found : Option Survey). Surveys (g.B.Bank.honest c.args.bank.now) c.args.id old new (Ok found))
    c.in-Some.is c.in_ok-survey.ensures.surveyed)

pub returns-in-None-clause-found : goal.returns-in-None-clause-found
returns-in-None-clause-found g c =
    let old = bank_view (g.B.Bank.panel c.args.bank.now) (g.B.Bank.history c.args.bank.now) in
    let new = bank_view (g.B.Bank.panel c.survey_bank.new.bank) (g.B.Bank.history c.survey_bank.new.bank) in
    table_untold (g.B.Bank.honest c.args.bank.now) c.args.id old new
    (subst (λ (found : Option Survey). Surveys (g.B.Bank.honest c.args.bank.now) c.args.id old new (Ok found))
    c.in-None.is c.in_ok-survey.ensures.surveyed)
