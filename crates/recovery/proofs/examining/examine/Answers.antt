use Rattle.std.proofs.Common.{Ok, Option, subst, refl}
use Rattle.std.proofs.lemmas.Result.{err_from_is_err_and}
use Rattle.recovery.specs.declared.survey.Survey.{Survey}
use Rattle.recovery.specs.Making.{bank_view}
use Rattle.recovery.specs.Surveying.{Surveys}
use Rattle.recovery.proofs.ExaminedSet.{examined_refused_then, examined_some}
use Rattle.recovery.proofs.examining.examine.Goals as goal

pub returns-in_err-last-clause-examines : goal.returns-in_err-last-clause-examines
returns-in_err-last-clause-examines g c =
    let p = err_from_is_err_and c.from_residual-in_err-last.result c.from_residual-in_err-last.ensures.1 in
    let old = bank_view (g.B.Bank.panel c.args.bank.now) (g.B.Bank.history c.args.bank.now) in
    let mid = bank_view (g.B.Bank.panel c.survey_bank.new.bank) (g.B.Bank.history c.survey_bank.new.bank) in
    rw (p.1, p.2) (examined_refused_then (g.B.Bank.honest c.args.bank.now) (g.B.Bank.honest c.survey_bank.new.bank) c.args.id.now old mid
    (bank_view (g.B.Bank.panel c.last_numbers.new.bank) (g.B.Bank.history c.last_numbers.new.bank)) c.in-Some.survey _ c.survey_bank.ensures.honest.0
    (subst (λ (found : Option Survey). Surveys (g.B.Bank.honest c.args.bank.now) c.args.id.now old mid (Ok found)) c.in-Some.is c.in_ok-survey.ensures.surveyed)
    c.in_err-last.ensures.reads)

pub returns-clause-examines : goal.returns-clause-examines
returns-clause-examines g c =
    let old = bank_view (g.B.Bank.panel c.args.bank.now) (g.B.Bank.history c.args.bank.now) in
    let mid = bank_view (g.B.Bank.panel c.survey_bank.new.bank) (g.B.Bank.history c.survey_bank.new.bank) in
    examined_some (g.B.Bank.honest c.args.bank.now) (g.B.Bank.honest c.survey_bank.new.bank) c.args.id.now old mid
    (bank_view (g.B.Bank.panel c.last_numbers.new.bank) (g.B.Bank.history c.last_numbers.new.bank)) c.in-Some.survey
    record { table = c.in-Some.survey.table; slots = c.examined_slots-slots.result; last = c.in_ok-last.last; outlook = c.outlook_of-outlook.result }
    c.survey_bank.ensures.honest.0
    (subst (λ (found : Option Survey). Surveys (g.B.Bank.honest c.args.bank.now) c.args.id.now old mid (Ok found)) c.in-Some.is c.in_ok-survey.ensures.surveyed)
    refl c.examined_slots-slots.ensures c.outlook_of-outlook.ensures c.in_ok-last.ensures.reads
