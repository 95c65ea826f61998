use Rattle.recovery.specs.Making.{bank_view}
use Rattle.recovery.proofs.ExaminedSlots.{reason_stands}
use Rattle.recovery.proofs.examining.why_gone.Goals as goal

pub returns-in-There : goal.returns-in-There
returns-in-There g c =
    reason_stands (g.B.Bank.honest c.args.bank.now) (bank_view (g.B.Bank.panel c.args.bank.now) (g.B.Bank.history c.args.bank.now)) c.args.survey.now
    c.args.slot
    c.reason_of.result (λ honest. g.met.B.Bank.true_to c.args.bank.now honest) c.requires.surveyed c.requires.gone c.in-There.ensures c.reason_of.ensures
