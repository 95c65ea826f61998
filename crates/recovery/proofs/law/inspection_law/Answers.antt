use Rattle.recovery.specs.Making.{bank_view}
use Rattle.recovery.proofs.Foresight.{foresees}
use Rattle.recovery.proofs.law.inspection_law.Goals as goal

pub returns : goal.returns
returns g c =
    foresees (g.B.Bank.honest c.args.before.now) (g.B.Bank.honest c.args.after.now)
    (bank_view (g.B.Bank.panel c.args.before.now) (g.B.Bank.history c.args.before.now))
    (bank_view (g.B.Bank.panel c.args.after.now) (g.B.Bank.history c.args.after.now)) (λ honest. g.met.B.Bank.true_to _ honest)
    (λ honest. g.met.B.Bank.true_to _ honest)
