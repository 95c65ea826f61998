use Rattle.recovery.specs.Making.{bank_view}
use Rattle.recovery.proofs.Foreseen.{assembles_as_foreseen}
use Rattle.recovery.proofs.law.outlook_law.Goals as goal

pub returns : goal.returns
returns g c = assembles_as_foreseen (g.B.Bank.honest c.args.bank.now) (bank_view (g.B.Bank.panel c.args.bank.now) (g.B.Bank.history c.args.bank.now))
