use Rattle.recovery.specs.Making.{bank_view}
use Rattle.recovery.proofs.SetIdsFound.{place_searched}
use Rattle.recovery.proofs.set_ids.least_in_place.Goals as goal

pub returns-clause-finds : goal.returns-clause-finds
returns-clause-finds g c =
    place_searched (g.B.Bank.honest c.args.bank.now) c.args.above.now c.args.best c.in_ok-further.further c.lesser.result
    (g.B.Bank.panel c.args.bank.now).devices c.args.slot c.args.place
    (bank_view (g.B.Bank.panel c.args.bank.now) (g.B.Bank.history c.args.bank.now))
    (bank_view (g.B.Bank.panel c.id_at.new.bank) (g.B.Bank.history c.id_at.new.bank)) c.in_ok-further.ensures.reads c.lesser.ensures
