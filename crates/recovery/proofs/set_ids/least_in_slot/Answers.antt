use Rattle.std.proofs.Common.{refl}
use Rattle.recovery.specs.Making.{bank_view}
use Rattle.recovery.proofs.SetIdsFound.{slot_searched}
use Rattle.recovery.proofs.set_ids.least_in_slot.Goals as goal

pub returns-clause-finds : goal.returns-clause-finds
returns-clause-finds g c =
    slot_searched (g.B.Bank.honest c.args.bank.now) (g.B.Bank.honest c.least_in_place.new.bank) c.args.above.now c.args.best c.in_ok-best.best
    (g.B.Bank.panel c.args.bank.now).devices c.args.slot
    (bank_view (g.B.Bank.panel c.args.bank.now) (g.B.Bank.history c.args.bank.now))
    (bank_view (g.B.Bank.panel c.least_in_place.new.bank) (g.B.Bank.history c.least_in_place.new.bank))
    (bank_view (g.B.Bank.panel c.least_in_place-2.new.bank) (g.B.Bank.history c.least_in_place-2.new.bank)) c.least_in_place-2.result
    c.least_in_place.ensures.honest.0 (λ honest. g.met.B.Bank.true_to c.args.bank.now honest)
    (λ honest. g.met.B.Bank.true_to c.least_in_place.new.bank (c.least_in_place.ensures.honest.0 honest))
    c.in_ok-best.ensures.finds c.least_in_place-2.ensures.finds refl
