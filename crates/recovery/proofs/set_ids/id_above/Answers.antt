use Rattle.std.proofs.Common.{Ok, arith, refl}
use Rattle.std.proofs.lemmas.Result.{err_from_is_err_and}
use Rattle.recovery.specs.Making.{bank_view}
use Rattle.recovery.specs.SetIds.{InSlot}
use Rattle.recovery.proofs.SetIdsFound.{all_searched, none_searched, slots_refused, slots_searched}
use Rattle.recovery.proofs.set_ids.id_above.Goals as goal

pub loop-slot-init : goal.loop-slot-init
loop-slot-init g c = record {
  honest = λ honest. honest;
  still = λ honest. honest;
  searched = none_searched (g.B.Bank.honest c.args.bank.now) c.args.above.now (g.B.Bank.panel c.args.bank.now).devices
      (bank_view (g.B.Bank.panel c.args.bank.now) (g.B.Bank.history c.args.bank.now));
}

pub least_in_slot-requires : goal.least_in_slot-requires
least_in_slot-requires g c = omega (arith, c.loop-slot-test.true, c.devices-slot-end.ensures.count, c.loop-slot.invariant.searched.later.devices)

pub returns-in_err-best-clause-finds : goal.returns-in_err-best-clause-finds
returns-in_err-best-clause-finds g c =
    let p = err_from_is_err_and c.from_residual.result c.from_residual.ensures.1 in
    rw (p.1, p.2) (slots_refused (g.B.Bank.honest c.args.bank.now) (g.B.Bank.honest c.loop-slot.bank) c.args.above.now c.loop-slot.best
    (g.B.Bank.panel c.args.bank.now).devices c.loop-slot.slot (InSlot (g.B.Bank.panel c.loop-slot.bank).devices c.loop-slot.slot)
    (bank_view (g.B.Bank.panel c.args.bank.now) (g.B.Bank.history c.args.bank.now))
    (bank_view (g.B.Bank.panel c.loop-slot.bank) (g.B.Bank.history c.loop-slot.bank))
    (bank_view (g.B.Bank.panel c.least_in_slot.new.bank) (g.B.Bank.history c.least_in_slot.new.bank)) _
    c.loop-slot.invariant.honest c.loop-slot.invariant.searched c.in_err-best.ensures.finds)

pub loop-slot-preserved : goal.loop-slot-preserved
loop-slot-preserved g c = record {
  honest = λ honest. c.least_in_slot.ensures.honest.0 (c.loop-slot.invariant.honest honest);
  still = λ honest. c.loop-slot.invariant.still (c.least_in_slot.ensures.honest.1 honest);
  searched = slots_searched (g.B.Bank.honest c.args.bank.now) (g.B.Bank.honest c.loop-slot.bank) c.args.above.now c.loop-slot.best
      (g.B.Bank.panel c.args.bank.now).devices c.loop-slot.slot
      (bank_view (g.B.Bank.panel c.args.bank.now) (g.B.Bank.history c.args.bank.now))
      (bank_view (g.B.Bank.panel c.loop-slot.bank) (g.B.Bank.history c.loop-slot.bank))
      (bank_view (g.B.Bank.panel c.least_in_slot.new.bank) (g.B.Bank.history c.least_in_slot.new.bank)) (Ok c.in_ok-best.best)
      c.loop-slot.invariant.honest (λ honest. g.met.B.Bank.true_to c.args.bank.now honest)
      (λ honest. g.met.B.Bank.true_to c.loop-slot.bank (c.loop-slot.invariant.honest honest))
      c.loop-slot.invariant.searched c.in_ok-best.ensures.finds refl;
}

pub returns-clause-finds : goal.returns-clause-finds
returns-clause-finds g c =
    all_searched (g.B.Bank.honest c.args.bank.now) c.args.above.now (g.B.Bank.panel c.args.bank.now).devices c.loop-slot.slot
    (bank_view (g.B.Bank.panel c.args.bank.now) (g.B.Bank.history c.args.bank.now))
    (bank_view (g.B.Bank.panel c.loop-slot.bank) (g.B.Bank.history c.loop-slot.bank)) (Ok c.loop-slot.best)
    (omega (arith, c.loop-slot-test.false, c.devices-slot-end.ensures.count)) c.loop-slot.invariant.searched
