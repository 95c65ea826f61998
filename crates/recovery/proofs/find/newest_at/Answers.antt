use Rattle.std.proofs.lemmas.Result.{err_from_is_err_and}
use Rattle.recovery.specs.Finding.{FoundAt, NewestFound}
use Rattle.recovery.specs.Making.{bank_view}
use Rattle.recovery.proofs.Finding.{finds_both, finds_then_err, others_both, over_devices, places_step}
use Rattle.recovery.proofs.find.newest_at.Goals as goal

pub returns-in_err-odd-clause-found : goal.returns-in_err-odd-clause-found
returns-in_err-odd-clause-found g c =
    let p = err_from_is_err_and c.from_residual-in_err-odd.result c.from_residual-in_err-odd.ensures.1 in
    let devices = (g.B.Bank.panel c.args.bank.now).devices in
    let id = c.args.id.now in
    rw (p.1, p.2) (finds_then_err (g.B.Bank.honest c.args.bank.now) (g.B.Bank.honest c.counted_at.new.bank) id devices (FoundAt id devices c.args.slot 0)
    (FoundAt id devices c.args.slot 1) (NewestFound id devices c.args.slot)
    (bank_view (g.B.Bank.panel c.args.bank.now) (g.B.Bank.history c.args.bank.now))
    (bank_view (g.B.Bank.panel c.counted_at.new.bank) (g.B.Bank.history c.counted_at.new.bank))
    (bank_view (g.B.Bank.panel c.counted_at-2.new.bank) (g.B.Bank.history c.counted_at-2.new.bank))
    c.in_ok-even.even _ c.counted_at.ensures.honest.0 c.in_ok-even.ensures.found
    (over_devices (g.B.Bank.honest c.counted_at.new.bank) id (λ d. FoundAt id d c.args.slot 1) _ _ _
    (g.B.Bank.panel c.counted_at.new.bank).devices (g.B.Bank.panel c.args.bank.now).devices
    c.in_ok-even.ensures.found.later.devices c.in_err-odd.ensures.found))

pub returns-clause-found : goal.returns-clause-found
returns-clause-found g c =
    let devices = (g.B.Bank.panel c.args.bank.now).devices in
    let id = c.args.id.now in
    finds_both (g.B.Bank.honest c.args.bank.now) (g.B.Bank.honest c.counted_at.new.bank) id devices (FoundAt id devices c.args.slot 0)
    (FoundAt id devices c.args.slot 1) (NewestFound id devices c.args.slot)
    (bank_view (g.B.Bank.panel c.args.bank.now) (g.B.Bank.history c.args.bank.now))
    (bank_view (g.B.Bank.panel c.counted_at.new.bank) (g.B.Bank.history c.counted_at.new.bank))
    (bank_view (g.B.Bank.panel c.counted_at-2.new.bank) (g.B.Bank.history c.counted_at-2.new.bank))
    c.in_ok-even.even c.in_ok-odd.odd c.newer.result c.counted_at.ensures.honest.0
    (λ honest. g.met.B.Bank.true_to c.args.bank.now honest) (λ honest. g.met.B.Bank.true_to c.counted_at.new.bank (c.counted_at.ensures.honest.0 honest))
    (λ image. places_step id devices c.args.slot image c.in_ok-even.even c.in_ok-odd.odd)
    c.in_ok-even.ensures.found
    (over_devices (g.B.Bank.honest c.counted_at.new.bank) id (λ d. FoundAt id d c.args.slot 1) _ _ _
    (g.B.Bank.panel c.counted_at.new.bank).devices (g.B.Bank.panel c.args.bank.now).devices c.in_ok-even.ensures.found.later.devices c.in_ok-odd.ensures.found)
    c.newer.ensures

pub returns-in_err-odd-clause-others : goal.returns-in_err-odd-clause-others
returns-in_err-odd-clause-others g c = λ honest.
    others_both c.args.slot (g.B.Bank.history c.args.bank.now) (g.B.Bank.history c.counted_at.new.bank) (g.B.Bank.history c.counted_at-2.new.bank)
    (c.counted_at.ensures.others honest) (c.counted_at-2.ensures.others (c.counted_at.ensures.honest.0 honest))

pub returns-clause-others : goal.returns-clause-others
returns-clause-others g c = λ honest.
    others_both c.args.slot (g.B.Bank.history c.args.bank.now) (g.B.Bank.history c.counted_at.new.bank) (g.B.Bank.history c.counted_at-2.new.bank)
    (c.counted_at.ensures.others honest) (c.counted_at-2.ensures.others (c.counted_at.ensures.honest.0 honest))
