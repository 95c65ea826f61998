use Rattle.std.proofs.Common.{sym, ◌∙◌}
use Rattle.std.proofs.lemmas.Result.{err_from_is_err_and}
use Rattle.recovery.specs.Finding.{NewestFound}
use Rattle.recovery.specs.Making.{bank_view}
use Rattle.recovery.proofs.Surveyed.{left_down, left_err, left_up}
use Rattle.recovery.proofs.survey.newest_left.Goals as goal

pub returns-in_err-newest-clause-found : goal.returns-in_err-newest-clause-found
returns-in_err-newest-clause-found g c =
    let p = err_from_is_err_and c.from_residual.result c.from_residual.ensures.1 in
    let devices = (g.B.Bank.panel c.args.bank.now).devices in
    rw (p.1, p.2) (left_err (g.B.Bank.honest c.args.bank.now) c.args.id.now devices c.args.slot (NewestFound c.args.id.now devices c.args.slot)
    (bank_view (g.B.Bank.panel c.args.bank.now) (g.B.Bank.history c.args.bank.now))
    (bank_view (g.B.Bank.panel c.newest_at.new.bank) (g.B.Bank.history c.newest_at.new.bank))
    _ c.in_err-newest.ensures.found c.newest_at.ensures.others)

pub returns-then-is_down-clause-found : goal.returns-then-is_down-clause-found
returns-then-is_down-clause-found g c =
    let devices = (g.B.Bank.panel c.args.bank.now).devices in
    left_down (g.B.Bank.honest c.args.bank.now) c.args.id.now devices c.args.slot (NewestFound c.args.id.now devices c.args.slot)
    (bank_view (g.B.Bank.panel c.args.bank.now) (g.B.Bank.history c.args.bank.now))
    (bank_view (g.B.Bank.panel c.newest_at.new.bank) (g.B.Bank.history c.newest_at.new.bank))
    c.in_ok-newest.newest (λ honest. g.met.B.Bank.true_to c.newest_at.new.bank (c.newest_at.ensures.honest.0 honest))
    c.in_ok-newest.ensures.found c.newest_at.ensures.others (sym c.is_down.ensures ∙ c.if-is_down.true)

pub returns-clause-found : goal.returns-clause-found
returns-clause-found g c =
    left_up (g.B.Bank.honest c.args.bank.now) c.args.id.now (g.B.Bank.panel c.args.bank.now).devices c.args.slot
    (bank_view (g.B.Bank.panel c.args.bank.now) (g.B.Bank.history c.args.bank.now))
    (bank_view (g.B.Bank.panel c.newest_at.new.bank) (g.B.Bank.history c.newest_at.new.bank))
    c.in_ok-newest.newest (λ honest. g.met.B.Bank.true_to c.args.bank.now honest)
    (λ honest. g.met.B.Bank.true_to c.newest_at.new.bank (c.newest_at.ensures.honest.0 honest))
    c.in_ok-newest.ensures.found c.newest_at.ensures.others (sym c.is_down.ensures ∙ c.if-is_down.false)
