use Rattle.std.proofs.lemmas.Result.{err_from_is_err_and}
use Rattle.recovery.specs.Making.{bank_view}
use Rattle.recovery.proofs.ExaminedSet.{lasts_found, lasts_refused_then}
use Rattle.recovery.proofs.examining.last_numbers.Goals as goal

pub returns-in_err-upper-clause-reads : goal.returns-in_err-upper-clause-reads
returns-in_err-upper-clause-reads g c =
    let p = err_from_is_err_and c.from_residual-in_err-upper.result c.from_residual-in_err-upper.ensures.1 in
    rw (p.1, p.2) (lasts_refused_then (g.B.Bank.honest c.args.bank.now) (g.B.Bank.honest c.last_number.new.bank)
    (bank_view (g.B.Bank.panel c.args.bank.now) (g.B.Bank.history c.args.bank.now))
    (bank_view (g.B.Bank.panel c.last_number.new.bank) (g.B.Bank.history c.last_number.new.bank))
    (bank_view (g.B.Bank.panel c.last_number-2.new.bank) (g.B.Bank.history c.last_number-2.new.bank)) c.args.table.now _ _ c.in_ok-lower.lower _
    c.last_number.ensures.honest.0 c.in_ok-lower.ensures.reads c.in_err-upper.ensures.reads)

pub returns-clause-reads : goal.returns-clause-reads
returns-clause-reads g c =
    lasts_found (g.B.Bank.honest c.args.bank.now) (g.B.Bank.honest c.last_number.new.bank)
    (bank_view (g.B.Bank.panel c.args.bank.now) (g.B.Bank.history c.args.bank.now))
    (bank_view (g.B.Bank.panel c.last_number.new.bank) (g.B.Bank.history c.last_number.new.bank))
    (bank_view (g.B.Bank.panel c.last_number-2.new.bank) (g.B.Bank.history c.last_number-2.new.bank)) c.args.table.now c.in_ok-lower.lower c.in_ok-upper.upper
    c.last_number.ensures.honest.0 c.in_ok-lower.ensures.reads c.in_ok-upper.ensures.reads
