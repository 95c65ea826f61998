use Rattle.std.proofs.Common.{subst}
use Rattle.sector_model.specs.declared.sector.Stop.{Stop}
use Rattle.sector_model.specs.Bank.{IsCauseOf}
use Rattle.recovery.specs.Making.{bank_view}
use Rattle.recovery.proofs.ExaminedSet.{last_failed, last_read, last_worn}
use Rattle.recovery.proofs.Finding.{is_down_then}
use Rattle.recovery.proofs.JournalSeals.{two_reads}
use Rattle.recovery.proofs.examining.last_sealed_number.Goals as goal

pub returns-in-Ok-clause-reads : goal.returns-in-Ok-clause-reads
returns-in-Ok-clause-reads g c =
    last_read (g.B.Bank.honest c.args.bank.now) (bank_view (g.B.Bank.panel c.args.bank.now) (g.B.Bank.history c.args.bank.now))
    (bank_view (g.B.Bank.panel c.last_sealed.new.bank) (g.B.Bank.history c.last_sealed.new.bank)) c.args.table.now c.args.journal c.in-Ok.last
    c.number_in.result
    c.last_sealed.ensures.panel (λ fair. two_reads (c.last_sealed.ensures.made fair)) (λ fair. c.in-Ok.ensures.last fair) c.number_in.ensures

pub returns-in-Err-Down-clause-reads : goal.returns-in-Err-Down-clause-reads
returns-in-Err-Down-clause-reads g c =
    last_failed (g.B.Bank.honest c.args.bank.now) (bank_view (g.B.Bank.panel c.args.bank.now) (g.B.Bank.history c.args.bank.now))
    (bank_view (g.B.Bank.panel c.last_sealed.new.bank) (g.B.Bank.history c.last_sealed.new.bank)) c.args.table.now c.args.journal
    c.last_sealed.ensures.panel (λ fair. two_reads (c.last_sealed.ensures.made fair))
    (is_down_then (g.B.Bank.panel c.last_sealed.new.bank) c.args.journal _ _ c.in-Err-Down.field-0-is c.in-Err-Down.ensures.err.1 c.in-Err-Down.ensures.err.0)

pub returns-in-Err-Worn-clause-reads : goal.returns-in-Err-Worn-clause-reads
returns-in-Err-Worn-clause-reads g c =
    last_worn (g.B.Bank.honest c.args.bank.now) (bank_view (g.B.Bank.panel c.args.bank.now) (g.B.Bank.history c.args.bank.now))
    (bank_view (g.B.Bank.panel c.last_sealed.new.bank) (g.B.Bank.history c.last_sealed.new.bank)) c.args.table.now c.args.journal
    c.last_sealed.ensures.panel (λ fair. two_reads (c.last_sealed.ensures.made fair))
    (subst (λ (why : Stop). IsCauseOf (g.B.Bank.panel c.last_sealed.new.bank) why) c.in-Err-Worn.field-0-is c.in-Err-Worn.ensures.err.0)
