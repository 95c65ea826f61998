use Rattle.std.proofs.Common.{◌∙◌, ap}
use Rattle.std.specs.Prelude.{Err}
use Rattle.std.proofs.lemmas.Result.{err_from_is_err_and}
use Rattle.rebuild.proofs.PreparingCalls.{journal_cleared, journal_copied, journal_uncleared, journal_unread}
use Rattle.rebuild.proofs.preparing.prepare_journal.Goals as goal

pub returns-in_err-last-clause-prepares : goal.returns-in_err-last-clause-prepares
returns-in_err-last-clause-prepares g c =
    let p = err_from_is_err_and c.from_residual.result c.from_residual.ensures.1 in
    journal_unread (g.B.Bank.honest c.args.bank.now) c.args.table.now c.journal_beside-source.result c.args.journal
    c.journal_beside-source.ensures (g.B.Bank.panel c.args.bank.now) (g.B.Bank.panel c.last_sealed.new.bank) _ _
    c.from_residual.result _ (p.1 ∙ ap (λ e. Err e) p.2) c.last_sealed.ensures.panel c.in_err-last.ensures.made
    c.in_err-last.ensures.err

pub returns-in_err-clear_front-clause-prepares : goal.returns-in_err-clear_front-clause-prepares
returns-in_err-clear_front-clause-prepares g c =
    let end = c.from_residual-in_err-clear_front in
    let p = err_from_is_err_and end.result end.ensures.1 in
    journal_uncleared (g.B.Bank.honest c.args.bank.now) c.args.table.now c.journal_beside-source.result c.args.journal
    c.journal_beside-source.ensures (g.B.Bank.panel c.args.bank.now) (g.B.Bank.panel c.last_sealed.new.bank)
    (g.B.Bank.panel c.clear_front.new.bank) _ _ _ end.result _ (p.1 ∙ ap (λ e. Err e) p.2)
    c.last_sealed.ensures.panel c.clear_front.ensures.panel c.in_ok-last.ensures.made
    (λ honest. c.in_err-clear_front.ensures.made (c.last_sealed.ensures.honest.0 honest))
    c.in_err-clear_front.ensures.err

pub returns-in-None-clause-prepares : goal.returns-in-None-clause-prepares
returns-in-None-clause-prepares g c =
    journal_cleared (g.B.Bank.honest c.args.bank.now) c.args.table.now c.journal_beside-source.result c.args.journal
    c.journal_beside-source.ensures (g.B.Bank.panel c.args.bank.now) (g.B.Bank.panel c.last_sealed.new.bank)
    (g.B.Bank.panel c.clear_front.new.bank) _ _ _ c.in_ok-last.last c.last_sealed.ensures.panel
    c.clear_front.ensures.panel c.in_ok-last.ensures.made
    (λ honest. c.in_ok-clear_front.ensures.made (c.last_sealed.ensures.honest.0 honest)) c.in_ok-last.ensures.last
    c.in-None.is c.in_ok-clear_front.ensures.up

pub returns-in-Some-clause-prepares : goal.returns-in-Some-clause-prepares
returns-in-Some-clause-prepares g c =
    journal_copied (g.B.Bank.honest c.args.bank.now) c.args.table.now c.journal_beside-source.result c.args.journal
    c.journal_beside-source.ensures (g.B.Bank.panel c.args.bank.now) (g.B.Bank.panel c.last_sealed.new.bank)
    (g.B.Bank.panel c.clear_front.new.bank) _ _ _ c.in_ok-last.last c.last_sealed.ensures.panel
    c.clear_front.ensures.panel c.in_ok-last.ensures.made
    (λ honest. c.in_ok-clear_front.ensures.made (c.last_sealed.ensures.honest.0 honest)) c.in_ok-last.ensures.last
    (g.B.Bank.honest c.clear_front.new.bank)
    (λ honest. c.clear_front.ensures.honest.0 (c.last_sealed.ensures.honest.0 honest))
    _ c.in-Some.is (g.B.Bank.panel c.copy_entry.new.bank) _ c.copy_entry.result c.copy_entry.ensures.copies
    c.copy_entry.ensures.up
