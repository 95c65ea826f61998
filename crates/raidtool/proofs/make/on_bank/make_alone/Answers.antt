use Rattle.std.proofs.Common.{inl}
use Rattle.std.proofs.lemmas.Result.{err_from_is_err_and}
use Rattle.recovery.specs.Making.{bank_view}
use Rattle.raidtool.proofs.MadeAlone.{made_alone, stopped_make}
use Rattle.raidtool.proofs.make.on_bank.make_alone.Goals as goal

pub returns-clause-made : goal.returns-clause-made
returns-clause-made g c =
    made_alone (g.B.Bank.honest c.args.bank) (g.B.Bank.honest c.refuse_other.new.bank) c.refuse_other.ensures.honest c.args.id c.args.geometry
    (bank_view (g.B.Bank.panel c.args.bank) (g.B.Bank.history c.args.bank))
    (bank_view (g.B.Bank.panel c.refuse_other.new.bank) (g.B.Bank.history c.refuse_other.new.bank))
    (λ fair. g.met.B.Bank.true_to c.args.bank fair) (λ fair. g.met.B.Bank.true_to c.refuse_other.new.bank (c.refuse_other.ensures.honest fair))
    c.in_ok-refuse_other.ensures.none c.in_ok-make_with_progress.ensures.made

pub returns-in_err-refuse_other-clause-cause : goal.returns-in_err-refuse_other-clause-cause
returns-in_err-refuse_other-clause-cause g c =
    let from = err_from_is_err_and c.from_residual.result c.from_residual.ensures.1 in
    rw (from.1, from.2) (inl (_, c.in_err-refuse_other.ensures.fault))

pub returns-in_err-make_with_progress-clause-cause : goal.returns-in_err-make_with_progress-clause-cause
returns-in_err-make_with_progress-clause-cause g c =
    let from = err_from_is_err_and c.from_residual-in_err-make_with_progress.result c.from_residual-in_err-make_with_progress.ensures.1 in
    rw (from.1, from.2) (stopped_make (g.B.Bank.honest c.args.bank) (g.B.Bank.honest c.refuse_other.new.bank) c.refuse_other.ensures.honest c.args.id
    c.args.geometry
    (bank_view (g.B.Bank.panel c.args.bank) (g.B.Bank.history c.args.bank))
    (bank_view (g.B.Bank.panel c.refuse_other.new.bank) (g.B.Bank.history c.refuse_other.new.bank)) c.in_err-make_with_progress.field-0.0
    c.in_ok-refuse_other.ensures.none c.in_err-make_with_progress.ensures.cause)
