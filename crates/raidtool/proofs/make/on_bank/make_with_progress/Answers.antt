use Rattle.std.proofs.Common.{subst}
use Rattle.std.proofs.lemmas.Result.{err_from_is_err_and}
use Rattle.array_io.specs.Believed.OpenArray.{array_view}
use Rattle.recovery.specs.SeenBank.{bank_seen}
use Rattle.raidtool.specs.Done.{MakesOn, RefusesMake}
use Rattle.raidtool.proofs.make.on_bank.make_with_progress.Goals as goal

pub returns-clause-made : goal.returns-clause-made
returns-clause-made g c =
    subst (λ (bank : g.row.B.Denot). MakesOn (g.B.Bank.honest bank) c.args.id c.args.geometry (bank_seen g.B.Bank bank)) c.over.ensures.bank
    (record { array = array_view c.in_ok-make_on.field-0; makes = c.in_ok-make_on.ensures.made })

pub returns-in_err-make_on-clause-cause : goal.returns-in_err-make_on-clause-cause
returns-in_err-make_on-clause-cause g c =
    let from = err_from_is_err_and c.from_residual.result c.from_residual.ensures.1 in
    rw (from.1, from.2)
    (subst (λ (bank : g.row.B.Denot). RefusesMake (g.B.Bank.honest bank) c.args.id c.args.geometry (bank_seen g.B.Bank bank) c.in_err-make_on.field-0.0)
    c.over.ensures.bank c.in_err-make_on.ensures.cause)
