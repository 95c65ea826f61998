use Rattle.std.proofs.lemmas.Result.{err_from_is_err_and}
use Rattle.std.specs.Prelude.{Err, [], ◌∷◌}
use Rattle.std.proofs.Common.{refl, ◌∙◌, ap, arith}
use Rattle.sector_model.specs.Calls.{Write}
use Rattle.stripe_journal.specs.Body.{seal_place}
use Rattle.stripe_journal.specs.Spelling.{seal_sector}
use Rattle.array_io.proofs.Commits.PuttingRows.{at_ok}
use Rattle.array_io.proofs.Commits.PuttingSteps.{puts_flushed, puts_short}
use Rattle.array_io.proofs.array.put.put_seal.Goals as goal

pub returns-in_err-write_seal-clause-puts : goal.returns-in_err-write_seal-clause-puts
returns-in_err-write_seal-clause-puts g c =
    let p = err_from_is_err_and c.from_residual.result c.from_residual.ensures.1 in
    let seal = c.args.seal.now in
    puts_short (g.B.Bank.honest c.args.bank.now) c.args.journal (Write c.args.journal (seal_place seal.number) (seal_sector seal) ∷ [])
    (g.B.Bank.panel c.args.bank.now) (g.B.Bank.panel c.write_seal.new.bank)
    (g.B.Bank.history c.args.bank.now) (g.B.Bank.history c.write_seal.new.bank) c.from_residual.result c.in_err-write_seal.field-0.0 (p.1 ∙ ap (λ s. Err s) p.2)
    (refl, (refl, tt)) (omega arith, (tt, tt)) c.write_seal.ensures.panel c.in_err-write_seal.ensures.err c.in_err-write_seal.ensures.made

pub returns-clause-puts : goal.returns-clause-puts
returns-clause-puts g c =
    let seal = c.args.seal.now in
    puts_flushed (g.B.Bank.honest c.args.bank.now) c.args.journal (Write c.args.journal (seal_place seal.number) (seal_sector seal) ∷ [])
    (g.B.Bank.panel c.args.bank.now) (g.B.Bank.panel c.write_seal.new.bank)
    (g.B.Bank.panel c.flush_device.new.bank) (g.B.Bank.history c.args.bank.now) (g.B.Bank.history c.write_seal.new.bank)
    (g.B.Bank.history c.flush_device.new.bank) c.flush_device.result
    (refl, (refl, tt)) (omega arith, (tt, tt)) c.write_seal.ensures.panel c.flush_device.ensures.panel c.flush_device.ensures.err
    (at_ok c.flush_device.result c.flush_device.ensures.up)
    (λ honest. g.met.B.Bank.true_to _ (c.flush_device.ensures.honest.0 (c.write_seal.ensures.honest.0 honest))) c.in_ok-write_seal.ensures.made
    (λ honest. c.flush_device.ensures.history (c.write_seal.ensures.honest.0 honest))
