use Rattle.std.proofs.lemmas.Result.{err_from_is_err_and}
use Rattle.std.specs.Prelude.{Err}
use Rattle.std.proofs.Common.{◌∙◌, ap, arith}
use Rattle.sector_model.specs.Calls.{writes_from}
use Rattle.stripe_journal.specs.Entries.{body_of, half_start}
use Rattle.stripe_journal.proofs.Halves.{half_least}
use Rattle.array_io.proofs.Calls.FrontCalls.{writes_beyond}
use Rattle.array_io.proofs.Commits.PuttingRows.{at_ok}
use Rattle.array_io.proofs.Commits.PuttingSteps.{all_writes, puts_flushed, puts_short}
use Rattle.array_io.proofs.array.put.put_body.Goals as goal

pub returns-in_err-write_body-clause-puts : goal.returns-in_err-write_body-clause-puts
returns-in_err-write_body-clause-puts g c =
    let p = err_from_is_err_and c.from_residual.result c.from_residual.ensures.1 in
    let start = half_start c.args.geometry.now.format c.args.seal.now.number in
    let body = body_of c.args.geometry.now.members c.args.entry.now in
    puts_short (g.B.Bank.honest c.args.bank.now) c.args.journal (writes_from c.args.journal start body) (g.B.Bank.panel c.args.bank.now)
    (g.B.Bank.panel c.write_body.new.bank)
    (g.B.Bank.history c.args.bank.now) (g.B.Bank.history c.write_body.new.bank) c.from_residual.result c.in_err-write_body.field-0.0 (p.1 ∙ ap (λ s. Err s) p.2)
    (all_writes c.args.journal start body)
    (writes_beyond c.args.journal start body (omega (arith, half_least c.args.geometry.now.format c.args.seal.now.number)))
    c.write_body.ensures.panel c.in_err-write_body.ensures.err
    c.in_err-write_body.ensures.made

pub returns-clause-puts : goal.returns-clause-puts
returns-clause-puts g c =
    let start = half_start c.args.geometry.now.format c.args.seal.now.number in
    let body = body_of c.args.geometry.now.members c.args.entry.now in
    puts_flushed (g.B.Bank.honest c.args.bank.now) c.args.journal (writes_from c.args.journal start body) (g.B.Bank.panel c.args.bank.now)
    (g.B.Bank.panel c.write_body.new.bank)
    (g.B.Bank.panel c.flush_device.new.bank) (g.B.Bank.history c.args.bank.now) (g.B.Bank.history c.write_body.new.bank)
    (g.B.Bank.history c.flush_device.new.bank) c.flush_device.result
    (all_writes c.args.journal start body)
    (writes_beyond c.args.journal start body (omega (arith, half_least c.args.geometry.now.format c.args.seal.now.number)))
    c.write_body.ensures.panel c.flush_device.ensures.panel
    c.flush_device.ensures.err (at_ok c.flush_device.result c.flush_device.ensures.up)
    (λ honest. g.met.B.Bank.true_to _ (c.flush_device.ensures.honest.0 (c.write_body.ensures.honest.0 honest))) c.in_ok-write_body.ensures.made
    (λ honest. c.flush_device.ensures.history (c.write_body.ensures.honest.0 honest))
