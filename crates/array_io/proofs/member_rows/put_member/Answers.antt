use Rattle.std.proofs.Common.{◌∙◌, ap, arith}
use Rattle.std.specs.Prelude.{Err}
use Rattle.std.proofs.lemmas.Result.{err_from_is_err_and}
use Rattle.array_io.specs.Steps.PuttingSteps.{rows_held}
use Rattle.array_io.proofs.Commits.PuttingRows.{at_ok, member_flushed, member_short, member_untouched}
use Rattle.array_io.proofs.member_rows.put_member.Goals as goal

pub returns-in_err-write_rows-clause-puts : goal.returns-in_err-write_rows-clause-puts
returns-in_err-write_rows-clause-puts g c =
    let entry = c.args.entry.now in
    let p = err_from_is_err_and c.from_residual.result c.from_residual.ensures.1 in
    member_short c.args.table.now (rows_held entry) c.args.member (g.B.Bank.panel c.args.bank.now) (g.B.Bank.panel c.write_rows.new.bank)
    c.from_residual.result c.in_err-write_rows.field-0.0 (p.1 ∙ ap (λ s. Err s) p.2) c.requires.on c.write_rows.ensures.panel c.in_err-write_rows.ensures.err
    c.in_err-write_rows.ensures.written

pub returns-then-not-has_rows_on-clause-puts : goal.returns-then-not-has_rows_on-clause-puts
returns-then-not-has_rows_on-clause-puts g c =
    member_untouched c.args.table.now (rows_held c.args.entry.now) c.args.member (g.B.Bank.panel c.args.bank.now) (g.B.Bank.history c.args.bank.now)
    (c.has_rows_on.ensures.none c.if-not-has_rows_on.true)

pub returns-clause-puts : goal.returns-clause-puts
returns-clause-puts g c =
    let entry = c.args.entry.now in
    member_flushed c.args.table.now (rows_held entry) c.args.member (g.B.Bank.panel c.args.bank.now) (g.B.Bank.panel c.write_rows.new.bank)
    (g.B.Bank.panel c.flush_device.new.bank) c.flush_device.result c.requires.on c.requires.can c.write_rows.ensures.panel c.flush_device.ensures.panel
    c.flush_device.ensures.err
    (at_ok c.flush_device.result c.flush_device.ensures.up) (λ honest. g.met.B.Bank.true_to _ honest)
    (λ honest. g.met.B.Bank.true_to _ (c.flush_device.ensures.honest.0 (c.write_rows.ensures.honest.0 honest))) c.in_ok-write_rows.ensures.written
    (λ honest. c.flush_device.ensures.history (c.write_rows.ensures.honest.0 honest))

pub write_rows-requires-clause-can : goal.write_rows-requires-clause-can
write_rows-requires-clause-can g c = c.requires.can

pub write_rows-requires-clause-on : goal.write_rows-requires-clause-on
write_rows-requires-clause-on g c = c.requires.on

pub returns-in_err-write_rows-clause-honest : goal.returns-in_err-write_rows-clause-honest
returns-in_err-write_rows-clause-honest g c = c.write_rows.ensures.honest

pub flush_device-requires : goal.flush_device-requires
flush_device-requires g c = omega (arith, c.write_rows.ensures.panel.devices, c.requires.can.of_bank, c.requires.on.of_members)

pub returns-clause-honest : goal.returns-clause-honest
returns-clause-honest g c = (
  λ honest. c.flush_device.ensures.honest.0 (c.write_rows.ensures.honest.0 honest),
  λ honest. c.write_rows.ensures.honest.1 (c.flush_device.ensures.honest.1 honest),
)
