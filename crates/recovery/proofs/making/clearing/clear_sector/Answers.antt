use Rattle.std.proofs.Common.{arith}
use Rattle.recovery.proofs.MakingClearing.{cleared_read, cleared_then, cleared_write, zero_read, zero_written}
use Rattle.recovery.proofs.making.clearing.clear_sector.Goals as goal

pub returns-then-is_zero-clause-cleared : goal.returns-then-is_zero-clause-cleared
returns-then-is_zero-clause-cleared g c = λ honest slots below. cleared_read slots c.args.dev _ _ (c.in_ok-read_sector.ensures.history honest)

pub returns-then-is_zero-clause-zero : goal.returns-then-is_zero-clause-zero
returns-then-is_zero-clause-zero g c = λ honest.
    zero_read c.args.dev c.args.at c.read_sector.new.to _ _ (c.in_ok-read_sector.ensures.history honest) (c.in_ok-read_sector.ensures.bytes honest)
    (c.is_zero.ensures.0 c.if-is_zero.true)

pub returns-clause-cleared : goal.returns-clause-cleared
returns-clause-cleared g c = λ honest slots below.
    let still = c.read_sector.ensures.honest.0 honest in
    cleared_then slots c.write_sector.result _ _ _ (cleared_read slots c.args.dev _ _ (c.in_ok-read_sector.ensures.history honest))
    (cleared_write slots c.args.dev c.args.at c.write_sector.result _ _ (c.write_sector.ensures.history still) below)

pub returns-clause-zero : goal.returns-clause-zero
returns-clause-zero g c = λ honest.
    let still = c.read_sector.ensures.honest.0 honest in
    zero_written (g.B.Bank.panel c.read_sector.new.bank) c.args.dev c.args.at c.write_sector.result _ _ (g.met.B.Bank.true_to c.read_sector.new.bank still)
    (omega (arith, c.requires.within, c.read_sector.ensures.panel.sectors c.args.dev)) (c.write_sector.ensures.history still)
