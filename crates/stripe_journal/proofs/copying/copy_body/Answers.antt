use Rattle.std.proofs.Common.{rules}
use Rattle.std.proofs.lemmas.Result.{err_from_is_err_and}
use Rattle.sector_model.proofs.Panels.{later_both}
use Rattle.stripe_journal.proofs.Copies.{copy_then, copy_unread, copy_unwritten, one_of, other_of, seen_copied}
use Rattle.stripe_journal.proofs.copying.copy_body.Goals as goal

pub returns-in_err-read_sector-clause-made : goal.returns-in_err-read_sector-clause-made
returns-in_err-read_sector-clause-made g c = λ honest.
    let p = err_from_is_err_and c.from_residual.result c.from_residual.ensures.1 in
    let still = c.loop-i.invariant.honest honest in
    rw p.1 (c.loop-i.invariant.made honest _ _ (copy_unread _ _ _ _ _ _ _ c.loop-i-test.true (c.in_err-read_sector.ensures.history still)))

pub returns-in_err-write_sector-clause-made : goal.returns-in_err-write_sector-clause-made
returns-in_err-write_sector-clause-made g c = λ honest.
    let p = err_from_is_err_and c.from_residual-in_err-write_sector.result c.from_residual-in_err-write_sector.ensures.1 in
    let still = c.loop-i.invariant.honest honest in
    let then = c.read_sector.ensures.honest.0 still in
    rw p.1 (c.loop-i.invariant.made honest _ _
    (copy_unwritten _ _ _ _ _ _ _ _ (g.B.Bank.panel c.read_sector.new.bank) _ c.loop-i-test.true (c.loop-i.invariant.same honest)
    (c.in_ok-read_sector.ensures.history still) c.in_ok-read_sector.ensures.up (g.met.B.Bank.true_to _ then) (c.in_ok-read_sector.ensures.bytes still)
    (c.in_err-write_sector.ensures.history then)))

pub loop-i-preserved : goal.loop-i-preserved
loop-i-preserved g c = record {
  panel = later_both _ _ _ c.loop-i.invariant.panel (later_both _ _ _ c.read_sector.ensures.panel c.write_sector.ensures.panel);
  honest = λ honest. c.write_sector.ensures.honest.0 (c.read_sector.ensures.honest.0 (c.loop-i.invariant.honest honest));
  still = λ honest. c.loop-i.invariant.still (c.read_sector.ensures.honest.1 (c.write_sector.ensures.honest.1 honest));
  same = λ honest.
      let still = c.loop-i.invariant.honest honest in
      let then = c.read_sector.ensures.honest.0 still in
      seen_copied _ _ _ _ _ tt c.requires.apart (c.in_ok-read_sector.ensures.history still) (c.in_ok-write_sector.ensures.history then)
      (c.loop-i.invariant.same honest);
  made = λ honest answered new rest.
      let still = c.loop-i.invariant.honest honest in
      let then = c.read_sector.ensures.honest.0 still in
      c.loop-i.invariant.made honest answered new
      (copy_then _ _ _ _ _ _ _ tt (g.B.Bank.panel c.read_sector.new.bank) (g.B.Bank.panel c.write_sector.new.bank) c.loop-i-test.true
      (c.loop-i.invariant.same honest)
      (c.in_ok-read_sector.ensures.history still) c.in_ok-read_sector.ensures.up (g.met.B.Bank.true_to _ then) (c.in_ok-read_sector.ensures.bytes still)
      (c.in_ok-write_sector.ensures.history then) c.in_ok-write_sector.ensures.up (g.met.B.Bank.true_to _ (c.write_sector.ensures.honest.0 then))
      rest);
}

pub returns-in_err-read_sector-clause-panel : goal.returns-in_err-read_sector-clause-panel
returns-in_err-read_sector-clause-panel g c = later_both _ _ _ c.loop-i.invariant.panel c.read_sector.ensures.panel

pub returns-in_err-read_sector-clause-honest : goal.returns-in_err-read_sector-clause-honest
returns-in_err-read_sector-clause-honest g c = (
  λ honest. c.read_sector.ensures.honest.0 (c.loop-i.invariant.honest honest),
  λ honest. c.loop-i.invariant.still (c.read_sector.ensures.honest.1 honest),
)

pub returns-in_err-write_sector-clause-panel : goal.returns-in_err-write_sector-clause-panel
returns-in_err-write_sector-clause-panel g c = later_both _ _ _ c.loop-i.invariant.panel
    (later_both _ _ _ c.read_sector.ensures.panel c.write_sector.ensures.panel)

pub returns-in_err-write_sector-clause-honest : goal.returns-in_err-write_sector-clause-honest
returns-in_err-write_sector-clause-honest g c = (
  λ honest. c.write_sector.ensures.honest.0 (c.read_sector.ensures.honest.0 (c.loop-i.invariant.honest honest)),
  λ honest. c.loop-i.invariant.still (c.read_sector.ensures.honest.1 (c.write_sector.ensures.honest.1 honest)),
)

pub returns-in_err-read_sector-clause-err : goal.returns-in_err-read_sector-clause-err
returns-in_err-read_sector-clause-err g c =
    let p = err_from_is_err_and c.from_residual.result c.from_residual.ensures.1 in
    rw (p.1, p.2) (c.in_err-read_sector.ensures.err.0, one_of c.in_err-read_sector.ensures.err.1)

pub returns-in_err-write_sector-clause-err : goal.returns-in_err-write_sector-clause-err
returns-in_err-write_sector-clause-err g c =
    let p = err_from_is_err_and c.from_residual-in_err-write_sector.result c.from_residual-in_err-write_sector.ensures.1 in
    rw (p.1, p.2) (c.in_err-write_sector.ensures.err.0, other_of c.in_err-write_sector.ensures.err.1)

pub loop-i-init : goal.loop-i-init
loop-i-init g c = search rules
