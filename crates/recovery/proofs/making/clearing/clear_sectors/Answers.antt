use Rattle.std.proofs.Common.{suc, arith}
use Rattle.sector_model.proofs.Panels.{later_both}
use Rattle.recovery.proofs.MakingClearing.{cleared_both, zeros_grow}
use Rattle.std.proofs.lemmas.Result.{err_from_is_err_and}
use Rattle.recovery.proofs.making.clearing.clear_sectors.Goals as goal

pub loop-at-preserved : goal.loop-at-preserved
loop-at-preserved g c = record {
  panel = later_both _ _ _ c.loop-at.invariant.panel c.clear_sector.ensures.panel;
  honest = λ honest. c.clear_sector.ensures.honest.0 (c.loop-at.invariant.honest honest);
  still = λ honest. c.loop-at.invariant.still (c.clear_sector.ensures.honest.1 honest);
  cleared = λ honest slots below. cleared_both slots _ _ _ (c.loop-at.invariant.cleared honest slots below)
      (c.in_ok-clear_sector.ensures.cleared (c.loop-at.invariant.honest honest) slots below);
  zeros = λ honest. zeros_grow c.args.dev c.args.from c.loop-at.at _ _ (c.loop-at.invariant.zeros honest)
      (c.in_ok-clear_sector.ensures.cleared (c.loop-at.invariant.honest honest) (suc c.args.dev) (omega arith))
      (c.in_ok-clear_sector.ensures.zero (c.loop-at.invariant.honest honest));
}

pub clear_sector-requires-clause-device : goal.clear_sector-requires-clause-device
clear_sector-requires-clause-device g c = omega (arith, c.requires.device, c.loop-at.invariant.panel.devices)

pub clear_sector-requires-clause-within : goal.clear_sector-requires-clause-within
clear_sector-requires-clause-within g c = omega (arith, c.requires.within, c.loop-at-test.true, c.loop-at.invariant.panel.sectors c.args.dev)

pub returns-in_err-clear_sector-clause-panel : goal.returns-in_err-clear_sector-clause-panel
returns-in_err-clear_sector-clause-panel g c = later_both _ _ _ c.loop-at.invariant.panel c.clear_sector.ensures.panel

pub returns-in_err-clear_sector-clause-honest : goal.returns-in_err-clear_sector-clause-honest
returns-in_err-clear_sector-clause-honest g c = (
  λ honest. c.clear_sector.ensures.honest.0 (c.loop-at.invariant.honest honest),
  λ honest. c.loop-at.invariant.still (c.clear_sector.ensures.honest.1 honest),
)

pub returns-in_err-clear_sector-clause-cleared : goal.returns-in_err-clear_sector-clause-cleared
returns-in_err-clear_sector-clause-cleared g c = λ _ _ _. rw (err_from_is_err_and c.from_residual.result c.from_residual.ensures.1).1 tt

pub returns-in_err-clear_sector-clause-zeros : goal.returns-in_err-clear_sector-clause-zeros
returns-in_err-clear_sector-clause-zeros g c = λ _. rw (err_from_is_err_and c.from_residual.result c.from_residual.ensures.1).1 tt

pub returns-in_err-clear_sector-clause-err : goal.returns-in_err-clear_sector-clause-err
returns-in_err-clear_sector-clause-err g c =
    let p = err_from_is_err_and c.from_residual.result c.from_residual.ensures.1 in
    rw (p.1, p.2) c.in_err-clear_sector.ensures.err

pub returns-clause-panel : goal.returns-clause-panel
returns-clause-panel g c = c.loop-at.invariant.panel

pub returns-clause-honest : goal.returns-clause-honest
returns-clause-honest g c = (c.loop-at.invariant.honest, c.loop-at.invariant.still)

pub returns-clause-cleared : goal.returns-clause-cleared
returns-clause-cleared g c = c.loop-at.invariant.cleared

pub returns-clause-zeros : goal.returns-clause-zeros
returns-clause-zeros g c = λ honest at least below. c.loop-at.invariant.zeros honest at least (omega (arith, below, c.loop-at-test.false))

pub returns-clause-err : goal.returns-clause-err
returns-clause-err g c = tt
