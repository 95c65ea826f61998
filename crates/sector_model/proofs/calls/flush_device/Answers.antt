use Rattle.std.proofs.Common.{rules, true, false, inl, inr, refl, arith}
use Rattle.sector_model.proofs.Panels.{later_same, later_call}
use Rattle.sector_model.proofs.calls.flush_device.Goals as goal

pub returns-then-now-ge-GREATEST_COUNT : goal.returns-then-now-ge-GREATEST_COUNT
returns-then-now-ge-GREATEST_COUNT g c = record {
  panel = later_same (g.B.Bank.panel c.args.bank.now);
  honest = (λ h. h, λ h. h);
  history = λ _. refl;
  up = tt;
  err = (omega (arith, c.now.ensures, c.if-now-ge-GREATEST_COUNT.true), inl refl);
}

pub returns-in-Ok-clause-panel : goal.returns-in-Ok-clause-panel
returns-in-Ok-clause-panel g c = later_call c.args.dev true _ _ c.in-Ok.ensures.panel

pub returns-in-Ok-clause-history : goal.returns-in-Ok-clause-history
returns-in-Ok-clause-history g c = search rules

pub returns-in-Ok-clause-up : goal.returns-in-Ok-clause-up
returns-in-Ok-clause-up g c = search rules

pub returns-in-Err : goal.returns-in-Err
returns-in-Err g c = record {
  panel = later_call c.args.dev false _ _ c.in-Err.ensures.panel;
  honest = c.in-Err.ensures.honest;
  history = c.in-Err.ensures.history;
  up = tt;
  err = (c.in-Err.ensures.panel.answer, inr refl);
}
