use Rattle.std.proofs.Common.{true, false, inl, inr, refl, arith}
use Rattle.sector_model.proofs.Panels.{later_same, later_call}
use Rattle.sector_model.proofs.calls.read_sector.Goals as goal

pub returns-then-now-ge-GREATEST_COUNT : goal.returns-then-now-ge-GREATEST_COUNT
returns-then-now-ge-GREATEST_COUNT g c = record {
  panel = later_same (g.B.Bank.panel c.args.bank.now);
  honest = (λ h. h, λ h. h);
  history = λ _. refl;
  bytes = λ _. tt;
  up = tt;
  err = (omega (arith, c.now.ensures, c.if-now-ge-GREATEST_COUNT.true), inl refl);
}

pub returns-in-Ok : goal.returns-in-Ok
returns-in-Ok g c = record {
  panel = later_call c.args.dev true _ _ c.in-Ok.ensures.panel;
  honest = c.in-Ok.ensures.honest;
  history = c.in-Ok.ensures.history;
  bytes = c.in-Ok.ensures.bytes;
  up = c.in-Ok.ensures.panel.answer;
  err = tt;
}

pub returns-in-Err : goal.returns-in-Err
returns-in-Err g c = record {
  panel = later_call c.args.dev false _ _ c.in-Err.ensures.panel;
  honest = c.in-Err.ensures.honest;
  history = c.in-Err.ensures.history;
  bytes = λ _. tt;
  up = tt;
  err = (c.in-Err.ensures.panel.answer, inr refl);
}
