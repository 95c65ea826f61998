use Rattle.std.proofs.Common.{refl, sym, ◌∙◌}
use Rattle.report.proofs.StepsLeft.{left_at_rest, left_while_rebuilding}
use Rattle.report.proofs.left.left_of.Goals as goal

pub returns-in-Some : goal.returns-in-Some
returns-in-Some c = c.steps_left.ensures ∙ sym (left_while_rebuilding c.args.status.now _ c.in-Some.ensures.some)

pub returns-in-None : goal.returns-in-None
returns-in-None c = sym (left_at_rest c.args.status.now (c.in-None.ensures.none refl))
