use Rattle.std.proofs.Common.{List, subst, sym, ℕ}
use Rattle.device_files.specs.Faults.{IsToldLine}
use Rattle.device_files.proofs.ToldLines.{told_line}
use Rattle.raidtool.specs.Texts.{bad_shape_line}
use Rattle.raidtool.proofs.telling.tell_fault.Goals as goal

pub returns-in-BadShape : goal.returns-in-BadShape
returns-in-BadShape g c = λ line is.
    let its = rw c.in-BadShape.is at is in
    let wrote = c.write_text-in-BadShape in
    subst (λ (l : List ℕ). IsToldLine l (g.E.Write.contents c.args.err.now) (g.E.Write.contents wrote.new.writer)) (sym its)
    (told_line wrote.result bad_shape_line _ _ wrote.ensures.ok wrote.ensures.part)
