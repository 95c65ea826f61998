use Rattle.std.proofs.Common.{refl, arith}
use Rattle.command_line.proofs.SizeTexts.{one_amount}
use Rattle.command_line.proofs.sizes.read_extent.Goals as goal
use Rattle.command_line.proofs.sizes.read_extent.Goals.{in_default-via-in-Some+else-blocks-from, in_default-via-in_default}

pub returns-in_default-clause-err : goal.returns-in_default-clause-err
returns-in_default-clause-err c = (
  refl,
  elim c.in_default.branch [
    | in_default-via-in-Some+else-blocks-from w ↦ λ n h.
        let said = w.in-Some.ensures.said in
        let same = one_amount c.args.text.now w.in-Some.blocks n said.0 h.0 said.1 (omega (arith, h.1)) in
        omega (arith, h.1, same, w.if-blocks-from.false, w.from.ensures)
    | in_default-via-in_default w ↦ λ n h. w.in_default.ensures.unsaid refl n h.0 (omega (arith, h.1))
  ],
)
