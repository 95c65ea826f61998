use Rattle.std.proofs.Common.{◌∙◌, refl, arith, sym, codes}
use Rattle.command_line.proofs.SizeTexts.{no_room, other_units, two_texts}
use Rattle.command_line.proofs.sizes.read_room.Goals as goal
use Rattle.command_line.proofs.sizes.read_room.Goals.{in_default-via-in-Some+then-letter-ne75+else-blocks-gt0, in_default-via-in-Some+else-letter-ne75}
use Rattle.command_line.proofs.sizes.read_room.Goals.{in_default-via-in_default}

pub returns-in_default-clause-err : goal.returns-in_default-clause-err
returns-in_default-clause-err c =
    let text = c.args.text.now in (
      refl,
      no_room text (two_texts text (codes "max") (sym c.if-eq.ensures)) (elim c.in_default.branch [
        | in_default-via-in-Some+then-letter-ne75+else-blocks-gt0 w ↦ λ letter blocks s not_k some few.
            let same = other_units text w.in-Some.letter w.in-Some.blocks w.in-Some.ensures.said.0 w.in-Some.ensures.said.1 letter blocks s few in
            omega (arith, w.if-blocks-gt0.false, same.1)
        | in_default-via-in-Some+else-letter-ne75 w ↦ λ letter blocks s not_k some few.
            let same = other_units text w.in-Some.letter w.in-Some.blocks w.in-Some.ensures.said.0 w.in-Some.ensures.said.1 letter blocks s few in
            not_k (sym same.0 ∙ w.if-letter-ne75.false)
        | in_default-via-in_default w ↦ λ letter blocks s not_k some few. w.in_default.ensures.unsaid refl letter blocks s few
      ]),
    )
