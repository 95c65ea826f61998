use Rattle.std.proofs.Common.{sym, ◌∙◌, ◌+◌, subst}
use Rattle.std.proofs.lemmas.Bool.{false≢true}
use Rattle.batch.specs.ZeroRows.{JoinsAfter}
use Rattle.batch.proofs.ZeroJoins.{after_apart, after_touching}
use Rattle.batch.proofs.zero_rows.join_after.Goals as goal

pub returns-then-begins_at : goal.returns-then-begins_at
returns-then-begins_at c =
    let runs = c.args.runs.now in
    let number = c.args.number in
    let touches = c.begins_at.ensures.0 c.if-begins_at.true in
    subst (λ end. JoinsAfter runs number c.args.end (number + 1, end)) (sym c.end.ensures)
    (after_touching runs c.requires.zero number c.args.end touches.0 touches.1)

pub returns-else-begins_at : goal.returns-else-begins_at
returns-else-begins_at c =
    after_apart c.args.runs.now c.requires.zero c.args.number c.args.end c.requires.within c.requires.above c.requires.most
    (λ inside touches. absurd (false≢true (sym c.if-begins_at.false ∙ c.begins_at.ensures.1 (inside, touches))))
