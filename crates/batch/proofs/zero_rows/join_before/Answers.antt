use Rattle.std.proofs.Common.{sym, ◌∙◌}
use Rattle.std.proofs.lemmas.Bool.{false≢true}
use Rattle.batch.proofs.ZeroJoins.{before_apart, before_touching}
use Rattle.batch.proofs.zero_rows.join_before.Goals as goal

pub returns-then-ends_at : goal.returns-then-ends_at
returns-then-ends_at c =
    let touches = c.ends_at.ensures.0 c.if-ends_at.true in
    before_touching c.args.runs.now c.requires.zero c.args.number c.args.first c.requires.between touches.0 touches.1

pub returns-else-ends_at : goal.returns-else-ends_at
returns-else-ends_at c =
    before_apart c.args.runs.now c.requires.zero c.args.number c.args.first c.requires.between
    (λ some touches. absurd (false≢true (sym c.if-ends_at.false ∙ c.ends_at.ensures.1 (some, touches))))
