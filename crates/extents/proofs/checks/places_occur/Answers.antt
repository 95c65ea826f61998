use Rattle.std.proofs.Common.{below_more}
use Rattle.extents.proofs.Tables.{occurs_found, occurs_not}
use Rattle.extents.proofs.checks.places_occur.Goals as goal

pub returns-then-is_none : goal.returns-then-is_none
returns-then-is_none c = (
  λ yes. absurd (let no : ⊥ = cc in no),
  λ occur. absurd (occurs_not c.args.extents.now c.args.volume c.loop-place.place c.first_at.result c.first_at.ensures
      (let h = c.is_none.ensures in let g = c.if-is_none.true in cc) (occur c.loop-place.place c.loop-place-test.true)),
)

pub loop-place-preserved : goal.loop-place-preserved
loop-place-preserved c = below_more _ _ c.loop-place.invariant
    (occurs_found c.args.extents.now c.args.volume c.loop-place.place c.first_at.result c.first_at.ensures
    (let h = c.is_none.ensures in let g = c.if-is_none.false in cc))
