use Rattle.std.proofs.Common.{◌≡◌, inl, inr, ℕ, false, sym, subst, ◌∙◌, arith}
use Rattle.std.proofs.lemmas.Bool.{cases_eq}
use Rattle.array_io.specs.Steps.PuttingRows.{is_put}
use Rattle.array_io.specs.Steps.PuttingSteps.{rows_held}
use Rattle.array_io.proofs.Reading.CountedReads.{is_held}
use Rattle.array_io.proofs.member_rows.has_rows_on.Goals as goal

pub loop-i-preserved : goal.loop-i-preserved
loop-i-preserved c = λ k below. elim (cases_eq k c.loop-i.i) [
  | inl same ↦
      let put = is_put c.args.table.now (rows_held c.args.entry.now) c.args.member in
      subst (λ (n : ℕ). put n ≡ false) (sym same)
      (sym (is_held _ c.sector_to_put.result (put c.loop-i.i) c.is_some.result c.sector_to_put.ensures.some c.sector_to_put.ensures.none c.is_some.ensures)
      ∙ c.if-is_some.false)
  | inr other ↦ c.loop-i.invariant k (omega (arith, below, other))
]
