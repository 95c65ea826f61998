use Rattle.std.proofs.Common.{inl, inr, ℕ, arith, subst, sym}
use Rattle.std.proofs.lemmas.Bool.{cases_eq}
use Rattle.entry_runs.specs.Body.{has_bit}
use Rattle.stripe_journal.specs.Forms.{HoldsRow}
use Rattle.stripe_journal.proofs.counting.is_run_of.Goals as goal

pub loop-row-preserved : goal.loop-row-preserved
loop-row-preserved c = λ row least within. elim (cases_eq row c.loop-row.row) [
  | inl same ↦ subst (λ (r : ℕ). HoldsRow c.args.geometry.now r (has_bit c.args.run.now.mask)) (sym same)
      (c.is_mask_of.ensures.0 c.if-not-is_mask_of.false)
  | inr other ↦ c.loop-row.invariant row least (omega (arith, within, other))
]
