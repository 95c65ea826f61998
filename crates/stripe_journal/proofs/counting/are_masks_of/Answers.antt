use Rattle.std.proofs.Common.{inl, inr, ℕ, arith, subst, sym}
use Rattle.std.proofs.lemmas.Bool.{cases_eq}
use Rattle.entry_runs.specs.Body.{has_bit}
use Rattle.stripe_journal.specs.Forms.{HoldsRow, mask_at}
use Rattle.stripe_journal.specs.Seals.{row_at}
use Rattle.stripe_journal.proofs.counting.are_masks_of.Goals as goal

pub loop-i-preserved : goal.loop-i-preserved
loop-i-preserved c = λ k within. elim (cases_eq k c.loop-i.i) [
  | inl same ↦ subst (λ (j : ℕ). HoldsRow c.args.geometry.now (row_at c.args.rows.now j) (has_bit (mask_at c.args.masks.now j))) (sym same)
      (subst (λ (row : ℕ). HoldsRow c.args.geometry.now row (has_bit (mask_at c.args.masks.now c.loop-i.i))) c.from.ensures
      (c.is_mask_of.ensures.0 c.if-not-is_mask_of.false))
  | inr other ↦ c.loop-i.invariant k (omega (arith, within, other))
]
