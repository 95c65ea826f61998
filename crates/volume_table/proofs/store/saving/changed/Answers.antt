-- A sector that differs is added with its number.
use Rattle.std.proofs.Common.{ℕ, ◌+◌, List, sym, ◌∙◌, ap, subst, arith}
use Rattle.extents.proofs.Versions.{table_length_most}
use Rattle.std.proofs.lemmas.Bool.{not-false}
use Rattle.std.specs.Cmp.Lexicographic.{same_text}
use Rattle.arrayvec.specs.ArrayVec.{ArrayVec}
use Rattle.volume_table.specs.StoreChanges.{AreChangedBelow}
use Rattle.volume_table.proofs.PutTable.{changed_more, same_more}
use Rattle.volume_table.proofs.store.saving.changed.Goals as goal
use Rattle.volume_table.proofs.store.saving.changed.Goals.{then-ne, else-ne}

pub loop-number-preserved : goal.loop-number-preserved
loop-number-preserved c = elim c.if-ne.branch [
  | then-ne w ↦ changed_more c.loop-number.number c.args.before.now c.args.after.now c.loop-number.sectors.items c.if-ne.sectors.items c.loop-number.invariant
      (ap (λ (those : ArrayVec (ℕ × List ℕ)). those.items) w.sectors-is ∙ w.push.ensures.items)
  | else-ne w ↦ subst (AreChangedBelow (c.loop-number.number + 1) c.args.before.now c.args.after.now)
      (sym (ap (λ (those : ArrayVec (ℕ × List ℕ)). those.items) w.sectors-is))
      (same_more c.loop-number.number c.args.before.now c.args.after.now c.loop-number.sectors.items c.loop-number.invariant
      (sym (same_text _ _ (sym (not-false _ (sym c.ne.ensures ∙ w.if-ne.false))))))
]

pub offset_bounds-before-number : goal.offset_bounds-before-number
offset_bounds-before-number c = omega (arith, c.table_length-number-end.ensures, table_length_most c.args.version)

pub bounds-before-number : goal.bounds-before-number
bounds-before-number c = omega (arith, c.table_length-number-end.ensures, table_length_most c.args.version)

pub offset_bounds-after-number : goal.offset_bounds-after-number
offset_bounds-after-number c = omega (arith, c.table_length-number-end.ensures, table_length_most c.args.version)

pub bounds-after-number : goal.bounds-after-number
bounds-after-number c = omega (arith, c.table_length-number-end.ensures, table_length_most c.args.version)
