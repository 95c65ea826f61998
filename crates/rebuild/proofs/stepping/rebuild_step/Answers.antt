use Rattle.std.proofs.Common.{◌≡◌, ◌+◌, ◌-◌, ◌≤◌, ℕ, inl, inr, refl, sym, ◌∙◌, ap, subst, arith}
use Rattle.std.specs.Prelude.{min}
use Rattle.std.proofs.Math.Nat.{le-min, min-le_left}
use Rattle.std.proofs.lemmas.Bool.{cases_lt}
use Rattle.array_io.specs.Believed.Views.{view_of}
use Rattle.array_io.specs.Believed.OpenArray.{array_view}
use Rattle.rebuild.proofs.Instances.{no_rows_tell_the_position, no_step_is_refused}
use Rattle.layout_map.specs.declared.format.Format.{Format}
use Rattle.layout_map.specs.declared.format.Format.TheVariants.{One, Two}
use Rattle.layout_map.specs.Formats.{rebuild_rows}
use Rattle.array_io.specs.Believed.Holds.{row_count}
use Rattle.rebuild.specs.Rebuilding.{Position, StepsRebuild, stepped}
use Rattle.std.proofs.Common.{Ok}
use Rattle.rebuild.proofs.stepping.rebuild_step.Goals as goal

-- a step goes no further only where it is of no rows
no_rows : (most rows left step position : ℕ) → step ≡ min (min rows most) left → 1 ≤ most → 1 ≤ left → position + step ≡ position → rows ≡ 0
no_rows most rows left step position is room some stays = elim (cases_lt 0 rows) [
  | inr none ↦ omega (arith, none)
  | inl more ↦
      let least : 1 ≤ min (min rows most) left = le-min (le-min (omega (arith, more)) room) some in
      absurd (omega (arith, least, is, stays))
]

some_rows : (most rows left step position : ℕ) → step ≡ min (min rows most) left → (position + step ≡ position → ⊥) → 1 ≤ rows
some_rows most rows left step position is further = elim (cases_lt 0 rows) [
  | inl more ↦ omega (arith, more)
  | inr none ↦ absurd (further (omega (arith, is, min-le_left (min rows most) left, min-le_left rows most, none)))
]

-- a step of either format has rows
some_in_step : (format : Format) → 1 ≤ rebuild_rows format
some_in_step One = omega arith
some_in_step Two = omega arith

pub returns-in_default-clause-steps : goal.returns-in_default-clause-steps
returns-in_default-clause-steps g c = no_step_is_refused (g.B.Bank.honest c.args.array.now.bank) c.args.rows
    (array_view c.args.array.now) (c.in_default.ensures.none refl)

pub returns-then-end-from-clause-steps : goal.returns-then-end-from-clause-steps
returns-then-end-from-clause-steps g c =
    let table = c.args.array.now.table in
    let view = view_of (g.B.Bank.panel c.args.array.now.bank) (g.B.Bank.history c.args.array.now.bank) table c.args.array.now.entry in
    let below = table.allowed.position_below c.in-Some.member c.in-Some.ensures.some.state in
    let none : c.args.rows ≡ 0 = no_rows c.rebuild_rows-most.result c.args.rows (c.rows.result - table.position) c.min-2.result table.position
    (c.min-2.ensures ∙ ap (λ (n : ℕ). min n (c.rows.result - table.position)) c.min.ensures)
    (subst (λ (n : ℕ). 1 ≤ n) (sym c.rebuild_rows-most.ensures) (some_in_step table.geometry.format)) (omega (arith, c.rows.ensures, below))
    c.if-end-from.true in
    subst (λ (n : ℕ). StepsRebuild (g.B.Bank.honest c.args.array.now.bank) n view view (Ok (Position table.position))) (sym none)
    (no_rows_tell_the_position (g.B.Bank.honest c.args.array.now.bank) view c.in-Some.member c.in-Some.ensures.some)

pub returns-clause-steps : goal.returns-clause-steps
returns-clause-steps g c =
    let table = c.args.array.now.table in
    let is = c.min-2.ensures ∙ ap (λ (n : ℕ). min n (c.rows.result - table.position)) c.min.ensures in
    c.step_to.ensures.steps c.args.rows
    (ap (λ (n : ℕ). table.position + n) (is ∙ ap (λ (n : ℕ). min (min c.args.rows c.rebuild_rows-most.result) (n - table.position)) c.rows.ensures)
    ∙ ap (λ (n : ℕ). stepped n (row_count table) c.args.rows table.position) c.rebuild_rows-most.ensures)
    (some_rows c.rebuild_rows-most.result c.args.rows (c.rows.result - table.position) c.min-2.result table.position is c.if-end-from.false)
