use Rattle.std.proofs.lemmas.Grind.{common_steps}
use Rattle.std.proofs.Common.{◌≢◌, ◌≤◌, ◌<◌, ◌⊎◌, ◌+◌, ◌-◌, ◌*◌, ◌^◌, inl, inr, length, get_or, sym, ◌∙◌, arith}
use Rattle.std.proofs.lemmas.Bool.{eqb-false}
use Rattle.report.proofs.NumberLemmas.{IsNumber-read, too_large}
use Rattle.report.proofs.parse.number.number.Goals as goal
use Rattle.report.proofs.parse.number.number.Goals.{then-field-gt1, else-field-gt1}

pub returns-in_err-checked_mul-clause-unsaid : goal.returns-in_err-checked_mul-clause-unsaid
returns-in_err-checked_mul-clause-unsaid c = λ _.
    let h = c.in_err-checked_mul.ensures in
    too_large c.args.field.now c.digits.digit-index c.digits.value c.digits.invariant (omega arith) (omega arith)

pub returns-in_err-value-clause-unsaid : goal.returns-in_err-value-clause-unsaid
returns-in_err-value-clause-unsaid c = λ _.
    let field = c.args.field.now in
    let product = c.in_ok-checked_mul.ensures in
    let digit = c.from.ensures in
    let sum : 2 ^ 32 ≤ c.digits.value * 10 + (get_or field c.digits.digit-index 0 - 48) = omega (arith, c.in_err-value.ensures, product, digit) in
    too_large field c.digits.digit-index c.digits.value c.digits.invariant (omega arith) sum

pub returns-clause-said : goal.returns-clause-said
returns-clause-said c =
    let field = c.args.field.now in
    let some : 0 < length field = (let length_test = eqb-false (length field) 0 (sym c.if-is_empty.ensures) in omega arith) in
    let zero : (length field ≤ 1) ⊎ (get_or field 0 0 ≢ 48) = elim c.if-field-gt1.branch [
      | then-field-gt1 w ↦ inr (eqb-false (get_or field 0 0) 48 (sym w.value-is ∙ c.if-field-eq48.false))
      | else-field-gt1 w ↦ inl (omega arith)
    ] in
    IsNumber-read field c.digits.digit-index c.digits.value c.digits.invariant (omega arith) some zero

pub digits-preserved : goal.digits-preserved
digits-preserved c = grind (arith, common_steps)
