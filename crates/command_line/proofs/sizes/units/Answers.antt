use Rattle.std.proofs.Common.{rules, arith}
use Rattle.command_line.proofs.SizeTexts.{too_many}
use Rattle.command_line.proofs.sizes.units.Goals as goal

pub returns-in_err-blocks-clause-unsaid : goal.returns-in_err-blocks-clause-unsaid
returns-in_err-blocks-clause-unsaid c = λ _.
    too_many c.args.text.now c.in_ok-digits.digits.now c.in_ok-digits.unit.now c.in_ok-checked_sub.field-0 c.in_ok-number.field-0
    c.in_ok-unit_blocks.field-0 (omega (arith, c.in_ok-checked_sub.ensures)) c.in_ok-digits.ensures.front c.in_ok-digits.ensures.back
    c.in_ok-number.ensures.said (omega arith) (search rules) (omega (arith, c.in_err-blocks.ensures))
