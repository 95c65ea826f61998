use Rattle.std.proofs.Common.{◌==◌, ℕ, ap}
use Rattle.std.proofs.lemmas.Nat.Bits.{bit_at_set_other, bit_at_set_same}
use mir.Syntax.{w8}
use Rattle.batch.proofs.planning.with_bit.Goals as goal

pub returns-clause-has : goal.returns-clause-has
returns-clause-has c = ap (λ (n : ℕ). n == 1) (bit_at_set_same w8 c.args.mask c.args.member c.requires)

pub returns-clause-others : goal.returns-clause-others
returns-clause-others c = λ other apart. ap (λ (n : ℕ). n == 1) (bit_at_set_other w8 c.args.mask c.args.member c.requires other apart)
