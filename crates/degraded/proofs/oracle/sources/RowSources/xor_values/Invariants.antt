-- The XOR of the values so far.
use Rattle.std.proofs.Common.{◌≡◌, ℕ, map}
use Rattle.std.specs.List.{range_with_len}
use Rattle.parity.specs.Xor.{xor_of_all}
use Rattle.degraded.specs.RowValue.{value}
use Rattle.degraded.specs.Oracle.{rows_of_sources}
use Rattle.degraded.proofs.oracle.sources.RowSources.xor_values.Given as goal

abbrev pub invariant-loop-member : goal.invariant-loop-member
invariant-loop-member l = (row : ℕ) → l.to ≡ xor_of_all (map (λ member. value (rows_of_sources l.fn.self) row member) (range_with_len 0 l.member))
