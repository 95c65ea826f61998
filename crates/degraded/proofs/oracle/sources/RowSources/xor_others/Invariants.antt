-- The XOR of what is known of the others so far.
use Rattle.std.proofs.Common.{◌≡◌, ℕ, map, unwrap_or}
use Rattle.parity.specs.Xor.{xor_of_all, zero_sector}
use Rattle.degraded.specs.RowValue.{others, direct}
use Rattle.degraded.specs.Oracle.{rows_of_sources}
use Rattle.degraded.proofs.oracle.sources.RowSources.xor_others.Given as goal

abbrev pub invariant-loop-other : goal.invariant-loop-other
invariant-loop-other l = (row : ℕ) → l.to ≡ xor_of_all
    (map (λ other. unwrap_or (direct (rows_of_sources l.fn.self) row other) zero_sector) (others l.other l.fn.member))
