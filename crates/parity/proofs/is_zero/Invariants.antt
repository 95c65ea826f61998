-- The union of the parts so far is 0 exactly where each of their bytes is.
use Rattle.std.proofs.Common.{◌≡◌, ℕ, ◌*◌, ◌<◌, length, get_or}
use Rattle.parity.proofs.is_zero.Given as goal

abbrev pub invariant-loop-k : goal.invariant-loop-k
invariant-loop-k l = record {
  long : length l.union ≡ 64;
  zeros : ((i : ℕ) → i < 64 → get_or l.union i 0 ≡ 0) → (j : ℕ) → j < 64 * l.k → get_or l.sector j 0 ≡ 0;
  union : ((j : ℕ) → j < 64 * l.k → get_or l.sector j 0 ≡ 0) → (i : ℕ) → i < 64 → get_or l.union i 0 ≡ 0;
}
