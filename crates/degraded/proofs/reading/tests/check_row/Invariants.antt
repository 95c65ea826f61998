-- The row is one of each member so far that is up.
use Rattle.std.proofs.Common.{◌≡◌, ◌<◌, ◌+◌, false, ℕ}
use Rattle.degraded.proofs.reading.tests.check_row.Given as goal

abbrev pub invariant-loop-member : goal.invariant-loop-member
invariant-loop-member g l = (k : ℕ) → k < l.member → (g.B.Bank.panel l.bank).down k ≡ false → 8 + l.row < (g.B.Bank.panel l.bank).sectors k
