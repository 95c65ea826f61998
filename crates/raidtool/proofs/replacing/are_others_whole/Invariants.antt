-- Each other slot below is there and in sync.
use Rattle.std.proofs.Common.{◌≢◌, ◌<◌, ℕ}
use Rattle.raidtool.specs.Needs.{IsWhole}
use Rattle.raidtool.proofs.replacing.are_others_whole.Given as goal

abbrev pub invariant-loop-other : goal.invariant-loop-other
invariant-loop-other g l = (k : ℕ) → k < l.other → k ≢ l.slot → IsWhole l.table (g.B.Bank.panel l.bank) k
