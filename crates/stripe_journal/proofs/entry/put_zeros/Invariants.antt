use Rattle.std.proofs.Common.{◌≡◌, ℕ, ◌<◌, [], get_or, replicate}
use Rattle.stripe_journal.proofs.entry.put_zeros.Given as goal

abbrev pub invariant-loop-sector : goal.invariant-loop-sector
invariant-loop-sector l = (k : ℕ) → k < l.sector-index → get_or l.sector-items k [] ≡ replicate 512 0
