-- No slot below is gone.
use Rattle.std.proofs.Common.{◌≢◌, ◌<◌, ℕ}
use Rattle.superblock.specs.declared.state.State.TheVariants.{Missing}
use Rattle.superblock.specs.Tables.{state_at}
use Rattle.recovery.specs.Making.{bank_view}
use Rattle.recovery.specs.Surveying.{IsThere}
use Rattle.recovery.proofs.survey.first_gone.Given as goal

abbrev pub invariant-loop-slot : goal.invariant-loop-slot
invariant-loop-slot g l = (k : ℕ) → k < l.slot → state_at l.survey.table.states k ≢ Missing
    → IsThere (g.B.Bank.honest l.bank) (bank_view (g.B.Bank.panel l.bank) (g.B.Bank.history l.bank)) l.survey.table k
