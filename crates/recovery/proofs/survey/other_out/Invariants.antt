-- Each other slot below is there and in sync.
use Rattle.std.proofs.Common.{◌≡◌, ◌≢◌, ◌<◌, ℕ}
use Rattle.superblock.specs.declared.state.State.TheVariants.{InSync}
use Rattle.superblock.specs.Tables.{state_at}
use Rattle.recovery.specs.Making.{bank_view}
use Rattle.recovery.specs.Surveying.{IsThere}
use Rattle.recovery.proofs.survey.other_out.Given as goal

abbrev pub invariant-loop-slot : goal.invariant-loop-slot
invariant-loop-slot g l = (k : ℕ) → k < l.slot → k ≢ l.first → (state_at l.survey.table.states k ≡ InSync)
    × IsThere (g.B.Bank.honest l.bank) (bank_view (g.B.Bank.panel l.bank) (g.B.Bank.history l.bank)) l.survey.table k
