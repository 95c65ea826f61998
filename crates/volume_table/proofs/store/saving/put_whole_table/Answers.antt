-- All sectors of the table are committed.
use Rattle.std.proofs.Common.{ℕ, List, sym, subst}
use Rattle.volume_table.specs.Volumes.{Block}
use Rattle.volume_table.proofs.PutTable.{may_put_all, puts_whole_table}
use Rattle.volume_table.proofs.store.saving.put_whole_table.Goals as goal

pub commit-requires : goal.commit-requires
commit-requires g c =
    subst (λ (sectors : List (ℕ × Block)). Rattle.array_io.specs.Believed.ArrayCalls.MayCommit c.args.array.now.table sectors) (sym c.deref.ensures.0)
    (may_put_all c.args.table.now.version c.args.array.now.table c.spelled.result c.numbered.result.items c.numbered.ensures)

pub returns-clause-changes : goal.returns-clause-changes
returns-clause-changes g c = λ first.
    puts_whole_table (g.B.Bank.honest c.args.array.now.bank) c.spelled.result first c.args.table.now c.numbered.result.items c.deref.result.now _ _
    c.commit.result
    c.numbered.ensures c.spelled.ensures c.deref.ensures.0 c.commit.ensures.commits

pub returns-clause-entry : goal.returns-clause-entry
returns-clause-entry g c = λ answered. c.commit.ensures.commits.number answered
