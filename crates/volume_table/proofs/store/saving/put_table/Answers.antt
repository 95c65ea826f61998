-- The sectors that differ are committed, or there are none.
use Rattle.std.proofs.Common.{ℕ, List, length, sym, ◌∙◌, subst, arith}
use Rattle.std.proofs.lemmas.Bool.{eqb-true, eqb-false}
use Rattle.volume_table.specs.Volumes.{Block}
use Rattle.volume_table.proofs.PutTable.{may_put, puts_nothing, puts_table, same_where_none}
use Rattle.volume_table.proofs.store.saving.put_table.Goals as goal

pub returns-then-is_empty-clause-changes : goal.returns-then-is_empty-clause-changes
returns-then-is_empty-clause-changes g c = λ first begins same.
    puts_nothing (g.B.Bank.honest c.args.array.now.bank) c.args.before.now c.spelled.result first c.args.table.now c.changed-sectors.result.items _
    (eqb-true (length c.changed-sectors.result.items) 0 (sym c.is_empty.ensures ∙ c.if-is_empty.true)) c.changed-sectors.ensures c.spelled.ensures begins same

pub commit-requires : goal.commit-requires
commit-requires g c =
    subst (λ (sectors : List (ℕ × Block)). Rattle.array_io.specs.Believed.ArrayCalls.MayCommit c.args.array.now.table sectors) (sym c.deref.ensures.0)
    (may_put c.args.table.now.version c.args.array.now.table c.args.before.now c.spelled.result c.changed-sectors.result.items
    (omega (arith, eqb-false (length c.changed-sectors.result.items) 0 (sym c.is_empty.ensures ∙ c.if-is_empty.false))) c.changed-sectors.ensures)

pub returns-clause-changes : goal.returns-clause-changes
returns-clause-changes g c = λ first begins same.
    puts_table (g.B.Bank.honest c.args.array.now.bank) c.args.before.now c.spelled.result first c.args.table.now c.changed-sectors.result.items
    c.deref.result.now _ _ c.commit.result
    c.changed-sectors.ensures c.spelled.ensures c.deref.ensures.0 c.commit.ensures.commits begins same

pub returns-then-is_empty-clause-entry : goal.returns-then-is_empty-clause-entry
returns-then-is_empty-clause-entry g c = λ first begins same differs answered. absurd (differs
    (same_where_none c.args.before.now c.spelled.result first c.args.table.now c.changed-sectors.result.items
    (eqb-true (length c.changed-sectors.result.items) 0 (sym c.is_empty.ensures ∙ c.if-is_empty.true)) c.changed-sectors.ensures c.spelled.ensures begins same))

pub returns-clause-entry : goal.returns-clause-entry
returns-clause-entry g c = λ first begins same differs answered. c.commit.ensures.commits.number answered
