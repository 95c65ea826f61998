use Rattle.std.proofs.Common.{Option, Ok, subst}
use Rattle.superblock.specs.declared.table.Table.{Table}
use Rattle.recovery.specs.Making.{FindsTable, bank_view}
use Rattle.raidtool.proofs.Needs.{need_found}
use Rattle.raidtool.proofs.replacing.need_on.Goals as goal

pub returns-in-Some : goal.returns-in-Some
returns-in-Some g c =
    let old = bank_view (g.B.Bank.panel c.args.bank.now) (g.B.Bank.history c.args.bank.now) in
    let new = bank_view (g.B.Bank.panel c.chosen_table.new.bank) (g.B.Bank.history c.chosen_table.new.bank) in
    need_found (g.B.Bank.honest c.args.bank.now) c.args.id c.args.slot old new c.in-Some.table c.need_of.result
    (subst (λ (found : Option Table). FindsTable (g.B.Bank.honest c.args.bank.now) c.args.id old new (Ok found)) c.in-Some.is c.in_ok-table.ensures.found)
    c.need_of.ensures
