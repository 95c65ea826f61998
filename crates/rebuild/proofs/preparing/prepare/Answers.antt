use Rattle.std.proofs.Common.{arith}
use Rattle.array_io.proofs.Images.Codecs.{spellings}
use Rattle.array_io.proofs.Commits.PuttingRows.{at_ok}
use Rattle.superblock.proofs.LeastSectors.{journal_least}
use Rattle.rebuild.proofs.PreparedCalls.{journal_has, member_has, prepares_by}
use Rattle.rebuild.proofs.preparing.prepare.Goals as goal

pub returns-then-slot-table-clause-prepares : goal.returns-then-slot-table-clause-prepares
returns-then-slot-table-clause-prepares g c = λ number.
    let honest = g.B.Bank.honest c.args.bank.now in
    let table = c.args.table.now in
    let before = g.B.Bank.panel c.args.bank.now in
    let after = g.B.Bank.panel c.clear_front.new.bank in
    prepares_by spellings honest table number c.args.slot before after (g.B.Bank.history c.args.bank.now)
    (g.B.Bank.history c.clear_front.new.bank) c.clear_front.result
    c.requires.of_set c.requires.missing c.requires.up (λ fair. g.met.B.Bank.true_to _ fair)
    (λ fair. g.met.B.Bank.true_to _ (c.clear_front.ensures.honest.0 fair))
    (member_has spellings honest table c.args.slot before after (g.B.Bank.history c.args.bank.now)
    (g.B.Bank.history c.clear_front.new.bank) c.clear_front.result
    c.if-slot-table.true c.requires.room
    (λ fair. g.met.B.Bank.true_to _ fair) c.clear_front.ensures.panel c.clear_front.ensures.made
    (λ done. at_ok c.clear_front.result c.clear_front.ensures.up done) c.clear_front.ensures.err)

pub returns-else-slot-table-clause-prepares : goal.returns-else-slot-table-clause-prepares
returns-else-slot-table-clause-prepares g c = λ number.
    let honest = g.B.Bank.honest c.args.bank.now in
    let table = c.args.table.now in
    let before = g.B.Bank.panel c.args.bank.now in
    let after = g.B.Bank.panel c.prepare_journal.new.bank in
    prepares_by spellings honest table number c.args.slot before after (g.B.Bank.history c.args.bank.now)
    (g.B.Bank.history c.prepare_journal.new.bank) c.prepare_journal.result
    c.requires.of_set c.requires.missing c.requires.up (λ fair. g.met.B.Bank.true_to _ fair)
    (λ fair. g.met.B.Bank.true_to _ (c.prepare_journal.ensures.honest.0 fair))
    (journal_has spellings honest table c.args.slot before after (g.B.Bank.history c.args.bank.now)
    (g.B.Bank.history c.prepare_journal.new.bank) c.prepare_journal.result
    c.if-slot-table.false c.requires.of_set c.requires.missing
    (omega (arith, c.requires.room, journal_least table.geometry c.args.slot c.if-slot-table.false))
    (λ fair. g.met.B.Bank.true_to _ fair) c.prepare_journal.ensures.prepares)
