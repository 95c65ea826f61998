use Rattle.stripe_journal.specs.Entries.{body_of}
use Rattle.array_io.specs.Believed.OpenArray.{array_on}
use Rattle.recovery.proofs.EntrySettled.{copied_already, copies}
use Rattle.recovery.proofs.replaying.copy_to_stale_journal.Goals as goal

pub returns-in-Some-clause-copies : goal.returns-in-Some-clause-copies
returns-in-Some-clause-copies g c = λ number.
    copies (g.B.Bank.honest c.args.bank.now) c.args.latest.now (body_of c.args.table.now.geometry.members c.args.entry.now) c.in-Some.journal
    (array_on g.B.Bank c.args.bank.now c.args.table.now number) (array_on g.B.Bank c.put_on_journal.new.bank c.put_on_journal.new.table number)
    c.put_on_journal.result
    c.requires.latest c.in-Some.ensures c.put_on_journal.ensures.geometry (c.put_on_journal.ensures.steps number)

pub returns-in-None-clause-copies : goal.returns-in-None-clause-copies
returns-in-None-clause-copies g c = λ number.
    copied_already (g.B.Bank.honest c.args.bank.now) c.args.latest.now (body_of c.args.table.now.geometry.members c.args.entry.now)
    (array_on g.B.Bank c.args.bank.now c.args.table.now number) c.in-None.ensures
