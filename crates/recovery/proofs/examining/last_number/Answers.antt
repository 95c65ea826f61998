use Rattle.std.proofs.Common.{inl, inr, arith}
use Rattle.superblock.proofs.LeastSectors.{journal_least}
use Rattle.recovery.specs.Making.{bank_view}
use Rattle.recovery.proofs.ExaminedSet.{last_absent}
use Rattle.recovery.proofs.examining.last_number.Goals as goal

pub returns-in-Absent-clause-reads : goal.returns-in-Absent-clause-reads
returns-in-Absent-clause-reads g c =
    last_absent (g.B.Bank.honest c.args.bank.now) (bank_view (g.B.Bank.panel c.args.bank.now) (g.B.Bank.history c.args.bank.now)) c.args.table.now
    c.args.journal
    (inl c.in-Absent.ensures)

pub returns-in-TooShort-clause-reads : goal.returns-in-TooShort-clause-reads
returns-in-TooShort-clause-reads g c =
    last_absent (g.B.Bank.honest c.args.bank.now) (bank_view (g.B.Bank.panel c.args.bank.now) (g.B.Bank.history c.args.bank.now)) c.args.table.now
    c.args.journal
    (inr c.in-TooShort.ensures)

pub last_sealed_number-requires-clause-within : goal.last_sealed_number-requires-clause-within
last_sealed_number-requires-clause-within g c = omega (arith, c.in-There.ensures.1, journal_least c.args.table.now.geometry c.args.journal c.requires.beyond)
