use Rattle.stripe_journal.proofs.Entries.{sector_elsewhere, sector_there}
use Rattle.array_io.proofs.forming.put_sector.Goals as goal

pub returns-clause-put : goal.returns-clause-put
returns-clause-put c = sector_there c.args.entry.now c.args.i c.args.member _ c.requires.row c.requires.member c.requires.held

pub returns-clause-others : goal.returns-clause-others
returns-clause-others c = λ k other within apart.
    sector_elsewhere c.args.entry.now c.args.i c.args.member k other _ c.requires.member within c.requires.held apart
