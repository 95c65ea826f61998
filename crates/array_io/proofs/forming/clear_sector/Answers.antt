use Rattle.parity.proofs.Laws.{zero_sector-replicate}
use Rattle.stripe_journal.proofs.Entries.{sector_elsewhere, sector_there}
use Rattle.std.proofs.Common.{refl, ◌∙◌}
use Rattle.array_io.proofs.forming.clear_sector.Goals as goal

pub returns-clause-zero : goal.returns-clause-zero
returns-clause-zero c =
    sector_there c.args.entry.now c.args.i c.args.member _ c.requires.row c.requires.member c.requires.held ∙ zero_sector-replicate 512 refl

pub returns-clause-others : goal.returns-clause-others
returns-clause-others c = λ k other within apart.
    sector_elsewhere c.args.entry.now c.args.i c.args.member k other _ c.requires.member within c.requires.held apart
