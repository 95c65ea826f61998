use Rattle.superblock.proofs.LaterTables as later
use Rattle.array_io.proofs.Laws.AwayStale as away
use Rattle.array_io.proofs.Images.Codecs.{spellings}
use Rattle.array_io.proofs.law.later_tables.tables_go_on.Goals as goal

pub returns-clause-stale : goal.returns-clause-stale
returns-clause-stale c = later.stale_goes_on

pub returns-clause-away : goal.returns-clause-away
returns-clause-away c = away.away_is_stale spellings
