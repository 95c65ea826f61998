-- The bank that is watched shows what the one below does.
use Rattle.std.proofs.Common.{sym}
use Rattle.set_commands.proofs.serving.rebuilding.rebuild_with_progress.Goals as goal

pub returns-clause-refused : goal.returns-clause-refused
returns-clause-refused g c = rw (sym c.of_rebuild-watched.ensures.bank) c.rebuild_on.ensures.refused

pub returns-clause-cut : goal.returns-clause-cut
returns-clause-cut g c = rw (sym c.of_rebuild-watched.ensures.bank) c.rebuild_on.ensures.cut
