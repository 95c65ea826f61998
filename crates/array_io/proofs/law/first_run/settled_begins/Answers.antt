use Rattle.array_io.proofs.Images.Codecs.{spellings}
use Rattle.array_io.proofs.Laws.Fresh as fresh
use Rattle.array_io.proofs.Laws.FromCore as core
use Rattle.array_io.proofs.Laws.SettledBegins as settled
use Rattle.array_io.proofs.law.first_run.settled_begins.Goals as goal

pub returns : goal.returns
returns c = settled.settled_begins spellings (fresh.fresh_set_holds spellings (core.holds_from_core spellings))
