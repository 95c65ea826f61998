use Rattle.array_io.proofs.Images.Codecs.{spellings}
use Rattle.array_io.proofs.Laws.Fresh as fresh
use Rattle.array_io.proofs.Laws.FromCore as core
use Rattle.array_io.proofs.law.fresh_set.fresh_set_holds.Goals as goal

pub returns : goal.returns
returns c = fresh.fresh_set_holds spellings (core.holds_from_core spellings)
