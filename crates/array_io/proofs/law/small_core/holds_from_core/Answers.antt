use Rattle.array_io.proofs.Images.Codecs.{spellings}
use Rattle.array_io.proofs.Laws.FromCore as core
use Rattle.array_io.proofs.law.small_core.holds_from_core.Goals as goal

pub returns : goal.returns
returns c = core.holds_from_core spellings
