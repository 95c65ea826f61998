use Rattle.array_io.proofs.Images.Codecs.{spellings}
use Rattle.array_io.proofs.Images.Stale as stale
use Rattle.array_io.proofs.law.stale_content.stale_counts_as_absent.Goals as goal

pub returns : goal.returns
returns c = stale.stale_counts_as_absent spellings
