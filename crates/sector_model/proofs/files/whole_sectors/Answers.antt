use Rattle.std.proofs.Common.{◌/◌, min, ◌∙◌, ap}
use Rattle.sector_model.proofs.files.whole_sectors.Goals as goal

pub returns : goal.returns
returns c = c.min-count.ensures ∙ ap (min (c.args.bytes / 512)) c.from.ensures
