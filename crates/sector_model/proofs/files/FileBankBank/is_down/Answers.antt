use Rattle.std.proofs.Common.{◌∙◌}
use Rattle.sector_model.proofs.FileRuns.{here_at, down_here}
use Rattle.sector_model.proofs.files.FileBankBank.is_down.Goals as goal

pub returns : goal.returns
returns g c = c.is_closed.ensures ∙ down_here (here_at c.args.self.now.slots.ok.0 c.args.self.now.ten c.requires c.index.ensures)
