use Rattle.sector_model.proofs.FileRuns.{here_at, sectors_here}
use Rattle.sector_model.proofs.files.FileBankBank.sectors.Goals as goal

pub returns : goal.returns
returns g c = sectors_here (here_at c.args.self.now.slots.ok.0 c.args.self.now.ten c.requires c.index.ensures)
