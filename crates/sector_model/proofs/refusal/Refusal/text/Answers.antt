use Rattle.sector_model.proofs.refusal.Refusal.text.Goals as goal

pub returns-in-Exists : goal.returns-in-Exists
returns-in-Exists c = rw c.in-Exists.is

pub returns-in-NoVolume : goal.returns-in-NoVolume
returns-in-NoVolume c = rw c.in-NoVolume.is
