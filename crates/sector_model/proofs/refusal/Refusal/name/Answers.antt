use Rattle.sector_model.proofs.refusal.Refusal.name.Goals as goal

pub returns-in-Memory : goal.returns-in-Memory
returns-in-Memory c = rw c.in-Memory.is
