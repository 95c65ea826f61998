use Rattle.sector_model.proofs.memory.after_crash.number_of.Goals as goal

pub returns-in-Oldest : goal.returns-in-Oldest
returns-in-Oldest c = rw c.in-Oldest.is
