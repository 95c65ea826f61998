use Rattle.std.proofs.Common.{inl}
use Rattle.raidtool.proofs.tool.end_asked.Goals as goal

pub returns-in-Ok-clause-ends : goal.returns-in-Ok-clause-ends
returns-in-Ok-clause-ends g c = inl (_, c.in-Ok.ensures.chosen, rw c.is_new.ensures at c.end_line.ensures)
