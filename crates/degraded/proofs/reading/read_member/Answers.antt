use Rattle.degraded.proofs.reading.read_member.Goals as goal

pub returns-then-is_trusted-clause-reads : goal.returns-then-is_trusted-clause-reads
returns-then-is_trusted-clause-reads g c = c.read_own.ensures.reads

pub returns-else-is_trusted-clause-reads : goal.returns-else-is_trusted-clause-reads
returns-else-is_trusted-clause-reads g c = c.xor_others.ensures.reads
