use Rattle.recovery.proofs.assembling.assemble.Goals as goal

pub returns-in-Ok-clause-honest_array : goal.returns-in-Ok-clause-honest_array
returns-in-Ok-clause-honest_array g c = c.open_set.ensures.honest

pub returns-in-Ok-clause-assembled : goal.returns-in-Ok-clause-assembled
returns-in-Ok-clause-assembled g c = c.in-Ok.ensures.assembles

pub returns-in-Err-clause-honest_bank : goal.returns-in-Err-clause-honest_bank
returns-in-Err-clause-honest_bank g c = c.open_set.ensures.honest

pub returns-in-Err-clause-refused : goal.returns-in-Err-clause-refused
returns-in-Err-clause-refused g c = c.in-Err.ensures.assembles

pub returns-in-Ok-clause-unwritten : goal.returns-in-Ok-clause-unwritten
returns-in-Ok-clause-unwritten g c = c.in-Ok.ensures.unwritten

pub returns-in-Err-clause-unwritten : goal.returns-in-Err-clause-unwritten
returns-in-Err-clause-unwritten g c = c.in-Err.ensures.unwritten
