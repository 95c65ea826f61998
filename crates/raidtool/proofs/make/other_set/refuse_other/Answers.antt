use Rattle.raidtool.proofs.make.other_set.refuse_other.Goals as goal

pub returns-in-Some-clause-fault : goal.returns-in-Some-clause-fault
returns-in-Some-clause-fault g c =
    let within = rw c.in-Some.is at c.in_ok-slot.ensures.found in
    let inspections = rw c.in-Some.is at c.in_ok-slot.ensures.inspections in
    (within.0, within.1, inspections)
