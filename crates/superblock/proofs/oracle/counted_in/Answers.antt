use Rattle.std.proofs.Common.{rules, None, Some, length, ap, arith}
use Rattle.superblock.proofs.Newest.{none_beyond}
use Rattle.superblock.proofs.oracle.counted_in.Goals as goal

pub returns-in-None-get-clause-none : goal.returns-in-None-get-clause-none
returns-in-None-get-clause-none c = λ _.
    rw c.in-Some.is (none_beyond _ _ _ _ (Some _) (omega (arith, c.in-None-get.ensures.lookup.3, ap length c.deref.ensures.value)))

pub returns-in-None-clause-none : goal.returns-in-None-clause-none
returns-in-None-clause-none c = λ _. rw c.in-None.is (none_beyond _ _ _ _ None (omega arith))

pub returns-in-Some-get-clause-some : goal.returns-in-Some-get-clause-some
returns-in-Some-get-clause-some c = search rules

pub returns-in-Some-get-clause-none : goal.returns-in-Some-get-clause-none
returns-in-Some-get-clause-none c = search rules
