use Rattle.superblock.proofs.Newest.{own_of_newest}
use Rattle.superblock.proofs.oracle.own_incarnation_in.Goals as goal

pub returns-clause-some : goal.returns-clause-some
returns-clause-some c = own_of_newest _ _ _ _ _ c.in_ok-newest.ensures.some
