use Rattle.degraded.proofs.Loss.{one_member_may_go}
use Rattle.degraded.proofs.law.degraded_law.Goals as goal

pub returns : goal.returns
returns c = record { one_member_may_go = one_member_may_go }
