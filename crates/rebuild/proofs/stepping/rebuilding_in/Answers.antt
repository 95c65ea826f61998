use Rattle.std.proofs.Common.{rules}
use Rattle.rebuild.proofs.stepping.rebuilding_in.Goals as goal

pub loop-member-init : goal.loop-member-init
loop-member-init c = search rules
