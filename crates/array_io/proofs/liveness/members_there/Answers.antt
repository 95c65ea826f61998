use Rattle.std.proofs.Common.{◌<◌}
use Rattle.array_io.proofs.Reading.LiveRows.{one_more_there}
use Rattle.array_io.proofs.liveness.members_there.Goals as goal

pub loop-member-preserved : goal.loop-member-preserved
loop-member-preserved c =
    let below : c.loop-member.member < c.args.table.now.geometry.members = c.loop-member-test.true in
    one_more_there c.args.table.now c.loop-member.member c.loop-member.live c.is_there.result below c.loop-member.invariant c.is_there.ensures
