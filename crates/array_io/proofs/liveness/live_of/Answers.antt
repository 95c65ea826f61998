use Rattle.array_io.proofs.Reading.LiveRows.{at_most_one, slots_by, slots_read}
use Rattle.std.proofs.Common.{refl}
use Rattle.array_io.proofs.liveness.live_of.Goals as goal

pub returns-clause-there : goal.returns-clause-there
returns-clause-there c = c.members_there.ensures.each

pub returns-clause-reads : goal.returns-clause-reads
returns-clause-reads c = slots_read c.args.table.now c.members_there.result c.rebuilding_in.result c.members_there.ensures c.rebuilding_in.ensures

pub returns-clause-one_out : goal.returns-clause-one_out
returns-clause-one_out c =
    at_most_one c.args.table.now (slots_by c.args.table.now c.members_there.result c.rebuilding_in.result) refl
    (slots_read c.args.table.now c.members_there.result c.rebuilding_in.result c.members_there.ensures c.rebuilding_in.ensures)
