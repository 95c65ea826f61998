use Rattle.sector_model.specs.Memory.{sectors_in}
use Rattle.superblock.proofs.Oracles.{newest_is, newest_none}
use Rattle.superblock.proofs.oracle.newest_in.Goals as goal

pub returns-clause-some : goal.returns-clause-some
returns-clause-some c = newest_is c.args.id.now c.args.devices c.args.slot (sectors_in c.args.content.now) c.counted_in-even.result c.counted_in-odd.result
    c.newer.result
    c.counted_in-even.ensures.some c.counted_in-even.ensures.none c.counted_in-odd.ensures.some c.counted_in-odd.ensures.none c.newer.ensures

pub returns-clause-none : goal.returns-clause-none
returns-clause-none c = newest_none c.args.id.now c.args.devices c.args.slot (sectors_in c.args.content.now) c.counted_in-even.result c.counted_in-odd.result
    c.newer.result
    c.counted_in-even.ensures.some c.counted_in-even.ensures.none c.counted_in-odd.ensures.some c.counted_in-odd.ensures.none c.newer.ensures
