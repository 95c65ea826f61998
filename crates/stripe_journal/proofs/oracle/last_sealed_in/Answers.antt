use Rattle.sector_model.specs.Memory.{sectors_in}
use Rattle.stripe_journal.proofs.CountedSeals.{last_is}
use Rattle.stripe_journal.proofs.oracle.last_sealed_in.Goals as goal

pub returns : goal.returns
returns c = last_is c.args.id.now c.args.geometry.now (sectors_in c.args.content.now) c.counted_seal_in-even.result c.counted_seal_in-odd.result c.later.result
    c.told-id
    c.counted_seal_in-even.ensures.some c.counted_seal_in-even.ensures.none c.counted_seal_in-odd.ensures.some c.counted_seal_in-odd.ensures.none
    c.later.ensures
