use Rattle.batch.specs.Listed.{places_in}
use Rattle.batch.proofs.Staged.{held_same, put_more}
use Rattle.std.specs.Prelude.{length}
use Rattle.batch.proofs.staging.put_all.Goals as goal

pub put_one-requires-clause-held : goal.put_one-requires-clause-held
put_one-requires-clause-held c =
    held_same c.args.geometry.now c.args.all.now c.loop-sector.all (places_in c.args.places.now) c.requires.held c.loop-sector.auto.all
    c.loop-sector.invariant.same

pub loop-sector-preserved : goal.loop-sector-preserved
loop-sector-preserved c =
    put_more c.args.sectors.now c.loop-sector.sector-index (length (places_in c.args.places.now)) c.args.all.now c.loop-sector.all c.put_one.new.all
    c.requires.apart c.loop-sector-test.true c.loop-sector.invariant c.put_one.ensures
