use Rattle.std.proofs.Common.{refl}
use Rattle.batch.specs.Listed.{places_in}
use Rattle.batch.proofs.Staged.{added_more}
use Rattle.batch.proofs.staging.place_all.Goals as goal

pub loop-sector-preserved : goal.loop-sector-preserved
loop-sector-preserved c =
    added_more c.args.geometry.now c.args.most c.args.sectors.now c.loop-sector.sector-index c.args.all.now c.loop-sector.all c.place_one.new.all
    (places_in c.args.places.now) (places_in c.loop-sector.places) (places_in c.place_one.new.places) c.loop-sector.invariant c.if-not-place_one.ensures

pub returns-then-not-place_one-clause-full : goal.returns-then-not-place_one-clause-full
returns-then-not-place_one-clause-full c = λ no. record {
  count = c.loop-sector.sector-index;
  inside = c.loop-sector-test.true;
  mid = c.loop-sector.all;
  more = places_in c.loop-sector.places;
  added = c.loop-sector.invariant;
  full = c.if-not-place_one.ensures.full refl;
  none = c.if-not-place_one.ensures.none refl;
}
