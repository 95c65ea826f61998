use Rattle.std.proofs.Common.{refl}
use Rattle.batch.specs.Listed.{places_in}
use Rattle.batch.specs.ZeroSectors.{with_zeros, zeros_from}
use Rattle.batch.proofs.Staged.{added_more}
use Rattle.batch.proofs.ZeroedSectors.{from_inside, logical_from, one_added}
use Rattle.batch.proofs.zero_sectors.list_all.Goals as goal

pub loop-i-preserved : goal.loop-i-preserved
loop-i-preserved c =
    added_more c.args.geometry.now c.args.most (zeros_from c.args.first c.args.count) c.loop-i.i (with_zeros c.args.sectors.now)
    (with_zeros c.loop-i.sectors) (with_zeros c.list_one.new.sectors) (places_in c.args.places.now) (places_in c.loop-i.places)
    (places_in c.list_one.new.places) c.loop-i.invariant
    (one_added c.args.geometry.now c.args.most c.args.first c.args.count c.loop-i.i c.from.result (with_zeros c.loop-i.sectors)
    (with_zeros c.list_one.new.sectors) (places_in c.loop-i.places) (places_in c.list_one.new.places) _ c.from.ensures c.loop-i-test.true
    c.if-not-list_one.ensures)

pub returns-then-not-list_one-clause-full : goal.returns-then-not-list_one-clause-full
returns-then-not-list_one-clause-full c = λ no. record {
  count = c.loop-i.i;
  inside = from_inside c.args.first c.args.count c.loop-i.i c.loop-i-test.true;
  mid = with_zeros c.loop-i.sectors;
  more = places_in c.loop-i.places;
  added = c.loop-i.invariant;
  full = c.if-not-list_one.ensures.full refl;
  none = logical_from c.args.first c.args.count c.loop-i.i c.from.result (with_zeros c.loop-i.sectors) (places_in c.loop-i.places) c.from.ensures
      c.loop-i-test.true (c.if-not-list_one.ensures.none refl);
}
