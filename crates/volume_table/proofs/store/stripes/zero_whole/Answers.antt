-- Each commit makes more whole stripes zero.
use Rattle.std.proofs.Common.{inl, inr, Err, sym, ◌∙◌, ap, subst, arith}
use Rattle.std.proofs.lemmas.Result.{err_from_is_err_and}
use Rattle.layout_map.specs.declared.geometry.Geometry.{Geometry}
use Rattle.array_io.specs.Believed.OpenArray.{array_view}
use Rattle.extents.specs.ExtentMaps.{HasPlace, place_of}
use Rattle.extents.specs.SetExtents.{extents_in}
use Rattle.volume_table.specs.ZeroedRanges.{ZeroesInTurn}
use Rattle.volume_table.proofs.ZeroedRanges.{range_begins, range_ends, range_goes_on}
use Rattle.volume_table.proofs.store.stripes.zero_whole.Goals as goal

pub loop-at-init : goal.loop-at-init
loop-at-init g c = record {
  least = omega arith;
  most = c.requires.order;
  whole = c.requires.whole;
  zeroed = range_begins (g.B.Bank.honest c.args.array.now.bank) c.args.map.now c.args.volume c.args.first (array_view c.args.array.now);
}

pub gather_stripes-end-requires-clause-placed : goal.gather_stripes-end-requires-clause-placed
gather_stripes-end-requires-clause-placed g c block least most = c.requires.placed block (omega (arith, least, c.loop-at.invariant.least)) most

pub zero_stripes-requires-clause-placed : goal.zero_stripes-requires-clause-placed
zero_stripes-requires-clause-placed g c block least most =
    subst (λ (geometry : Geometry). HasPlace c.args.map.now c.args.volume (place_of (extents_in geometry) block)) (sym c.loop-at.invariant.zeroed.same)
    (c.requires.placed block (omega (arith, least, c.loop-at.invariant.least)) (omega (arith, most, c.gather_stripes-end.ensures.most)))

pub returns-in_err-zero_stripes-clause-zeroes : goal.returns-in_err-zero_stripes-clause-zeroes
returns-in_err-zero_stripes-clause-zeroes g c =
    let p = err_from_is_err_and c.from_residual.result c.from_residual.ensures.1 in
    subst (ZeroesInTurn (g.B.Bank.honest c.args.array.now.bank) (extents_in c.args.array.now.table.geometry) c.args.map.now c.args.volume c.args.first
    c.args.last (array_view c.args.array.now) (array_view c.zero_stripes.new.array))
    (sym (p.1 ∙ ap (λ s. Err s) p.2))
    (range_ends (g.B.Bank.honest c.args.array.now.bank) (g.B.Bank.honest c.loop-at.array.bank) c.args.map.now c.args.volume c.args.first c.loop-at.at
    (array_view c.args.array.now) (array_view c.loop-at.array) c.loop-at.invariant.zeroed c.gather_stripes-end.result c.args.last
    (array_view c.zero_stripes.new.array) c.in_err-zero_stripes.field-0.0 c.gather_stripes-end.ensures.least c.gather_stripes-end.ensures.most
    c.in_err-zero_stripes.ensures.zeroes)

pub loop-at-preserved : goal.loop-at-preserved
loop-at-preserved g c = record {
  least = omega (arith, c.loop-at.invariant.least, c.gather_stripes-end.ensures.least);
  most = c.gather_stripes-end.ensures.most;
  whole = elim c.loop-at.invariant.whole [
    | inl none ↦ absurd (omega (arith, none, c.loop-at-test.true))
    | inr (two, first, last) ↦ inr (two, c.gather_stripes-end.ensures.rest, last)
  ];
  zeroed = range_goes_on (g.B.Bank.honest c.args.array.now.bank) (g.B.Bank.honest c.loop-at.array.bank) c.args.map.now c.args.volume c.args.first c.loop-at.at
      (array_view c.args.array.now) (array_view c.loop-at.array) c.loop-at.invariant.zeroed (g.B.Bank.honest c.zero_stripes.new.array.bank)
      c.gather_stripes-end.result (array_view c.zero_stripes.new.array) c.gather_stripes-end.ensures.least c.in_ok-zero_stripes.ensures.honest.0
      c.in_ok-zero_stripes.ensures.honest.1 (g.met.B.Bank.true_to c.zero_stripes.new.array.bank) c.in_ok-zero_stripes.ensures.zeroes;
}
