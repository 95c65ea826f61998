-- Each step gathers the sectors of blocks of one extent.
use Rattle.std.proofs.Common.{◌≡◌, ◌<◌, ◌≤◌, ◌+◌, ◌-◌, ℕ, sym, ◌∙◌, subst, arith}
use Rattle.layout_map.specs.declared.geometry.Geometry.{Geometry}
use Rattle.layout_map.specs.Placement.{data_sectors_of}
use Rattle.batch.specs.Zeroed.{zeroed}
use Rattle.extents.specs.declared.extent_layout.ExtentLayout.{ExtentLayout}
use Rattle.extents.specs.ExtentMaps.{HasPlace, IsWhere, place_of}
use Rattle.extents.specs.SetExtents.{extents_in}
use Rattle.volume_table.specs.ZeroedRanges.{GathersBlocks}
use Rattle.volume_table.proofs.GatheredBlocks.{blocks_in_set, some_more}
use Rattle.volume_table.proofs.store.zero_ranges.gather_blocks.Goals as goal

pub where_is-first-requires : goal.where_is-first-requires
where_is-first-requires c =
    subst (λ (e : ExtentLayout). HasPlace c.args.map.now c.args.volume (place_of e c.loop-end.end)) (sym c.of-extents.ensures)
    (c.requires.placed c.loop-end.end c.loop-end.invariant.least (omega (arith, c.loop-end-test.true, c.end_of_some-limit.ensures.within)))

-- blocks of one extent, by where the extents of the set lie
one_extent : (geometry : Geometry) (extents : ExtentLayout) (end next : ℕ) → extents ≡ extents_in geometry → end ≤ next
    → ((block : ℕ) → end ≤ block → block < next → place_of extents block ≡ place_of extents end)
    → (block : ℕ) → end ≤ block → block < end + (next - end) → place_of (extents_in geometry) block ≡ place_of (extents_in geometry) end
one_extent geometry extents end next is order one block least below =
    subst (λ (e : ExtentLayout). place_of e block ≡ place_of e end) is (one block least (omega (arith, below, order)))

pub add-requires : goal.add-requires
add-requires c =
    let geometry = c.args.geometry.now in
    let next = c.end_of_extent-next.result in
    subst (λ (set : Geometry). c.where_is-first.result + (next - c.loop-end.end) ≤ data_sectors_of set.members set.chunk set.stripes)
    (sym c.loop-end.invariant.geometry)
    (blocks_in_set geometry c.args.map.now c.args.volume c.loop-end.end (next - c.loop-end.end) c.where_is-first.result c.requires.sized
    (c.requires.placed c.loop-end.end c.loop-end.invariant.least (omega (arith, c.loop-end-test.true, c.end_of_some-limit.ensures.within)))
    (subst (λ (e : ExtentLayout). IsWhere e c.args.map.now c.args.volume c.loop-end.end c.where_is-first.result) c.of-extents.ensures c.where_is-first.ensures)
    (omega (arith, c.end_of_extent-next.ensures.least))
    (one_extent geometry c.of-extents.result c.loop-end.end next c.of-extents.ensures (omega (arith, c.end_of_extent-next.ensures.least))
    c.end_of_extent-next.ensures.one))

pub loop-end-preserved : goal.loop-end-preserved
loop-end-preserved c =
    let geometry = c.args.geometry.now in
    let next = c.end_of_extent-next.result in
    let back : c.loop-end.end + (next - c.loop-end.end) ≡ next = omega (arith, c.end_of_extent-next.ensures.least) in
    record {
      least = omega (arith, c.loop-end.invariant.least, c.end_of_extent-next.ensures.least);
      most = omega (arith, c.end_of_extent-next.ensures.most, c.end_of_some-most.ensures.within);
      none = λ same. absurd (omega (arith, same, c.loop-end.invariant.least, c.end_of_extent-next.ensures.least));
      geometry = c.add.ensures.geometry ∙ c.loop-end.invariant.geometry;
      gathers = subst (λ (n : ℕ). GathersBlocks (extents_in geometry) c.args.map.now c.args.volume c.args.at n (zeroed c.add.new.self)) back
          (some_more (extents_in geometry) c.args.map.now c.args.volume c.args.at c.loop-end.end (next - c.loop-end.end) c.where_is-first.result
          (zeroed c.loop-end.sectors) (zeroed c.add.new.self) c.loop-end.invariant.gathers c.loop-end.invariant.least
          (c.requires.placed c.loop-end.end c.loop-end.invariant.least (omega (arith, c.loop-end-test.true, c.end_of_some-limit.ensures.within)))
          (subst (λ (e : ExtentLayout). IsWhere e c.args.map.now c.args.volume c.loop-end.end c.where_is-first.result) c.of-extents.ensures
          c.where_is-first.ensures)
          (one_extent geometry c.of-extents.result c.loop-end.end next c.of-extents.ensures (omega (arith, c.end_of_extent-next.ensures.least))
          c.end_of_extent-next.ensures.one)
          (c.add.ensures.staged c.if-not-add.false));
    }
