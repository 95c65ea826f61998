-- The three parts, one after another.
use Rattle.std.proofs.Common.{◌≡◌, ◌≤◌, length, Err, Ok, sym, ◌∙◌, ap, subst, arith}
use Rattle.std.proofs.lemmas.Result.{err_from_is_err_and}
use Rattle.layout_map.specs.declared.geometry.Geometry.{Geometry}
use Rattle.array_io.specs.Believed.OpenArray.{array_view}
use Rattle.extents.specs.ExtentMaps.{HasPlace, place_of}
use Rattle.extents.specs.SetExtents.{extents_in}
use Rattle.volume_table.specs.ZeroedRanges.{AreWholeStripes, ZeroesInTurn}
use Rattle.volume_table.proofs.ZeroedRanges.{part_ends, part_goes_on, part_is_last, range_begins, zeroes_geometry}
use Rattle.volume_table.proofs.store.zero_ranges.zero_range.Goals as goal

pub zero_part-requires-clause-placed : goal.zero_part-requires-clause-placed
zero_part-requires-clause-placed g c block least most =
    c.requires.placed block least (omega (arith, most, c.whole_stripes-whole.ensures.order, c.whole_stripes-whole.ensures.most))

pub returns-in_err-zero_part-clause-zeroes : goal.returns-in_err-zero_part-clause-zeroes
returns-in_err-zero_part-clause-zeroes g c =
    let p = err_from_is_err_and c.from_residual.result c.from_residual.ensures.1 in
    let old = array_view c.args.array.now in
    let honest = g.B.Bank.honest c.args.array.now.bank in
    subst (ZeroesInTurn honest (extents_in c.args.array.now.table.geometry) c.args.map.now c.args.volume c.args.first c.args.last old
    (array_view c.zero_part.new.array))
    (sym (p.1 ∙ ap (λ s. Err s) p.2))
    (part_ends honest honest c.args.map.now c.args.volume c.args.first c.args.first old old
    (range_begins honest c.args.map.now c.args.volume c.args.first old) c.whole_stripes-whole.result.first c.args.last (array_view c.zero_part.new.array)
    c.in_err-zero_part.field-0.0 (omega (arith, c.whole_stripes-whole.ensures.order, c.whole_stripes-whole.ensures.most)) c.in_err-zero_part.ensures.zeroes)

pub zero_whole-requires-clause-sized : goal.zero_whole-requires-clause-sized
zero_whole-requires-clause-sized g c =
    subst (λ (geometry : Geometry). length c.args.map.now ≤ (extents_in geometry).count)
    (sym (zeroes_geometry _ _ _ _ _ _ _ _ (Ok tt) c.in_ok-zero_part.ensures.zeroes)) c.requires.sized

pub zero_whole-requires-clause-placed : goal.zero_whole-requires-clause-placed
zero_whole-requires-clause-placed g c block least most =
    subst (λ (geometry : Geometry). HasPlace c.args.map.now c.args.volume (place_of (extents_in geometry) block))
    (sym (zeroes_geometry _ _ _ _ _ _ _ _ (Ok tt) c.in_ok-zero_part.ensures.zeroes))
    (c.requires.placed block (omega (arith, least, c.whole_stripes-whole.ensures.least)) (omega (arith, most, c.whole_stripes-whole.ensures.most)))

pub zero_whole-requires-clause-whole : goal.zero_whole-requires-clause-whole
zero_whole-requires-clause-whole g c =
    subst (λ (geometry : Geometry). AreWholeStripes geometry c.whole_stripes-whole.result.first c.whole_stripes-whole.result.end)
    (sym (zeroes_geometry _ _ _ _ _ _ _ _ (Ok tt) c.in_ok-zero_part.ensures.zeroes)) c.whole_stripes-whole.ensures.whole

pub returns-in_err-zero_whole-clause-zeroes : goal.returns-in_err-zero_whole-clause-zeroes
returns-in_err-zero_whole-clause-zeroes g c =
    let p = err_from_is_err_and c.from_residual-in_err-zero_whole.result c.from_residual-in_err-zero_whole.ensures.1 in
    let old = array_view c.args.array.now in
    let mid = array_view c.zero_part.new.array in
    let honest = g.B.Bank.honest c.args.array.now.bank in
    let still = g.B.Bank.honest c.zero_part.new.array.bank in
    subst (ZeroesInTurn honest (extents_in c.args.array.now.table.geometry) c.args.map.now c.args.volume c.args.first c.args.last old
    (array_view c.zero_whole.new.array))
    (sym (p.1 ∙ ap (λ s. Err s) p.2))
    (part_ends honest still c.args.map.now c.args.volume c.args.first c.whole_stripes-whole.result.first old mid
    (part_goes_on honest honest c.args.map.now c.args.volume c.args.first c.args.first old old
    (range_begins honest c.args.map.now c.args.volume c.args.first old) still c.whole_stripes-whole.result.first mid c.in_ok-zero_part.ensures.honest.0
    c.in_ok-zero_part.ensures.honest.1 c.in_ok-zero_part.ensures.zeroes)
    c.whole_stripes-whole.result.end c.args.last (array_view c.zero_whole.new.array) c.in_err-zero_whole.field-0.0 c.whole_stripes-whole.ensures.most
    c.in_err-zero_whole.ensures.zeroes)

-- the geometry stays
same_after : (first second third : Geometry) → second ≡ first → third ≡ second → third ≡ first
same_after first second third one two = two ∙ one

pub zero_part-requires-2-clause-sized : goal.zero_part-requires-2-clause-sized
zero_part-requires-2-clause-sized g c =
    subst (λ (geometry : Geometry). length c.args.map.now ≤ (extents_in geometry).count)
    (sym (same_after c.args.array.now.table.geometry c.zero_part.new.array.table.geometry c.zero_whole.new.array.table.geometry
    (zeroes_geometry _ _ _ _ _ _ _ _ (Ok tt) c.in_ok-zero_part.ensures.zeroes) (zeroes_geometry _ _ _ _ _ _ _ _ (Ok tt) c.in_ok-zero_whole.ensures.zeroes)))
    c.requires.sized

pub zero_part-requires-2-clause-placed : goal.zero_part-requires-2-clause-placed
zero_part-requires-2-clause-placed g c block least most =
    subst (λ (geometry : Geometry). HasPlace c.args.map.now c.args.volume (place_of (extents_in geometry) block))
    (sym (same_after c.args.array.now.table.geometry c.zero_part.new.array.table.geometry c.zero_whole.new.array.table.geometry
    (zeroes_geometry _ _ _ _ _ _ _ _ (Ok tt) c.in_ok-zero_part.ensures.zeroes) (zeroes_geometry _ _ _ _ _ _ _ _ (Ok tt) c.in_ok-zero_whole.ensures.zeroes)))
    (c.requires.placed block (omega (arith, least, c.whole_stripes-whole.ensures.least, c.whole_stripes-whole.ensures.order)) most)

pub returns-clause-zeroes : goal.returns-clause-zeroes
returns-clause-zeroes g c =
    let old = array_view c.args.array.now in
    let first = array_view c.zero_part.new.array in
    let second = array_view c.zero_whole.new.array in
    let honest = g.B.Bank.honest c.args.array.now.bank in
    let still = g.B.Bank.honest c.zero_part.new.array.bank in
    let then = g.B.Bank.honest c.zero_whole.new.array.bank in
    part_is_last honest then c.args.map.now c.args.volume c.args.first c.whole_stripes-whole.result.end old second
    (part_goes_on honest still c.args.map.now c.args.volume c.args.first c.whole_stripes-whole.result.first old first
    (part_goes_on honest honest c.args.map.now c.args.volume c.args.first c.args.first old old
    (range_begins honest c.args.map.now c.args.volume c.args.first old) still c.whole_stripes-whole.result.first first c.in_ok-zero_part.ensures.honest.0
    c.in_ok-zero_part.ensures.honest.1 c.in_ok-zero_part.ensures.zeroes)
    then c.whole_stripes-whole.result.end second c.in_ok-zero_whole.ensures.honest.0 c.in_ok-zero_whole.ensures.honest.1 c.in_ok-zero_whole.ensures.zeroes)
    c.args.last (array_view c.zero_part-2.new.array) c.zero_part-2.result c.zero_part-2.ensures.zeroes
