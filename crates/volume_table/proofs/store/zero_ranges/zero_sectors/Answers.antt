-- One commit makes the blocks zero.
use Rattle.std.proofs.Common.{arith, subst}
use Rattle.layout_map.specs.declared.geometry.Geometry.{Geometry}
use Rattle.array_io.specs.Believed.OpenArray.{array_view}
use Rattle.batch.specs.Places.{AreOfSet}
use Rattle.batch.specs.Zeroed.{zeroed}
use Rattle.batch.proofs.ZeroedSectors.{is_zeroed}
use Rattle.volume_table.proofs.GatheredBlocks.{gathered_zeroed}
use Rattle.volume_table.proofs.store.zero_ranges.zero_sectors.Goals as goal

pub returns-clause-zeroes : goal.returns-clause-zeroes
returns-clause-zeroes g c =
    let sectors = c.args.sectors.now in
    let its = is_zeroed sectors in
    let there = c.requires.placed c.args.at (omega arith) c.requires.some in
    let has = c.requires.gathers.complete c.args.at there.0 (omega arith) c.requires.some there.1 in
    gathered_zeroed (g.B.Bank.honest c.args.array.now.bank) c.args.map.now c.args.volume c.args.at c.args.end (zeroed sectors)
    (array_view c.args.array.now) (array_view c.commit_zero_sectors.new.self) c.commit_zero_sectors.result c.requires.gathers its.apart its.zero
    (subst (λ (geometry : Geometry). AreOfSet geometry (zeroed sectors)) c.requires.same its.of_set) c.requires.placed
    (c.commit_zero_sectors.ensures.commits (omega (arith, has.within)))
