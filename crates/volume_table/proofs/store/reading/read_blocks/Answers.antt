use Rattle.std.proofs.Common.{◌<◌, ◌+◌, length, Ok, Err, refl, sym, subst, arith, ◌∙◌}
use Rattle.std.proofs.lemmas.Result.{err_from_is_err_and}
use Rattle.extents.specs.declared.extent_layout.ExtentLayout.{ExtentLayout}
use Rattle.extents.specs.SetExtents.{extents_in}
use Rattle.extents.specs.ExtentMaps.{HasPlace, IsWhere, place_of}
use Rattle.volume_table.specs.ListChanges.{IsSame}
use Rattle.volume_table.proofs.ListChanges.{changes_none}
use Rattle.volume_table.proofs.ReadBlocks.{block_of_set, one_more_block, read_gives, read_on}
use Rattle.std.proofs.lemmas.List.{length-set}
use Rattle.array_io.specs.Believed.OpenArray.{array_view}
use Rattle.volume_table.proofs.store.reading.read_blocks.Goals as goal

pub loop-i-init : goal.loop-i-init
loop-i-init g c = record {
  honest = λ fair. fair;
  still = λ fair. fair;
  changes = changes_none (g.B.Bank.honest c.args.array.now.bank) 0 IsSame IsSame
      (array_view c.args.array.now) (λ V. refl) (λ V. refl);
  gives = λ fair lost V rests j extent below here. absurd (omega (arith, below));
}

pub where_is-requires : goal.where_is-requires
where_is-requires g c =
    let block = c.args.at + c.loop-i.i in
    subst (λ (e : ExtentLayout). HasPlace c.args.map.now c.args.volume (place_of e block)) (sym c.of-extents.ensures)
    (c.requires.placed block (omega arith) (omega arith))

pub read-requires : goal.read-requires
read-requires g c =
    let block = c.args.at + c.loop-i.i in
    block_of_set c.args.array.now.table c.loop-i.array.table c.args.map.now c.args.volume block c.where_is.result
    c.requires.sized
    c.loop-i.invariant.changes.goes_on.not_older.same_geometry (c.requires.placed block (omega arith) (omega arith))
    (subst (λ (e : ExtentLayout). IsWhere e c.args.map.now c.args.volume block c.where_is.result) c.of-extents.ensures c.where_is.ensures)

pub returns-in_err-read-clause-changes : goal.returns-in_err-read-clause-changes
returns-in_err-read-clause-changes g c =
    let old = array_view c.args.array.now in
    let mid = array_view c.loop-i.array in
    let new = array_view c.read.new.self in
    let p = err_from_is_err_and c.from_residual.result c.from_residual.ensures.1 in
    rw (p.1, p.2) (read_on (g.B.Bank.honest c.args.array.now.bank) (g.B.Bank.honest c.loop-i.array.bank) c.loop-i.invariant.honest c.where_is.result old mid new
    c.read.new.to
    (Err c.in_err-read.field-0.0) (λ fair. g.met.B.Bank.true_to _ (c.loop-i.invariant.honest fair)) c.loop-i.invariant.changes c.in_err-read.ensures.reads)

pub loop-i-preserved : goal.loop-i-preserved
loop-i-preserved g c =
    let old = array_view c.args.array.now in
    let mid = array_view c.loop-i.array in
    let new = array_view c.read.new.self in
    let within : c.loop-i.i < length c.loop-i.to = omega arith in
    record {
      honest = λ fair. c.read.ensures.honest.0 (c.loop-i.invariant.honest fair);
      still = λ fair. c.loop-i.invariant.still (c.read.ensures.honest.1 fair);
      changes = read_on (g.B.Bank.honest c.args.array.now.bank) (g.B.Bank.honest c.loop-i.array.bank) c.loop-i.invariant.honest c.where_is.result old mid new
          c.read.new.to (Ok tt)
          (λ fair. g.met.B.Bank.true_to _ (c.loop-i.invariant.honest fair)) c.loop-i.invariant.changes c.in_ok-read.ensures.reads;
      gives = λ fair lost V rests. one_more_block (extents_in c.args.array.now.table.geometry) c.args.map.now c.args.volume c.args.at c.loop-i.i
          c.where_is.result c.loop-i.to V c.read.new.to within
          (c.loop-i.invariant.gives fair lost V rests)
          (subst (λ (e : ExtentLayout). IsWhere e c.args.map.now c.args.volume (c.args.at + c.loop-i.i) c.where_is.result) c.of-extents.ensures
          c.where_is.ensures)
          (read_gives (g.B.Bank.honest c.args.array.now.bank) (g.B.Bank.honest c.loop-i.array.bank) c.loop-i.invariant.honest c.where_is.result old mid new
          c.read.new.to c.loop-i.invariant.changes
          c.in_ok-read.ensures.reads fair lost V rests);
    }

pub returns-clause-gives : goal.returns-clause-gives
returns-clause-gives g c = λ fair lost V rests j extent below here. c.loop-i.invariant.gives fair lost V rests j extent (omega arith) here

pub returns-in_err-read-clause-honest : goal.returns-in_err-read-clause-honest
returns-in_err-read-clause-honest g c =
    (λ fair. c.read.ensures.honest.0 (c.loop-i.invariant.honest fair), λ fair. c.loop-i.invariant.still (c.read.ensures.honest.1 fair))

pub returns-in_err-read-clause-gives : goal.returns-in_err-read-clause-gives
returns-in_err-read-clause-gives g c = λ fair.
    let p = err_from_is_err_and c.from_residual.result c.from_residual.ensures.1 in
    rw p.1 tt

pub returns-clause-honest : goal.returns-clause-honest
returns-clause-honest g c = (c.loop-i.invariant.honest, c.loop-i.invariant.still)

pub returns-in_err-read-clause-long : goal.returns-in_err-read-clause-long
returns-in_err-read-clause-long g c = length-set c.loop-i.to c.loop-i.i c.read.new.to ∙ c.loop-i.auto.to

pub returns-clause-long : goal.returns-clause-long
returns-clause-long g c = c.loop-i.auto.to

pub returns-clause-changes : goal.returns-clause-changes
returns-clause-changes g c = c.loop-i.invariant.changes
