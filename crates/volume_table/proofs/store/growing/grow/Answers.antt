-- The table with the new record, and the map with the new extents, are a table and its map again; the new blocks are made zero before the table says of them.
use Rattle.std.proofs.Common.{◌∙◌, ◌-◌, Some, slice_set, subst, sym, arith}
use Rattle.std.proofs.lemmas.Result.{err_from_is_err_and}
use Rattle.extents.specs.SetExtents.{extents_in}
use Rattle.extents.specs.ExtentMaps.{IsTaken}
use Rattle.extents.proofs.Blocks.{more_take_more}
use Rattle.extents.proofs.Versions.{most_volumes_most}
use Rattle.volume_table.proofs.GrownTables.{clean_as_before, counted_by, kept_after, grown_has_places, grown_is_table, grown_is_placed, zeroed_in_part}
use Rattle.volume_table.proofs.GrownTables.{zeroed_then_put}
use Rattle.volume_table.proofs.KeptMaps.{kept_sized}
use Rattle.array_io.specs.Believed.OpenArray.{array_view}
use Rattle.volume_table.proofs.store.growing.grow.Goals as goal

pub set-requires-clause-is_table : goal.set-requires-clause-is_table
set-requires-clause-is_table g c =
    let geometry = c.args.array.now.table.geometry in
    let growth = c.args.growth in
    grown_is_table (extents_in geometry) c.args.table.now c.args.map.now c.take.new.self growth.volume growth.first
    (c.extents_for.result - c.extents_for-2.result) growth.entry
    c.requires.kept c.requires.may
    (counted_by c.of-extents.result (extents_in geometry) c.extents_for.result c.extents_for-2.result growth.entry.blocks growth.first c.of-extents.ensures
    c.extents_for.ensures c.extents_for-2.ensures)
    c.take.ensures

pub zero_blocks-requires-clause-placed : goal.zero_blocks-requires-clause-placed
zero_blocks-requires-clause-placed g c =
    let geometry = c.args.array.now.table.geometry in
    let growth = c.args.growth in
    grown_is_placed (extents_in geometry) c.args.table.now c.args.map.now c.take.new.self growth.volume growth.first
    (c.extents_for.result - c.extents_for-2.result) growth.entry
    c.requires.kept c.requires.may
    (counted_by c.of-extents.result (extents_in geometry) c.extents_for.result c.extents_for-2.result growth.entry.blocks growth.first c.of-extents.ensures
    c.extents_for.ensures c.extents_for-2.ensures)
    c.take.ensures

pub returns-in_err-zero_blocks-clause-kept : goal.returns-in_err-zero_blocks-clause-kept
returns-in_err-zero_blocks-clause-kept g c =
    let geometry = c.args.array.now.table.geometry in
    let growth = c.args.growth in
    kept_after geometry c.zero_blocks.new.array.table.geometry c.args.table.now c.set.new.self c.args.map.now c.take.new.self
    (slice_set c.args.table.now.records growth.volume (Some growth.entry))
    c.set.ensures.version (clean_as_before geometry c.args.table.now c.set.new.self c.args.map.now c.set.ensures.dirty c.requires.kept)
    c.requires.kept c.take.ensures.extents c.set.ensures.extents c.set.ensures.records
    (grown_has_places (extents_in geometry) c.args.table.now c.args.map.now c.take.new.self growth.volume growth.first
    (c.extents_for.result - c.extents_for-2.result) growth.entry c.requires.kept c.requires.may
    (counted_by c.of-extents.result (extents_in geometry) c.extents_for.result c.extents_for-2.result growth.entry.blocks growth.first c.of-extents.ensures
    c.extents_for.ensures c.extents_for-2.ensures)
    c.take.ensures)
    c.zero_blocks.ensures.changes.goes_on.not_older.same_geometry

pub returns-in_err-zero_blocks-clause-changes : goal.returns-in_err-zero_blocks-clause-changes
returns-in_err-zero_blocks-clause-changes g c =
    let growth = c.args.growth in
    let p = err_from_is_err_and c.from_residual.result c.from_residual.ensures.1 in
    rw (p.1, p.2) (zeroed_in_part (extents_in c.args.array.now.table.geometry) (g.B.Bank.honest c.args.array.now.bank) c.args.table.now c.set.new.self
    c.take.new.self growth.volume growth.first
    growth.entry.blocks
    (array_view c.args.array.now)
    (array_view c.zero_blocks.new.array)
    c.in_err-zero_blocks.field-0.0 c.set.ensures.extents c.in_err-zero_blocks.ensures.changes)

pub returns-clause-kept : goal.returns-clause-kept
returns-clause-kept g c =
    let geometry = c.args.array.now.table.geometry in
    let growth = c.args.growth in
    kept_after geometry c.put_table.new.array.table.geometry c.args.table.now c.set.new.self c.args.map.now c.take.new.self
    (slice_set c.args.table.now.records growth.volume (Some growth.entry))
    c.set.ensures.version (clean_as_before geometry c.args.table.now c.set.new.self c.args.map.now c.set.ensures.dirty c.requires.kept)
    c.requires.kept c.take.ensures.extents c.set.ensures.extents c.set.ensures.records
    (grown_has_places (extents_in geometry) c.args.table.now c.args.map.now c.take.new.self growth.volume growth.first
    (c.extents_for.result - c.extents_for-2.result) growth.entry c.requires.kept c.requires.may
    (counted_by c.of-extents.result (extents_in geometry) c.extents_for.result c.extents_for-2.result growth.entry.blocks growth.first c.of-extents.ensures
    c.extents_for.ensures c.extents_for-2.ensures)
    c.take.ensures)
    ((c.put_table.ensures.changes c.args.table.now c.spelled-before.ensures (sym c.set.ensures.version)).goes_on.not_older.same_geometry
    ∙ c.zero_blocks.ensures.changes.goes_on.not_older.same_geometry)

pub returns-clause-changes : goal.returns-clause-changes
returns-clause-changes g c =
    let growth = c.args.growth in
    let mid = array_view c.zero_blocks.new.array in
    let new = array_view c.put_table.new.array in
    zeroed_then_put (extents_in c.args.array.now.table.geometry) (g.B.Bank.honest c.args.array.now.bank) (g.B.Bank.honest c.zero_blocks.new.array.bank)
    (λ fair. c.zero_blocks.ensures.honest.0 fair)
    c.args.table.now c.set.new.self c.take.new.self growth.volume growth.first growth.entry.blocks
    (array_view c.args.array.now) mid new c.put_table.result c.set.ensures.extents
    (λ fair. g.met.B.Bank.true_to _ (c.zero_blocks.ensures.honest.0 fair)) c.in_ok-zero_blocks.ensures.changes
    (c.put_table.ensures.changes c.args.table.now c.spelled-before.ensures (sym c.set.ensures.version))

pub overflow_sub-extents_for : goal.overflow_sub-extents_for
overflow_sub-extents_for g c =
    let growth = c.args.growth in
    let more = more_take_more c.of-extents.result.blocks growth.first growth.entry.blocks c.of-extents.result.limits.some
    (omega (arith, c.requires.may.more)) in
    omega (arith, more, c.extents_for.ensures, c.extents_for-2.ensures)

pub take-requires-clause-volume : goal.take-requires-clause-volume
take-requires-clause-volume g c = omega (arith, c.requires.may.of_table, most_volumes_most c.args.table.now.version)

pub take-requires-clause-free : goal.take-requires-clause-free
take-requires-clause-free g c =
    let geometry = c.args.array.now.table.geometry in
    let growth = c.args.growth in
    omega (
      arith,
      c.requires.may.fits,
      counted_by c.of-extents.result (extents_in geometry) c.extents_for.result c.extents_for-2.result growth.entry.blocks growth.first
          c.of-extents.ensures c.extents_for.ensures c.extents_for-2.ensures,
    )

pub set-requires-clause-of_table : goal.set-requires-clause-of_table
set-requires-clause-of_table g c = omega (arith, c.requires.may.of_table, most_volumes_most c.args.table.now.version)

pub set-requires-clause-most : goal.set-requires-clause-most
set-requires-clause-most g c =
    let extents = extents_in c.args.array.now.table.geometry in
    omega (arith, c.take.ensures.extents, kept_sized extents c.args.table.now c.args.map.now c.requires.kept, extents.limits.most)

pub zero_blocks-requires-clause-sized : goal.zero_blocks-requires-clause-sized
zero_blocks-requires-clause-sized g c = omega (
  arith,
  c.take.ensures.extents,
  kept_sized (extents_in c.args.array.now.table.geometry) c.args.table.now
      c.args.map.now c.requires.kept,
)

pub zero_blocks-requires-clause-order : goal.zero_blocks-requires-clause-order
zero_blocks-requires-clause-order g c = omega (arith, c.requires.may.more)

pub zero_blocks-requires-clause-within : goal.zero_blocks-requires-clause-within
zero_blocks-requires-clause-within g c = c.args.growth.entry.most

pub returns-in_err-zero_blocks-clause-honest : goal.returns-in_err-zero_blocks-clause-honest
returns-in_err-zero_blocks-clause-honest g c = c.zero_blocks.ensures.honest

pub returns-in_err-zero_blocks-clause-version : goal.returns-in_err-zero_blocks-clause-version
returns-in_err-zero_blocks-clause-version g c = c.set.ensures.version

pub returns-clause-version : goal.returns-clause-version
returns-clause-version g c = c.set.ensures.version

pub returns-in_err-zero_blocks-clause-records : goal.returns-in_err-zero_blocks-clause-records
returns-in_err-zero_blocks-clause-records g c = c.set.ensures.records

pub returns-in_err-zero_blocks-clause-taken : goal.returns-in_err-zero_blocks-clause-taken
returns-in_err-zero_blocks-clause-taken g c =
    let geometry = c.args.array.now.table.geometry in
    let growth = c.args.growth in
    subst (λ n. IsTaken c.args.table.now.dirty c.args.map.now c.take.new.self growth.volume n)
    (counted_by c.of-extents.result (extents_in geometry) c.extents_for.result c.extents_for-2.result growth.entry.blocks growth.first c.of-extents.ensures
    c.extents_for.ensures c.extents_for-2.ensures)
    c.take.ensures

pub returns-clause-honest : goal.returns-clause-honest
returns-clause-honest g c = (
  λ fair. c.put_table.ensures.honest.0 (c.zero_blocks.ensures.honest.0 fair),
  λ fair. c.zero_blocks.ensures.honest.1 (c.put_table.ensures.honest.1 fair),
)

pub returns-clause-records : goal.returns-clause-records
returns-clause-records g c = c.set.ensures.records

pub returns-clause-taken : goal.returns-clause-taken
returns-clause-taken g c =
    let geometry = c.args.array.now.table.geometry in
    let growth = c.args.growth in
    subst (λ n. IsTaken c.args.table.now.dirty c.args.map.now c.take.new.self growth.volume n)
    (counted_by c.of-extents.result (extents_in geometry) c.extents_for.result c.extents_for-2.result growth.entry.blocks growth.first c.of-extents.ensures
    c.extents_for.ensures c.extents_for-2.ensures)
    c.take.ensures

pub returns-in_err-zero_blocks-clause-dirty : goal.returns-in_err-zero_blocks-clause-dirty
returns-in_err-zero_blocks-clause-dirty g c = c.set.ensures.dirty

pub returns-clause-dirty : goal.returns-clause-dirty
returns-clause-dirty g c = c.set.ensures.dirty
