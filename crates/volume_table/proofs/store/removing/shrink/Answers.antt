-- The table without the record, and the map without its extents, are a table and its map again.
use Rattle.volume_table.proofs.GrownTables.{clean_but_marked, kept_after, shrunk_has_places, shrunk_is_table}
use Rattle.std.proofs.Common.{None, slice_set, sym, ◌∙◌, arith}
use Rattle.volume_table.proofs.KeptMaps.{kept_sized}
use Rattle.volume_table.proofs.store.removing.shrink.Goals as goal
use Rattle.extents.specs.SetExtents.{extents_in}

pub set-requires-clause-is_table : goal.set-requires-clause-is_table
set-requires-clause-is_table g c =
    let geometry = c.args.array.now.table.geometry in
    rw (c.mark_dirty.ensures.version, c.mark_dirty.ensures.records) (shrunk_is_table (extents_in geometry) c.args.table.now c.args.map.now c.give_back.new.self
    c.args.volume
    c.requires.kept c.requires.of_table c.give_back.ensures)

pub returns-clause-kept : goal.returns-clause-kept
returns-clause-kept g c =
    let geometry = c.args.array.now.table.geometry in
    kept_after geometry c.put_table.new.array.table.geometry c.args.table.now c.set.new.self c.args.map.now c.give_back.new.self
    (slice_set c.args.table.now.records c.args.volume None)
    (c.set.ensures.version ∙ c.mark_dirty.ensures.version)
    (clean_but_marked geometry c.args.table.now c.set.new.self c.args.map.now c.args.volume
    (rw c.set.ensures.dirty c.mark_dirty.ensures.dirty) c.requires.kept)
    c.requires.kept c.give_back.ensures.extents c.set.ensures.extents (rw (← c.mark_dirty.ensures.records) c.set.ensures.records)
    (shrunk_has_places (extents_in geometry) c.args.table.now c.args.map.now c.give_back.new.self c.args.volume c.requires.kept c.requires.of_table
    c.give_back.ensures)
    (c.put_table.ensures.changes c.args.table.now c.spelled-before.ensures (sym (c.set.ensures.version ∙
    c.mark_dirty.ensures.version))).goes_on.not_older.same_geometry

pub set-requires-clause-of_table : goal.set-requires-clause-of_table
set-requires-clause-of_table g c = c.requires.of_table

pub set-requires-clause-most : goal.set-requires-clause-most
set-requires-clause-most g c =
    let geometry = c.args.array.now.table.geometry in
    omega (
      arith,
      c.give_back.ensures.extents,
      kept_sized (extents_in geometry) c.args.table.now c.args.map.now c.requires.kept,
      (extents_in geometry).limits.most,
    )

pub returns-clause-honest : goal.returns-clause-honest
returns-clause-honest g c = c.put_table.ensures.honest

pub returns-clause-records : goal.returns-clause-records
returns-clause-records g c = rw (← c.mark_dirty.ensures.records) c.set.ensures.records

pub returns-clause-given_back : goal.returns-clause-given_back
returns-clause-given_back g c = c.give_back.ensures

pub returns-clause-changes : goal.returns-clause-changes
returns-clause-changes g c = c.put_table.ensures.changes c.args.table.now c.spelled-before.ensures (sym (c.set.ensures.version ∙ c.mark_dirty.ensures.version))

pub returns-clause-version : goal.returns-clause-version
returns-clause-version g c = c.set.ensures.version ∙ c.mark_dirty.ensures.version

pub returns-clause-marked : goal.returns-clause-marked
returns-clause-marked g c = rw c.set.ensures.dirty c.mark_dirty.ensures.dirty
