-- The table with the new name, and the map as it was, are a table and its map again.
use Rattle.std.proofs.Common.{Some, refl, slice_set, sym, arith}
use Rattle.volume_table.proofs.GrownTables.{clean_as_before, kept_after, renamed_below, renamed_has_places, renamed_is_table}
use Rattle.volume_table.proofs.KeptMaps.{kept_sized}
use Rattle.volume_table.proofs.RenamedVolumes.{rename_differs}
use Rattle.volume_table.proofs.store.renaming.put_name.Goals as goal
use Rattle.extents.specs.SetExtents.{extents_in}

pub set-requires-clause-is_table : goal.set-requires-clause-is_table
set-requires-clause-is_table g c =
    let geometry = c.args.array.now.table.geometry in
    renamed_is_table (extents_in geometry) c.args.table.now c.args.map.now c.args.renaming.volume c.args.renaming.entry
    c.requires.kept c.requires.may

pub returns-clause-kept : goal.returns-clause-kept
returns-clause-kept g c =
    let geometry = c.args.array.now.table.geometry in
    kept_after geometry c.put_table.new.array.table.geometry c.args.table.now c.set.new.self c.args.map.now c.args.map.now
    (slice_set c.args.table.now.records c.args.renaming.volume (Some c.args.renaming.entry))
    c.set.ensures.version (clean_as_before geometry c.args.table.now c.set.new.self c.args.map.now c.set.ensures.dirty c.requires.kept)
    c.requires.kept refl c.set.ensures.extents c.set.ensures.records
    (renamed_has_places (extents_in geometry) c.args.table.now c.args.map.now c.args.renaming.volume c.args.renaming.entry c.requires.kept c.requires.may)
    (c.put_table.ensures.changes c.args.table.now c.spelled-before.ensures (sym c.set.ensures.version)).goes_on.not_older.same_geometry

pub set-requires-clause-of_table : goal.set-requires-clause-of_table
set-requires-clause-of_table g c = renamed_below c.args.table.now.version c.args.table.now.records c.args.renaming.volume c.args.renaming.entry c.requires.may

pub set-requires-clause-most : goal.set-requires-clause-most
set-requires-clause-most g c =
    let geometry = c.args.array.now.table.geometry in
    omega (
      arith,
      kept_sized (extents_in geometry) c.args.table.now c.args.map.now c.requires.kept,
      (extents_in geometry).limits.most,
    )

pub returns-clause-honest : goal.returns-clause-honest
returns-clause-honest g c = c.put_table.ensures.honest

pub returns-clause-records : goal.returns-clause-records
returns-clause-records g c = c.set.ensures.records

pub returns-clause-changes : goal.returns-clause-changes
returns-clause-changes g c = c.put_table.ensures.changes c.args.table.now c.spelled-before.ensures (sym c.set.ensures.version)

pub returns-clause-version : goal.returns-clause-version
returns-clause-version g c = c.set.ensures.version

pub returns-clause-entry : goal.returns-clause-entry
returns-clause-entry g c = λ answered.
    c.put_table.ensures.entry c.args.table.now c.spelled-before.ensures (sym c.set.ensures.version)
    (rename_differs c.args.table.now c.set.new.self c.args.renaming.volume c.args.renaming.entry c.requires.may c.set.ensures.records) answered

pub returns-clause-dirty : goal.returns-clause-dirty
returns-clause-dirty g c = c.set.ensures.dirty
