use Rattle.std.proofs.Common.{◌≡◌, ◌+◌, ◌-◌, ◌*◌, ◌<◌, ℕ, length, set, ap, ◌∙◌, arith}
use Rattle.extents.specs.Versions.{record_sectors, table_length}
use Rattle.extents.specs.TableSpelling.{entries_in, entry_bytes}
use Rattle.extents.proofs.Bytes.{filled}
use Rattle.extents.proofs.FirstSectors.{first_written}
use Rattle.extents.proofs.Sectors.{wrote_first, wrote_records, wrote_extents, part_short, table_short, table_all_records, table_all_extents, table_room}
use Rattle.extents.proofs.Sectors.{table_version}
use Rattle.std.specs.List.{flat_map}
use Rattle.extents.proofs.Entries.{entries_part, part_has_room}
use Rattle.extents.proofs.Versions.{records_within, table_length_is}
use Rattle.extents.proofs.volume_table.VolumeTable.write_sector.Goals as goal

pub returns-then-number-eq0 : goal.returns-then-number-eq0
returns-then-number-eq0 c =
    let table = c.args.self.now in
    wrote_first table.version table.records (entries_in table) c.args.number _ c.if-number-eq0.true
    (ap (set c.fill.new.self 0) c.version_byte.ensures
    ∙ first_written c.fill.new.self table.version (c.fill.ensures.after (λ y same. cc) ∙ filled (length c.args.to.now) 512 c.told-to))

pub version_byte-requires : goal.version_byte-requires
version_byte-requires c = table_version c.args.self.now.records c.args.self.now.extents c.args.self.now.is_table

pub slice_bounds-write_records-end : goal.slice_bounds-write_records-end
slice_bounds-write_records-end c =
    let some : 0 < c.args.number = let other = c.if-number-eq0.false in omega arith in
    let before : c.args.number < 1 + record_sectors c.args.self.now.version = omega (arith, c.if-number-beyond.true, c.record_sectors-beyond.ensures.number) in
    let all = table_all_records c.args.self.now.records c.args.self.now.extents c.args.self.now.is_table in
    omega (arith, records_within c.args.self.now.version c.args.number c.records_a_sector-each.result c.records_a_sector-each.ensures.number some before)

pub write_records-requires-clause-short : goal.write_records-requires-clause-short
write_records-requires-clause-short c =
    let each = c.records_a_sector-each.result in
    let first = each * (c.args.number - 1) in
    let table = c.args.self.now in
    part_short table.version table.records first (first + each - first) (table_short table.records table.extents table.is_table)

-- the extents of the sector
few : (number beyond : ℕ) (version : ℕ) → number < table_length version → beyond ≡ 1 + record_sectors version → number - beyond < 8
few number beyond version within is = let all = table_length_is version in omega arith

pub overflow_mul-first-else-number-beyond : goal.overflow_mul-first-else-number-beyond
overflow_mul-first-else-number-beyond c = let small = few c.args.number (1 + c.record_sectors-beyond.result) c.args.self.now.version c.requires
    (ap (λ (n : ℕ). 1 + n) c.record_sectors-beyond.ensures.number) in omega arith

pub overflow_add-first-else-number-beyond : goal.overflow_add-first-else-number-beyond
overflow_add-first-else-number-beyond c = let small = few c.args.number (1 + c.record_sectors-beyond.result) c.args.self.now.version c.requires
    (ap (λ (n : ℕ). 1 + n) c.record_sectors-beyond.ensures.number) in omega arith

pub overflow_add-extents : goal.overflow_add-extents
overflow_add-extents c = let small = few c.args.number (1 + c.record_sectors-beyond.result) c.args.self.now.version c.requires
    (ap (λ (n : ℕ). 1 + n) c.record_sectors-beyond.ensures.number) in omega arith

pub offset_bounds-self-first : goal.offset_bounds-self-first
offset_bounds-self-first c = let small = few c.args.number (1 + c.record_sectors-beyond.result) c.args.self.now.version c.requires
    (ap (λ (n : ℕ). 1 + n) c.record_sectors-beyond.ensures.number) in omega arith

pub slice_bounds-extents-end : goal.slice_bounds-extents-end
slice_bounds-extents-end c =
    let small = few c.args.number (1 + c.record_sectors-beyond.result) c.args.self.now.version c.requires
    (ap (λ (n : ℕ). 1 + n) c.record_sectors-beyond.ensures.number) in
    let all = table_all_extents c.args.self.now.records c.args.self.now.extents c.args.self.now.is_table in
    omega arith

pub returns-then-number-beyond : goal.returns-then-number-beyond
returns-then-number-beyond c =
    let table = c.args.self.now in
    let some : 0 < c.args.number = let other = c.if-number-eq0.false in omega arith in
    let before : c.args.number < 1 + record_sectors table.version = omega (arith, c.if-number-beyond.true, c.record_sectors-beyond.ensures.number) in
    wrote_records table.version table.records (entries_in table) c.args.number c.records_a_sector-each.result c.write_records.new.to some before
    c.records_a_sector-each.ensures.number c.write_records.ensures

pub write_entries-requires-clause-room : goal.write_entries-requires-clause-room
write_entries-requires-clause-room c =
    let at = 128 * (c.args.number - (1 + c.record_sectors-beyond.result)) in
    part_has_room c.args.self.now.extents at (at + 128 - at) (table_room c.args.self.now.records c.args.self.now.extents c.args.self.now.is_table)

pub returns-else-number-beyond : goal.returns-else-number-beyond
returns-else-number-beyond c =
    let table = c.args.self.now in
    let at = 128 * (c.args.number - (1 + c.record_sectors-beyond.result)) in
    wrote_extents table.version table.records (entries_in table) c.args.number (1 + c.record_sectors-beyond.result) c.write_entries.new.to
    (ap (λ (n : ℕ). 1 + n) c.record_sectors-beyond.ensures.number) (omega (arith, c.if-number-beyond.false))
    (c.write_entries.ensures ∙ ap (flat_map entry_bytes) (entries_part table.version table.extents table.dirty at (at + 128 - at)))
