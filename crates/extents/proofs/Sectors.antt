-- The sectors of a table, and what their cells spell.
use Rattle.std.proofs.Common.{◌≡◌, ℕ, zero, suc, ◌+◌, ◌-◌, ◌*◌, ◌<◌, ◌≤◌, Bool, true, false, cond, eqb, ltb, List, [], Option, Some, None, length, take, drop}
use Rattle.std.proofs.Common.{get_or, refl, sym, ap, ◌∙◌, subst, ⊎_elim, arith}
use Rattle.std.specs.List.{flat_map}
use Rattle.std.specs.Option.{is_none}
use Rattle.std.proofs.Props.{props}
use Rattle.std.proofs.Math.Logic.{∥∥₁_elim}
use Rattle.std.proofs.lemmas.Bool.{cases_lt, ne_eqb, le-ltb, lt-ltb}
use Rattle.std.proofs.lemmas.List.{get_or-take, get_or-drop, length-take, length-take-le}
use Rattle.std.proofs.lemmas.List.Sums.{count_by-le-length}
use Rattle.std.proofs.lemmas.List.FromFn.{length-map-range_with_len, get_or-map-range_with_len, fill_by_all}
use Rattle.extents.specs.declared.owned.Owned.{Owned}
use Rattle.extents.specs.declared.record.Record.{Record}
use Rattle.extents.specs.declared.volume_table.VolumeTable.{VolumeTable}
use Rattle.extents.specs.Cells.{SpellRecords, SpellExtents, OwnersHaveRoom, AreRecordsAt, SayDirty, SayOwners}
use Rattle.layout_map.specs.declared.format.Format.{Format}
use Rattle.extents.proofs.Entries.{dirty_is, length-entries_of, spelled_said}
use Rattle.extents.specs.ExtentMaps.{is_of}
use Rattle.extents.specs.TableSpelling.{Entry, entry_bytes, entries_in, no_entry, record_bytes, record_sector, extent_sector, first_sector, sector_of, spelling}
use Rattle.extents.specs.TableSpelling.{Spell}
use Rattle.extents.specs.Versions.{IsVersion, IsVersionIn, is_version_of, most_volumes, record_width, records_a_sector, record_sectors, table_length}
use Rattle.extents.specs.VolumeTables.{record_of, IsShort, AreOfVersion, IsVolumeTable}
use Rattle.extents.proofs.Cells.{cells_of_sectors, sectors_of_cells, cut}
use Rattle.extents.proofs.CountLemmas.{count_of_places}
use Rattle.extents.proofs.Spelled.{length-record_bytes, length-entry_bytes}
use Rattle.extents.proofs.Tables.{all_of_version}
use Rattle.extents.proofs.Versions.{numbers_fit, width_all, records_all, table_length_is}
use Rattle.extents.specs.declared.volume_table.TheConstants.{MOST_VOLUMES}
use Rattle.layout_map.specs.declared.sizes.TheConstants.{MOST_EXTENTS}

pub length-spelling : (version : ℕ) (records : List (Option Record)) (entries : List Entry)
    → length (spelling version records entries) ≡ table_length version
unfolding spelling
length-spelling version records entries = length-map-range_with_len (sector_of version records entries) 0 (table_length version)

pub spelling_at : (version : ℕ) (records : List (Option Record)) (entries : List Entry) (k : ℕ) → k < table_length version
    → get_or (spelling version records entries) k [] ≡ sector_of version records entries k
unfolding spelling
spelling_at version records entries k within = get_or-map-range_with_len (sector_of version records entries) 0 (table_length version) k k [] within
    (omega arith)

-- the sectors are known by each
pub spelling_is : (version : ℕ) (records : List (Option Record)) (entries : List Entry) (sectors : List (List ℕ))
    → length sectors ≡ table_length version
    → ((k : ℕ) → k < table_length version → get_or sectors k [] ≡ sector_of version records entries k) → sectors ≡ spelling version records entries
unfolding spelling
spelling_is version records entries sectors long each = fill_by_all (sector_of version records entries) sectors (table_length version) [] long each

-- after the first sector come those of records
pub sector_of_records : (version : ℕ) (records : List (Option Record)) (entries : List Entry) (k s : ℕ) → k ≡ 1 + s → s < record_sectors version
    → sector_of version records entries k ≡ record_sector version records s
sector_of_records version records entries k s is below =
    let beyond = 1 + record_sectors version in
    let other : eqb k 0 ≡ false = ne_eqb k 0 (λ zero_is. omega arith) in
    let before : ltb k beyond ≡ true = lt-ltb k beyond (omega arith) in
    let number : k - 1 ≡ s = omega arith in
    ap (λ (b : Bool). cond b (first_sector version) (cond (ltb k beyond) (record_sector version records (k - 1)) (extent_sector entries (k - beyond)))) other
    ∙ ap (λ (b : Bool). cond b (record_sector version records (k - 1)) (extent_sector entries (k - beyond))) before
    ∙ ap (record_sector version records) number

-- after those come the sectors of extents
pub sector_of_extents : (version : ℕ) (records : List (Option Record)) (entries : List Entry) (k s : ℕ) → k ≡ 1 + record_sectors version + s
    → sector_of version records entries k ≡ extent_sector entries s
sector_of_extents version records entries k s is =
    let beyond = 1 + record_sectors version in
    let other : eqb k 0 ≡ false = ne_eqb k 0 (λ zero_is. omega arith) in
    let past : ltb k beyond ≡ false = le-ltb k beyond (omega arith) in
    let number : k - beyond ≡ s = omega arith in
    ap (λ (b : Bool). cond b (first_sector version) (cond (ltb k beyond) (record_sector version records (k - 1)) (extent_sector entries (k - beyond)))) other
    ∙ ap (λ (b : Bool). cond b (record_sector version records (k - 1)) (extent_sector entries (k - beyond))) past
    ∙ ap (extent_sector entries) number

-- what is written for one sector
pub wrote_first : (version : ℕ) (records : List (Option Record)) (entries : List Entry) (k : ℕ) (bytes : List ℕ) → k ≡ 0 → bytes ≡ first_sector version
    → bytes ≡ sector_of version records entries k
wrote_first version records entries k bytes first is = is ∙ ap (sector_of version records entries) (sym first)

pub wrote_records : (version : ℕ) (records : List (Option Record)) (entries : List Entry) (k each : ℕ) (bytes : List ℕ) → 0 < k
    → k < 1 + record_sectors version → each ≡ records_a_sector version
    → bytes ≡ flat_map (record_bytes version) (take (each * (k - 1) + each - each * (k - 1)) (drop (each * (k - 1)) records))
    → bytes ≡ sector_of version records entries k
unfolding record_sector
wrote_records version records entries k each bytes some below as_many is =
    is ∙ ap (flat_map (record_bytes version)) (sym (cut (each * (k - 1)) each records))
    ∙ ap (λ (n : ℕ). flat_map (record_bytes version) (take n (drop (n * (k - 1)) records))) as_many
    ∙ sym (sector_of_records version records entries k (k - 1) (omega arith) (omega arith))

pub wrote_extents : (version : ℕ) (records : List (Option Record)) (entries : List Entry) (k beyond : ℕ) (bytes : List ℕ)
    → beyond ≡ 1 + record_sectors version → beyond ≤ k
    → bytes ≡ flat_map entry_bytes (take (128 * (k - beyond) + 128 - 128 * (k - beyond)) (drop (128 * (k - beyond)) entries))
    → bytes ≡ sector_of version records entries k
unfolding extent_sector
wrote_extents version records entries k beyond bytes place past is =
    is ∙ ap (flat_map entry_bytes) (sym (cut (128 * (k - beyond)) 128 entries))
    ∙ sym (sector_of_extents version records entries k (k - beyond) (omega arith))

-- names that are no longer than those of the version, in a part of the records
pub part_short : (version : ℕ) (records : List (Option Record)) (at n : ℕ) → ((volume : ℕ) → IsShort version (record_of records volume))
    → (number : ℕ) → number < length (take n (drop at records)) → IsShort version (get_or (take n (drop at records)) number None)
part_short version records at n short number within =
    let small : number < n = omega (arith, length-take n (drop at records)) in
    subst (IsShort version) (sym (get_or-take n (drop at records) number None small ∙ get_or-drop at records number None)) (short (at + number))

-- sectors that begin with these
abbrev pub Begin : (version : ℕ) → List (Option Record) → List Entry → List (List ℕ) → Type 0
Begin version records entries sectors = take (table_length version) sectors ≡ spelling version records entries

module _ (version : ℕ) (records : List (Option Record)) (entries : List Entry) (sectors : List (List ℕ)) (all_records : length records ≡ MOST_VOLUMES)
    (all_extents : length entries ≡ MOST_EXTENTS) where
  some_each : 0 < records_a_sector version
  some_each = let some = (numbers_fit version).each in omega arith

  enough : record_sectors version * records_a_sector version ≤ length records
  enough = omega (arith, records_all version, (numbers_fit version).volumes, all_records)

  -- what is spelled is spelled cell by cell
  spelled_at : Begin version records entries sectors → (k : ℕ) → k < table_length version → get_or sectors k [] ≡ sector_of version records entries k
  spelled_at is k within =
      sym (get_or-take (table_length version) sectors k [] within) ∙ ap (λ (xs : List (List ℕ)). get_or xs k []) is
      ∙ spelling_at version records entries k within

  pub spelled_first : Begin version records entries sectors → get_or sectors 0 [] ≡ first_sector version
  spelled_first is = spelled_at is 0 (let long = table_length_is version in omega arith)

  pub spelled_records : ((number : ℕ) → IsShort version (record_of records number)) → Begin version records entries sectors
      → SpellRecords version sectors records
  unfolding record_sector
  spelled_records short is number below =
      cells_of_sectors (record_bytes version) (record_width version) None (records_a_sector version) 1 (record_sectors version) some_each sectors records enough
      (λ i within. length-record_bytes version (record_of records i) (short i))
      (λ s within. spelled_at is (1 + s) (let long = table_length_is version in omega arith) ∙ sector_of_records version records entries (1 + s) s refl within)
      number (omega (arith, records_all version))

  pub spelled_extents : Begin version records entries sectors → SpellExtents version sectors entries
  unfolding extent_sector
  spelled_extents is =
      cells_of_sectors entry_bytes 4 no_entry 128 (1 + record_sectors version) 8 (omega arith) sectors entries (omega (arith, all_extents))
      (λ i within. length-entry_bytes (get_or entries i no_entry))
      (λ s within. spelled_at is (1 + record_sectors version + s) (let long = table_length_is version in omega arith)
      ∙ sector_of_extents version records entries (1 + record_sectors version + s) s refl)

  -- what is spelled cell by cell is spelled
  pub spelled_by : table_length version ≤ length sectors → ((k : ℕ) → k < table_length version → length (get_or sectors k []) ≡ 512)
      → get_or sectors 0 [] ≡ first_sector version
      → SpellRecords version sectors records → SpellExtents version sectors entries → Begin version records entries sectors
  unfolding record_sector extent_sector
  spelled_by enough_sectors long first by_record by_extent =
      spelling_is version records entries (take (table_length version) sectors) (length-take-le (table_length version) sectors enough_sectors)
      (λ k within. get_or-take (table_length version) sectors k [] within ∙ each k within)
    where
      record_part : (s : ℕ) → s < record_sectors version → get_or sectors (1 + s) [] ≡ record_sector version records s
      record_part = sectors_of_cells (record_bytes version) (record_width version) None (records_a_sector version) 1 (record_sectors version) some_each sectors
          records enough
          (λ s below. long (1 + s) (let all = table_length_is version in omega arith) ∙ sym (width_all version))
          (λ number below. by_record number (omega (arith, records_all version)))

      extent_part : (s : ℕ) → s < 8 → get_or sectors (1 + record_sectors version + s) [] ≡ extent_sector entries s
      extent_part = sectors_of_cells entry_bytes 4 no_entry 128 (1 + record_sectors version) 8 (omega arith) sectors entries (omega (arith, all_extents))
          (λ s below. long (1 + record_sectors version + s) (let all = table_length_is version in omega arith)) by_extent

      each : (k : ℕ) → k < table_length version → get_or sectors k [] ≡ sector_of version records entries k
      each zero within = first
      each (suc j) within = ⊎_elim
          (λ (small : j < record_sectors version).
          let is : suc j ≡ 1 + j = omega arith in
          ap (λ (k : ℕ). get_or sectors k []) is ∙ record_part j small ∙ sym (sector_of_records version records entries (suc j) j is small))
          (λ (large : record_sectors version ≤ j).
          let s = j - record_sectors version in
          let is : suc j ≡ 1 + record_sectors version + s = omega arith in
          let all = table_length_is version in
          ap (λ (k : ℕ). get_or sectors k []) is ∙ extent_part s (omega arith) ∙ sym (sector_of_extents version records entries (suc j) s is))
          (cases_lt j (record_sectors version))

-- ---- what a table has

room_of : {version : ℕ} (records : List (Option Record)) (extents : List (Option Owned)) → IsVolumeTable version records extents → OwnersHaveRoom extents
room_of records extents table number owner at =
    let its = table.map.places owner.volume in
    let below = its.1.below number owner.place at in
    let few = count_by-le-length (is_of owner.volume) extents in
    record {
      volume = omega (arith, table.map.volumes number owner.volume owner.place at);
      place = omega (arith, below, count_of_places extents owner.volume its.0 its.1, few, table.all_extents);
    }

pub table_room : {version : ℕ} (records : List (Option Record)) (extents : List (Option Owned)) → ∥ IsVolumeTable version records extents ∥₁
    → OwnersHaveRoom extents
table_room records extents table = ∥∥₁_elim table (hlevel props) (room_of records extents)

pub table_all_records : {version : ℕ} (records : List (Option Record)) (extents : List (Option Owned)) → ∥ IsVolumeTable version records extents ∥₁
    → length records ≡ MOST_VOLUMES
table_all_records records extents table = ∥∥₁_elim table (hlevel props) (λ one. one.all_records)

pub table_all_extents : {version : ℕ} (records : List (Option Record)) (extents : List (Option Owned)) → ∥ IsVolumeTable version records extents ∥₁
    → length extents ≡ MOST_EXTENTS
table_all_extents records extents table = ∥∥₁_elim table (hlevel props) (λ one. one.all_extents)

pub table_version : {version : ℕ} (records : List (Option Record)) (extents : List (Option Owned)) → ∥ IsVolumeTable version records extents ∥₁
    → IsVersion version
table_version records extents table = ∥∥₁_elim table (hlevel props) (λ one. one.is_version)

pub table_short : {version : ℕ} (records : List (Option Record)) (extents : List (Option Owned)) → ∥ IsVolumeTable version records extents ∥₁ → (volume : ℕ)
    → IsShort version (record_of records volume)
table_short records extents table = ∥∥₁_elim table (hlevel props) (λ one. one.of_version.short)

is_none_none : {X : Type 0} (one : Option X) → is_none one ≡ true → one ≡ None
is_none_none None none = refl
is_none_none (Some x) none = absurd (let no : ⊥ = cc in no)

none_said : {version : ℕ} (records : List (Option Record)) (extents : List (Option Owned)) → IsVolumeTable version records extents → (volume : ℕ)
    → most_volumes version ≤ volume
    → is_none (record_of records volume) ≡ true
none_said records extents table volume past = ap is_none (table.of_version.few volume past)

pub table_few : {version : ℕ} (records : List (Option Record)) (extents : List (Option Owned)) → ∥ IsVolumeTable version records extents ∥₁ → (volume : ℕ)
    → most_volumes version ≤ volume
    → record_of records volume ≡ None
table_few records extents table volume past = is_none_none (record_of records volume)
    (∥∥₁_elim table (hlevel props) (λ one. none_said records extents one volume past))

pub table_entries_long : (table : VolumeTable) → length (entries_in table) ≡ MOST_EXTENTS
table_entries_long table = length-entries_of table.version table.extents table.dirty ∙ table_all_extents table.records table.extents table.is_table

-- ---- what the sectors of a table spell

pub table_first : (sectors : List (List ℕ)) (table : VolumeTable) → Spell sectors table → get_or sectors 0 [] ≡ first_sector table.version
table_first sectors table is =
    spelled_first table.version table.records (entries_in table) sectors (table_all_records table.records table.extents table.is_table)
    (table_entries_long table) is

-- what was read of the first sector is the version
pub version_of_table : (format : Format) (sectors : List (List ℕ)) (table : VolumeTable) (read : Option ℕ)
    → ((version : ℕ) → IsVersionIn format version → get_or sectors 0 [] ≡ first_sector version → read ≡ Some version)
    → is_version_of format table.version ≡ true
    → Spell sectors table → read ≡ Some table.version
version_of_table format sectors table read exact of_format is =
    exact table.version (table_version table.records table.extents table.is_table, of_format) (table_first sectors table is)

pub table_records : (sectors : List (List ℕ)) (table : VolumeTable) → Spell sectors table → SpellRecords table.version sectors table.records
table_records sectors table is =
    spelled_records table.version table.records (entries_in table) sectors (table_all_records table.records table.extents table.is_table)
    (table_entries_long table)
    (table_short table.records table.extents table.is_table) is

pub table_extents : (sectors : List (List ℕ)) (table : VolumeTable) → Spell sectors table → SpellExtents table.version sectors (entries_in table)
table_extents sectors table is =
    spelled_extents table.version table.records (entries_in table) sectors (table_all_records table.records table.extents table.is_table)
    (table_entries_long table) is

pub table_owners_said : (sectors : List (List ℕ)) (table : VolumeTable) → Spell sectors table → SayOwners table.version sectors table.extents
table_owners_said sectors table is =
    spelled_said table.version sectors table.extents table.dirty (table_all_extents table.records table.extents table.is_table)
    (table_room table.records table.extents table.is_table) (table_extents sectors table is)

pub table_records_at : (sectors : List (List ℕ)) (table : VolumeTable) → Spell sectors table → AreRecordsAt table.version sectors table.records
table_records_at sectors table is number within = record {
  spelled = table_records sectors table is number;
  few = table_few table.records table.extents table.is_table number;
  short = table_short table.records table.extents table.is_table number;
}

-- what was read of a table's sectors is the table's
pub read_of_table : (sectors : List (List ℕ)) (table : VolumeTable) (version : ℕ) (read : Option (List (Option Record))) → version ≡ table.version
    → ((records : List (Option Record)) → length records ≡ MOST_VOLUMES → AreRecordsAt version sectors records → read ≡ Some records) → Spell sectors table
    → read ≡ Some table.records
read_of_table sectors table version read same exact is =
    exact table.records (table_all_records table.records table.extents table.is_table)
    (subst (λ (v : ℕ). AreRecordsAt v sectors table.records) (sym same) (table_records_at sectors table is))

pub owners_of_table : (sectors : List (List ℕ)) (table : VolumeTable) (version : ℕ) (read : Option (List (Option Owned))) → version ≡ table.version
    → ((extents : List (Option Owned)) → length extents ≡ MOST_EXTENTS → OwnersHaveRoom extents → SayOwners version sectors extents → read ≡ Some extents)
    → Spell sectors table → read ≡ Some table.extents
owners_of_table sectors table version read same exact is =
    exact table.extents (table_all_extents table.records table.extents table.is_table) (table_room table.records table.extents table.is_table)
    (subst (λ (v : ℕ). SayOwners v sectors table.extents) (sym same) (table_owners_said sectors table is))

pub dirty_of_table : (sectors : List (List ℕ)) (table : VolumeTable) (version : ℕ) (read : List Bool) → version ≡ table.version → SayDirty version sectors read
    → Spell sectors table → read ≡ table.dirty
dirty_of_table sectors table version read same said is =
    dirty_is table.version sectors table.extents table.dirty read (table_all_extents table.records table.extents table.is_table)
    (table_room table.records table.extents table.is_table) table.flags (table_extents sectors table is)
    (subst (λ (v : ℕ). SayDirty v sectors read) same said)

-- what was read is of its version
pub read_of_version : (version : ℕ) (sectors : List (List ℕ)) (records : List (Option Record)) → length records ≡ MOST_VOLUMES
    → AreRecordsAt version sectors records → AreOfVersion version records
read_of_version version sectors records long read = all_of_version version records long (λ volume below past. (read volume below).few past)
    (λ volume below. (read volume below).short)

-- what was read is spelled
pub read_is_spelled : (version : ℕ) (sectors : List (List ℕ)) (records : List (Option Record)) → AreRecordsAt version sectors records
    → SpellRecords version sectors records
read_is_spelled version sectors records read number below = (read number (let most = (numbers_fit version).volumes in omega arith)).spelled below
