-- What holds of the spelling of every table of volumes.
use Rattle.std.proofs.Common.{◌≡◌, ℕ, zero, suc, ◌+◌, ◌-◌, ◌*◌, ◌/◌, ◌%◌, ◌<◌, ◌≤◌, ◌&&◌, Bool, true, false, List, [], ◌∷◌, Option, Some, None, length, take}
use Rattle.std.proofs.Common.{take_all, drop, get_or}
use Rattle.std.proofs.Common.{replicate, refl, sym, ap, ◌∙◌, subst, ⊎_elim, arith}
use Rattle.std.proofs.lemmas.Bool.{cases_lt}
use Rattle.std.proofs.lemmas.List.{length-replicate, take-replicate, get_or-replicate, get_or_past, ext_get_or}
use Rattle.std.proofs.lemmas.Nat.{div_below, mod_below}
use Rattle.extents.specs.declared.owned.Owned.{Owned}
use Rattle.extents.specs.declared.record.Record.{Record}
use Rattle.extents.specs.declared.volume_table.VolumeTable.{VolumeTable}
use Rattle.extents.specs.Cells.{cell, extent_cell, SpellRecords, OwnerHasRoom, SayDirty}
use Rattle.extents.specs.Checks.{AreCleanBeyond}
use Rattle.extents.specs.ExtentMaps.{is_dirty}
use Rattle.layout_map.specs.declared.format.Format.{Format}
use Rattle.layout_map.specs.declared.format.Format.TheVariants.{One, Two}
use Rattle.extents.specs.Owners.{owner_of, HasPlaces}
use Rattle.extents.specs.TableLaw.{IsEmpty, IsOfFormat}
use Rattle.extents.specs.TableSpelling.{Entry, entries_in, entry_bytes, no_entry, zeros, record_bytes, record_sector, extent_sector, first_sector, sector_of}
use Rattle.extents.specs.TableSpelling.{spelling, table_sectors, Spell}
use Rattle.extents.specs.Versions.{IsVersion, IsVersionIn, fresh_version, tells_dirty, version_byte, most_volumes, record_width, records_a_sector}
use Rattle.extents.specs.Versions.{record_sectors, table_length}
use Rattle.extents.specs.VolumeTables.{record_of, AreFlags, IsShort, IsVolumeTable}
use Rattle.extents.proofs.Bytes.{length-zeros, drop-zeros}
use Rattle.extents.proofs.Cells.{length-cells_of}
use Rattle.extents.proofs.Same.{same_record, same_table}
use Rattle.extents.proofs.Sectors.{spelling_at, length-spelling, sector_of_records, sector_of_extents, spelled_by, table_first, table_records, table_extents}
use Rattle.extents.proofs.Sectors.{table_room, table_version, table_short, table_few, table_all_records, table_all_extents, table_entries_long}
use Rattle.extents.proofs.Entries.{dirty_is, entry_at, mark_is, spelled_dirty}
use Rattle.extents.proofs.FirstSectors.{byte_of_large, byte_of_small, first_byte, length-first_sector, version_is_one}
use Rattle.extents.proofs.Versions.{numbers_fit, width_all, records_all, cell_room, table_length_is}
use Rattle.extents.proofs.Spelled.{length-record_bytes, length-entry_bytes, marked_is, not_used, name_read, blocks_read, first_of_zeros}
use Rattle.extents.proofs.Spelled.{number_read, one_owner_by, place_read}
use Rattle.extents.proofs.Tables.{table_from}
use Rattle.extents.specs.declared.volume_table.TheConstants.{MOST_VOLUMES}
use Rattle.layout_map.specs.declared.sizes.TheConstants.{MOST_EXTENTS}

-- ---- a table fills the sectors of its version

length-record_sector : (version : ℕ) (records : List (Option Record)) (s : ℕ) → length records ≡ MOST_VOLUMES
    → ((volume : ℕ) → IsShort version (record_of records volume)) → s < record_sectors version
    → length (record_sector version records s) ≡ 512
unfolding record_sector
length-record_sector version records s long short below =
    length-cells_of (record_bytes version) (record_width version) None (records_a_sector version) 1 (record_sectors version)
    (let some = (numbers_fit version).each in omega arith) [] records
    (omega (arith, records_all version, (numbers_fit version).volumes, long)) (λ i within. length-record_bytes version (record_of records i) (short i)) s below
    ∙ width_all version

length-extent_sector : (entries : List Entry) (s : ℕ) → length entries ≡ MOST_EXTENTS → s < 8 → length (extent_sector entries s) ≡ 512
unfolding extent_sector
length-extent_sector entries s long below =
    length-cells_of entry_bytes 4 no_entry 128 1 8 (omega arith) [] entries (omega (arith, long)) (λ i within. length-entry_bytes (get_or entries i no_entry))
    s below

pub length-sector_of : (version : ℕ) (records : List (Option Record)) (entries : List Entry) (k : ℕ) → length records ≡ MOST_VOLUMES
    → length entries ≡ MOST_EXTENTS
    → ((volume : ℕ) → IsShort version (record_of records volume)) → k < table_length version → length (sector_of version records entries k) ≡ 512
length-sector_of version records entries zero all_records all_extents short below = length-first_sector version
length-sector_of version records entries (suc k) all_records all_extents short below =
    let all = table_length_is version in
    ⊎_elim
    (λ (small : k < record_sectors version). ap length (sector_of_records version records entries (suc k) k (omega arith) small)
    ∙ length-record_sector version records k all_records short small)
    (λ (large : record_sectors version ≤ k).
    ap length (sector_of_extents version records entries (suc k) (k - record_sectors version) (omega arith))
    ∙ length-extent_sector entries (k - record_sectors version) all_extents (omega arith))
    (cases_lt k (record_sectors version))

pub fills : (table : VolumeTable) → (length (table_sectors table) ≡ table_length table.version)
    × ((number : ℕ) → number < table_length table.version → length (get_or (table_sectors table) number []) ≡ 512)
fills table =
    let entries = entries_in table in
    let all_records = table_all_records table.records table.extents table.is_table in
    let short = table_short table.records table.extents table.is_table in (
      length-spelling table.version table.records entries,
      λ number below. ap length (spelling_at table.version table.records entries number below)
          ∙ length-sector_of table.version table.records entries number all_records (table_entries_long table) short below,
    )

-- ---- sectors spell one table

-- bytes spell one record of a version
one_record : (version : ℕ) (bytes : List ℕ) (first second : Option Record) → IsShort version first → IsShort version second → bytes ≡ record_bytes version first
    → bytes ≡ record_bytes version second
    → first ≡ second
one_record version bytes None second short other_short is_first is_second =
    sym (not_used version bytes second is_second (ap (λ (xs : List ℕ). get_or xs 0 0) is_first ∙ first_of_zeros (record_width version)))
one_record version bytes (Some used) None short other_short is_first is_second =
    not_used version bytes (Some used) is_first (ap (λ (xs : List ℕ). get_or xs 0 0) is_second ∙ first_of_zeros (record_width version))
one_record version bytes (Some used) (Some other) short other_short is_first is_second =
    let n = get_or bytes 0 0 in
    ap Some (same_record used other
    (sym (name_read version bytes used n n is_first refl refl) ∙ name_read version bytes other n n is_second refl refl)
    (sym (blocks_read version bytes used (short used refl) is_first) ∙ blocks_read version bytes other (other_short other refl) is_second))

-- 4 bytes spell one owner
one_owner : (bytes : List ℕ) (first second : Option Owned) (marked other_marked : Bool) → OwnerHasRoom first → OwnerHasRoom second
    → bytes ≡ entry_bytes (first, marked) → bytes ≡ entry_bytes (second, other_marked) → first ≡ second
one_owner bytes first second marked other_marked room other_room is_first is_second =
    one_owner_by first second
    (sym (number_read bytes first marked room is_first) ∙ number_read bytes second other_marked other_room is_second)
    (sym (place_read bytes first marked room is_first) ∙ place_read bytes second other_marked other_room is_second)

-- the cell of an extent of a table
entry_cell : (sectors : List (List ℕ)) (table : VolumeTable) → Spell sectors table → (number : ℕ) → number < MOST_EXTENTS
    → extent_cell table.version sectors number ≡ entry_bytes (owner_of table.extents number, tells_dirty table.version && is_dirty table.dirty number)
entry_cell sectors table is number below =
    table_extents sectors table is number below
    ∙ ap entry_bytes (entry_at table.version table.extents table.dirty number
    (omega (arith, below, table_all_extents table.records table.extents table.is_table)))

-- the first sector is of one version of the format
one_version : (format : Format) (sectors : List (List ℕ)) (first second : VolumeTable) → IsOfFormat format first → IsOfFormat format second
    → Spell sectors first → Spell sectors second → first.version ≡ second.version
one_version format sectors first second of_format other_of_format is_first is_second =
    version_is_one format first.version second.version (table_version first.records first.extents first.is_table, of_format)
    (table_version second.records second.extents second.is_table, other_of_format)
    (sym (first_byte (get_or sectors 0 []) first.version (table_first sectors first is_first))
    ∙ first_byte (get_or sectors 0 []) second.version (table_first sectors second is_second))

-- sectors spell one table of a version
pub same_spelled : (sectors : List (List ℕ)) (first second : VolumeTable) → first.version ≡ second.version → Spell sectors first → Spell sectors second
    → first ≡ second
same_spelled sectors first second same_version is_first is_second =
    same_table first second same_version
    (ext_get_or None first.records second.records (records_long ∙ sym other_records_long) (λ k within. ⊎_elim
    (λ (below : k < most_volumes first.version).
    one_record first.version (cell (record_width first.version) (records_a_sector first.version) 1 sectors k) (record_of first.records k)
    (record_of second.records k)
    (table_short first.records first.extents first.is_table k) (other_short k)
    (table_records sectors first is_first k below) (spelled k below))
    (λ (past : most_volumes first.version ≤ k). table_few first.records first.extents first.is_table k past
    ∙ sym (table_few second.records second.extents second.is_table k (other_past k past)))
    (cases_lt k (most_volumes first.version))))
    (ext_get_or None first.extents second.extents (extents_long ∙ sym other_extents_long) (λ k within.
    let below : k < MOST_EXTENTS = omega (arith, within, extents_long) in
    one_owner (extent_cell first.version sectors k) (owner_of first.extents k) (owner_of second.extents k)
    (tells_dirty first.version && is_dirty first.dirty k) (tells_dirty second.version && is_dirty second.dirty k)
    (table_room first.records first.extents first.is_table k) (table_room second.records second.extents second.is_table k)
    (entry_cell sectors first is_first k below)
    (ap (λ (v : ℕ). extent_cell v sectors k) same_version ∙ entry_cell sectors second is_second k below)))
    (dirty_is second.version sectors second.extents second.dirty first.dirty other_extents_long
    (table_room second.records second.extents second.is_table) second.flags (table_extents sectors second is_second)
    (subst (λ (v : ℕ). SayDirty v sectors first.dirty) same_version
    (spelled_dirty first.version sectors first.extents first.dirty extents_long (table_room first.records first.extents first.is_table)
    (table_extents sectors first is_first) first.flags)))
  where
    other_short : (volume : ℕ) → IsShort first.version (record_of second.records volume)
    other_short = subst (λ (v : ℕ). (volume : ℕ) → IsShort v (record_of second.records volume)) (sym same_version)
        (table_short second.records second.extents second.is_table)

    spelled : SpellRecords first.version sectors second.records
    spelled = subst (λ (v : ℕ). SpellRecords v sectors second.records) (sym same_version) (table_records sectors second is_second)

    other_past : (k : ℕ) → most_volumes first.version ≤ k → most_volumes second.version ≤ k
    other_past k past = let same = ap most_volumes same_version in omega arith

    records_long : length first.records ≡ MOST_VOLUMES
    records_long = table_all_records first.records first.extents first.is_table

    other_records_long : length second.records ≡ MOST_VOLUMES
    other_records_long = table_all_records second.records second.extents second.is_table

    extents_long : length first.extents ≡ MOST_EXTENTS
    extents_long = table_all_extents first.records first.extents first.is_table

    other_extents_long : length second.extents ≡ MOST_EXTENTS
    other_extents_long = table_all_extents second.records second.extents second.is_table

-- and in a set of a format one of any
pub one_table : (format : Format) (sectors : List (List ℕ)) (first second : VolumeTable) → IsOfFormat format first → IsOfFormat format second
    → Spell sectors first → Spell sectors second → first ≡ second
one_table format sectors first second of_format other_of_format is_first is_second =
    same_spelled sectors first second (one_version format sectors first second of_format other_of_format is_first is_second) is_first is_second

-- ---- the empty table

take-zeros : (m n : ℕ) → m ≤ n → take m (zeros n) ≡ zeros m
unfolding zeros
take-zeros m n within = take-replicate m n 0 within

-- the version of a set that was just made, whose first byte is 0
fresh_byte : (format : Format) → version_byte (fresh_version format) ≡ 0
fresh_byte One = byte_of_small 1 (omega arith)
fresh_byte Two = byte_of_large 3 refl

fresh_is : (format : Format) → IsVersionIn format (fresh_version format)
fresh_is One = ((omega arith, omega arith), refl)
fresh_is Two = ((omega arith, omega arith), refl)

-- the sectors of the empty table
unfoldable zero_sectors : (version : ℕ) → List (List ℕ)
zero_sectors version = replicate (table_length version) (zeros 512)

zero_sector : (version k : ℕ) → k < table_length version → get_or (zero_sectors version) k [] ≡ zeros 512
unfolding zero_sectors
zero_sector version k below = get_or-replicate (table_length version) k (zeros 512) [] below

length-zero_sectors : (version : ℕ) → length (zero_sectors version) ≡ table_length version
unfolding zero_sectors
length-zero_sectors version = length-replicate (table_length version) (zeros 512)

-- a cell of sectors of zeros
cell_of_zeros : (version width per first count number : ℕ) → 0 < per → number < count * per → first + count ≤ table_length version
    → width * (number % per) + width ≤ 512
    → cell width per first (zero_sectors version) number ≡ zeros width
cell_of_zeros version width per first count number some within sectors room =
    let below : number / per < count = div_below number per count some within in
    ap (λ (xs : List ℕ). take width (drop (width * (number % per)) xs)) (zero_sector version (first + number / per) (omega arith))
    ∙ ap (take width) (drop-zeros (width * (number % per)) 512)
    ∙ take-zeros width (512 - width * (number % per)) (omega arith)

zero_record : (version number : ℕ) → number < most_volumes version
    → cell (record_width version) (records_a_sector version) 1 (zero_sectors version) number ≡ zeros (record_width version)
zero_record version number within =
    let all = table_length_is version in
    cell_of_zeros version (record_width version) (records_a_sector version) 1 (record_sectors version) number
    (let some = (numbers_fit version).each in omega arith)
    (omega (arith, within, records_all version)) (omega arith)
    (cell_room version number (record_width version) (records_a_sector version) refl refl)

zero_entry : zeros 4 ≡ entry_bytes no_entry
unfolding zeros entry_bytes
zero_entry = refl

zero_extent : (version number : ℕ) → number < MOST_EXTENTS → extent_cell version (zero_sectors version) number ≡ entry_bytes no_entry
zero_extent version number within =
    let all = table_length_is version in
    let small : number % 128 < 128 = mod_below number 128 (omega arith) in
    cell_of_zeros version 4 128 (1 + record_sectors version) 8 number (omega arith) (omega arith) (omega arith) (omega arith) ∙ zero_entry

-- such a version is spelled by zeros
first_of_zero : (version : ℕ) → version_byte version ≡ 0 → zeros 512 ≡ first_sector version
unfolding zeros first_sector
first_of_zero version is = ap (λ (b : ℕ). b ∷ zeros 511) (sym is)

-- a table with no record, and of which nothing is said of an extent, is spelled by these
spelled_empty : (version : ℕ) (records : List (Option Record)) (entries : List Entry) → version_byte version ≡ 0 → length records ≡ MOST_VOLUMES
    → length entries ≡ MOST_EXTENTS → ((volume : ℕ) → record_of records volume ≡ None)
    → ((extent : ℕ) → extent < MOST_EXTENTS → get_or entries extent no_entry ≡ no_entry) → spelling version records entries ≡ zero_sectors version
spelled_empty version records entries first all_records all_extents no_record all_free =
    sym (spelled_by version records entries (zero_sectors version) all_records all_extents (omega (arith, length-zero_sectors version))
    (λ k within. ap length (zero_sector version k within) ∙ length-zeros 512)
    (zero_sector version 0 (let all = table_length_is version in omega arith) ∙ first_of_zero version first)
    (λ number within. zero_record version number within ∙ ap (record_bytes version) (sym (no_record number)))
    (λ number within. zero_extent version number within ∙ ap entry_bytes (sym (all_free number within))))
    ∙ take_all (table_length version) (zero_sectors version) (omega (arith, length-zero_sectors version))

-- no extent is marked where none is told to be dirty
unmarked : (tells flag : Bool) → (tells ≡ true → flag ≡ false) → (tells && flag) ≡ false
unmarked true flag clean = clean refl
unmarked false flag clean = refl

pub empty_is_zeros : (format : Format) (table : VolumeTable) → IsEmpty format table
    → table_sectors table ≡ replicate (table_length (fresh_version format)) (zeros 512)
unfolding zero_sectors
empty_is_zeros format table empty =
    spelled_empty table.version table.records (entries_in table) (ap version_byte empty.fresh ∙ fresh_byte format)
    (table_all_records table.records table.extents table.is_table) (table_entries_long table) empty.no_record
    (λ extent below. entry_at table.version table.extents table.dirty extent (omega (arith, below, all))
    ∙ ap (λ (o : Option Owned). (o, tells_dirty table.version && is_dirty table.dirty extent)) (empty.all_free extent)
    ∙ ap (λ (b : Bool). (None, b)) (unmarked (tells_dirty table.version) (is_dirty table.dirty extent)
    (λ tells. empty.all_clean tells extent (omega arith) below)))
    ∙ ap (λ (v : ℕ). replicate (table_length v) (zeros 512)) empty.fresh
  where
    all : length table.extents ≡ MOST_EXTENTS
    all = table_all_extents table.records table.extents table.is_table

-- a flag that isn't marked is clean, where it is told
clean_by : (tells flag : Bool) → (tells && flag) ≡ false → tells ≡ true → flag ≡ false
clean_by true flag none tells = none
clean_by false flag none tells = absurd (let no : ⊥ = cc in no)

module _ (format : Format) (table : VolumeTable) (of_format : IsOfFormat format table)
    (is : table_sectors table ≡ zero_sectors (fresh_version format)) where
  sectors : List (List ℕ)
  sectors = zero_sectors (fresh_version format)

  as_long : length (zero_sectors (fresh_version format)) ≡ table_length table.version
  as_long = sym (ap length is) ∙ length-spelling table.version table.records (entries_in table)

  begin : Spell (zero_sectors (fresh_version format)) table
  begin = take_all (table_length table.version) (zero_sectors (fresh_version format)) (omega (arith, as_long)) ∙ sym is

  first : table.version ≡ fresh_version format
  first =
      version_is_one format table.version (fresh_version format) (table_version table.records table.extents table.is_table, of_format) (fresh_is format)
      (sym (first_byte (zeros 512) table.version
      (sym (zero_sector (fresh_version format) 0 (let all = table_length_is (fresh_version format) in omega arith))
      ∙ table_first (zero_sectors (fresh_version format)) table begin))
      ∙ first_of_zeros 512 ∙ sym (fresh_byte format))

  cells : (extent : ℕ) → extent < MOST_EXTENTS → extent_cell table.version (zero_sectors (fresh_version format)) extent ≡ entry_bytes no_entry
  cells extent below =
      ap (λ (v : ℕ). extent_cell v (zero_sectors (fresh_version format)) extent) first ∙ zero_extent (fresh_version format) extent below

  records_long : length table.extents ≡ MOST_EXTENTS
  records_long = table_all_extents table.records table.extents table.is_table

  short : (volume : ℕ) → IsShort (fresh_version format) (record_of table.records volume)
  short = subst (λ (v : ℕ). (volume : ℕ) → IsShort v (record_of table.records volume)) first (table_short table.records table.extents table.is_table)

  spelled : SpellRecords (fresh_version format) (zero_sectors (fresh_version format)) table.records
  spelled = subst (λ (v : ℕ). SpellRecords v (zero_sectors (fresh_version format)) table.records) first
      (table_records (zero_sectors (fresh_version format)) table begin)

  none_has_room : OwnerHasRoom None
  none_has_room owner is_some = absurd (let no : ⊥ = cc in no)

  all_clean : AreCleanBeyond table.version table.dirty 0
  all_clean tells extent least below =
      clean_by (tells_dirty table.version) (is_dirty table.dirty extent)
      (sym (mark_is table.version (zero_sectors (fresh_version format)) table.extents table.dirty records_long
      (table_room table.records table.extents table.is_table) (table_extents (zero_sectors (fresh_version format)) table begin) extent below)
      ∙ marked_is (extent_cell table.version (zero_sectors (fresh_version format)) extent) None false none_has_room (cells extent below)) tells

  zeros_spell_empty : IsEmpty format table
  zeros_spell_empty = record {
    fresh = first;
    no_record = λ volume. ⊎_elim
        (λ (within : volume < most_volumes (fresh_version format)).
        one_record (fresh_version format)
        (cell (record_width (fresh_version format)) (records_a_sector (fresh_version format)) 1 (zero_sectors (fresh_version format)) volume)
        (record_of table.records volume) None (short volume)
        (λ used none. absurd (let no : ⊥ = cc in no)) (spelled volume within) (zero_record (fresh_version format) volume within))
        (λ (past : most_volumes (fresh_version format) ≤ volume).
        table_few table.records table.extents table.is_table volume (let same = ap most_volumes first in omega arith))
        (cases_lt volume (most_volumes (fresh_version format)));
    all_free = λ extent. ⊎_elim
        (λ (within : extent < MOST_EXTENTS).
        one_owner (extent_cell table.version (zero_sectors (fresh_version format)) extent) (owner_of table.extents extent) None
        (tells_dirty table.version && is_dirty table.dirty extent) false
        (table_room table.records table.extents table.is_table extent) none_has_room
        (entry_cell (zero_sectors (fresh_version format)) table begin extent within) (cells extent within))
        (λ (past : MOST_EXTENTS ≤ extent). get_or_past table.extents extent None (omega (arith, records_long)))
        (cases_lt extent MOST_EXTENTS);
    all_clean = all_clean;
  }

pub zeros_are_empty : (format : Format) (table : VolumeTable) → IsOfFormat format table
    → table_sectors table ≡ replicate (table_length (fresh_version format)) (zeros 512) → IsEmpty format table
unfolding zero_sectors
zeros_are_empty format table of_format is = zeros_spell_empty format table of_format is

-- each of a list of one thing is that
each_of : {X : Type 0} (x : X) (n k : ℕ) → get_or (replicate n x) k x ≡ x
each_of x n k = ⊎_elim (λ (within : k < n). get_or-replicate n k x x within)
    (λ (past : n ≤ k). get_or_past (replicate n x) k x (omega (arith, length-replicate n x))) (cases_lt k n)

unfoldable no_records : List (Option Record)
no_records = replicate MOST_VOLUMES None

unfoldable no_owners : List (Option Owned)
no_owners = replicate MOST_EXTENTS None

no_record_at : (k : ℕ) → record_of no_records k ≡ None
unfolding no_records
no_record_at = each_of None MOST_VOLUMES

no_owner_at : (k : ℕ) → owner_of no_owners k ≡ None
unfolding no_owners
no_owner_at = each_of None MOST_EXTENTS

length-no_records : length no_records ≡ MOST_VOLUMES
unfolding no_records
length-no_records = length-replicate {A = Option Record} MOST_VOLUMES None

length-no_owners : length no_owners ≡ MOST_EXTENTS
unfolding no_owners
length-no_owners = length-replicate {A = Option Owned} MOST_EXTENTS None

empty_table : (version : ℕ) → IsVersion version → IsVolumeTable version no_records no_owners
empty_table version is =
    table_from version no_records no_owners is
    (record {
      few = λ volume past. no_record_at volume;
      short =
          λ volume used is. absurd (let none : record_of no_records volume ≡ None = no_record_at volume in let no : ⊥ = cc in no);
    })
    length-no_records length-no_owners
    (λ i j first second at other same. absurd (let none : record_of no_records i ≡ None = no_record_at i in let no : ⊥ = cc in no))
    (record {
      at_most = omega (arith, length-no_owners);
      volumes =
          λ extent volume place at. absurd (let none : owner_of no_owners extent ≡ None = no_owner_at extent in let no : ⊥ = cc in no);
      places = λ volume. (0, none_has_places volume);
    })
  where
    none_has_places : (volume : ℕ) → HasPlaces no_owners volume 0
    none_has_places volume = record {
      extent_at = λ place within. absurd (omega (arith, within));
      below = λ extent place at. absurd (let none : owner_of no_owners extent ≡ None = no_owner_at extent in let no : ⊥ = cc in no);
      once = λ first second place one other. absurd (let none : owner_of no_owners first ≡ None = no_owner_at first in let no : ⊥ = cc in no);
    }

-- the flags of a table of which nothing is told
abbrev fresh_flag : Format → Bool
fresh_flag One = true
fresh_flag Two = false

fresh_flags : (format : Format) → AreFlags (fresh_version format) (replicate MOST_EXTENTS (fresh_flag format))
fresh_flags One = record {
  all_extents = length-replicate {A = Bool} MOST_EXTENTS true;
  all_dirty = λ none extent. each_of true MOST_EXTENTS extent;
}
fresh_flags Two = record {
  all_extents = length-replicate {A = Bool} MOST_EXTENTS false;
  all_dirty = λ none extent. absurd (let no : ⊥ = cc in no);
}

fresh_clean : (format : Format) → AreCleanBeyond (fresh_version format) (replicate MOST_EXTENTS (fresh_flag format)) 0
fresh_clean One tells extent least below = absurd (let no : ⊥ = cc in no)
fresh_clean Two tells extent least below = get_or-replicate MOST_EXTENTS extent false true below

pub empty_exists : (format : Format) → ∥ ((table : VolumeTable) × IsEmpty format table) ∥₁
empty_exists format = ∣ (
  record {
    version = fresh_version format;
    records = no_records;
    extents = no_owners;
    dirty = replicate MOST_EXTENTS (fresh_flag format);
    is_table = ∣ empty_table (fresh_version format) (fresh_is format).0 ∣₁;
    flags = fresh_flags format;
  },
  record { fresh = refl; no_record = no_record_at; all_free = no_owner_at; all_clean = fresh_clean format },
) ∣₁
