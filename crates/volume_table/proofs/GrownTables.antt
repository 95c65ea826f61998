-- The table of volumes and the map of its extents, when a volume gets extents, when it gives its own back, and when it gets another name.
use Rattle.std.proofs.Common.{◌≡◌, ◌≢◌, ◌⊎◌, inl, inr, ⊎_elim, ℕ, ◌+◌, ◌-◌, ◌<◌, ◌≤◌, Bool, List, length, take, slice_set, Option, Some, None, refl, sym, ap}
use Rattle.std.proofs.Common.{true}
use Rattle.extents.specs.Checks.{AreCleanBeyond}
use Rattle.extents.specs.Versions.{is_version_of}
use Rattle.std.proofs.Common.{◌∙◌, subst, Ok, Err, arith}
use Rattle.std.proofs.Props.{props}
use Rattle.std.proofs.Math.Logic.{∥∥₁_elim}
use Rattle.std.proofs.lemmas.Bool.{cases_eq}
use Rattle.std.proofs.lemmas.List.{length-set, length-take, get_or_past, get_or-set_same, get_or-set_other}
use Rattle.std.proofs.lemmas.Option.{none-some, same_Some}
use Rattle.sector_model.specs.declared.refusal.Refusal.{Refusal}
use Rattle.sector_model.specs.Bank.{IsTrueTo}
use Rattle.layout_map.specs.declared.geometry.Geometry.{Geometry}
use Rattle.array_io.specs.Believed.ArrayCalls.{Answer}
use Rattle.array_io.specs.Believed.Views.{ArrayView}
use Rattle.extents.specs.declared.extent_layout.ExtentLayout.{ExtentLayout}
use Rattle.extents.specs.SetExtents.{extents_in}
use Rattle.extents.specs.declared.owned.Owned.{Owned}
use Rattle.extents.specs.declared.record.Record.{Record}
use Rattle.extents.specs.declared.volume_table.VolumeTable.{VolumeTable}
use Rattle.extents.specs.ExtentMaps.{IsExtentMap, IsTaken, IsGivenBack, count_of, free_of, place_of}
use Rattle.extents.specs.ExtentLaws.{TakingKeeps}
use Rattle.extents.specs.Owners.{owner_of, HasPlaces}
use Rattle.extents.specs.VolumeTables.{record_of, extents_for, extents_of, AreDistinct, AreOfVersion, HaveTheirPlaces, IsMarked, IsShort, IsVolumeTable}
use Rattle.extents.specs.VolumeTables.{owners_padded}
use Rattle.extents.specs.TableSpelling.{Spell}
use Rattle.extents.specs.Versions.{most_name_bytes, most_volumes, table_length}
use Rattle.extents.proofs.Blocks.{more_take_more, none_take_none, place_is_below}
use Rattle.extents.proofs.CountLemmas.{count_of_places}
use Rattle.extents.proofs.ExtentLawLemmas.{giving_back_keeps, taking_keeps}
use Rattle.extents.proofs.MapLemmas.{taken_others, given_others, given_none_left}
use Rattle.extents.proofs.OwnerLemmas.{places_by_owner}
use Rattle.extents.proofs.PaddedOwners.{owner_padded, length-padded, take_padded}
use Rattle.extents.proofs.Sectors.{table_all_extents, table_all_records}
use Rattle.volume_table.specs.Admission.{AreKept, IsGrownFrom, IsRenamedFrom, MayGrowTo, MayRename}
use Rattle.volume_table.specs.Volumes.{Block}
use Rattle.volume_table.specs.ListChanges.{ChangesList}
use Rattle.volume_table.specs.StoreChanges.{AllPlaced, Grows, HasTable, IsGrown, IsOfBlocks, IsPartlyZero, IsZeroed, MayGrow, MayPutTable, PutsTable}
use Rattle.volume_table.proofs.FreeLemmas.{table_is_extent_map}
use Rattle.volume_table.proofs.KeptMaps.{found_place, kept_owner}
use Rattle.volume_table.proofs.ListChanges.{changes_both, changes_refused}
use Rattle.volume_table.proofs.TableSizes.{few_volumes, same_first, table_short}
use Rattle.extents.specs.declared.volume_table.TheConstants.{MOST_VOLUMES}
use Rattle.layout_map.specs.declared.sizes.TheConstants.{MOST_EXTENTS}

-- ---- the map that a store keeps

-- it is as long as the set has extents
kept_length : (extents : ExtentLayout) (table : VolumeTable) (owners : List (Option Owned)) → AreKept extents table owners → length owners ≡ extents.count
kept_length extents table owners kept =
    omega (
      arith,
      extents.limits.most,
      ap length kept.same,
      length-take extents.count table.extents,
      table_all_extents table.records table.extents table.is_table,
    )

-- so it has 1,024 at most
pub kept_most : (extents : ExtentLayout) (table : VolumeTable) (owners : List (Option Owned)) → AreKept extents table owners → length owners ≤ MOST_EXTENTS
kept_most extents table owners kept = omega (arith, extents.limits.most, kept_length extents table owners kept)

kept_is_map : (extents : ExtentLayout) (table : VolumeTable) (owners : List (Option Owned)) → AreKept extents table owners
    → IsVolumeTable table.version table.records table.extents → IsExtentMap owners
kept_is_map extents table owners kept is_table =
    subst IsExtentMap (sym kept.same) (table_is_extent_map extents table.version table.records table.extents is_table kept.of_set.free_beyond)

-- a map of so many extents is that of the table whose owners are its own
kept_by_owners : (extents : ExtentLayout) (table : VolumeTable) (owners : List (Option Owned)) → length owners ≡ extents.count
    → table.extents ≡ owners_padded owners → ∥ HaveTheirPlaces extents.blocks table.records (owners_padded owners) ∥₁
    → is_version_of extents.format table.version ≡ true → AreCleanBeyond table.version table.dirty extents.count → AreKept extents table owners
kept_by_owners extents table owners long same placed version clean = record {
  same = sym (take_padded owners) ∙ ap (λ n. take n (owners_padded owners)) long ∙ ap (take extents.count) (sym same);
  of_set = record {
    version = version;
    clean_beyond = clean;
    free_beyond = λ extent beyond.
        ap (λ (its : List (Option Owned)). owner_of its extent) same ∙ owner_padded owners extent
        ∙ get_or_past owners extent None (omega (arith, beyond, long));
    placed = subst (λ (its : List (Option Owned)). ∥ HaveTheirPlaces extents.blocks table.records its ∥₁) (sym same) placed;
  };
}

-- it is so where the table has got its owners from the map, and the set's table may have changed, but not its geometry
pub kept_after : (geometry later : Geometry) (table new : VolumeTable) (owners other : List (Option Owned)) (records : List (Option Record))
    → new.version ≡ table.version → AreCleanBeyond table.version new.dirty (extents_in geometry).count
    → AreKept (extents_in geometry) table owners → length other ≡ length owners → new.extents ≡ owners_padded other → new.records ≡ records
    → ∥ HaveTheirPlaces (extents_in geometry).blocks records (owners_padded other) ∥₁ → later ≡ geometry → AreKept (extents_in later) new other
kept_after geometry later table new owners other records same_version clean kept as_long same same_records placed is =
    subst (λ (its : Geometry). AreKept (extents_in its) new other) (sym is)
    (kept_by_owners (extents_in geometry) new other (as_long ∙ kept_length (extents_in geometry) table owners kept) same
    (subst (λ (its : List (Option Record)). ∥ HaveTheirPlaces (extents_in geometry).blocks its (owners_padded other) ∥₁) (sym same_records) placed)
    (ap (is_version_of (extents_in geometry).format) same_version ∙ kept.of_set.version)
    (subst (λ (v : ℕ). AreCleanBeyond v new.dirty (extents_in geometry).count) (sym same_version) clean))

-- the flags of a table are those of one that has the same
pub clean_as_before : (geometry : Geometry) (table new : VolumeTable) (owners : List (Option Owned)) → new.dirty ≡ table.dirty
    → AreKept (extents_in geometry) table owners → AreCleanBeyond table.version new.dirty (extents_in geometry).count
clean_as_before geometry table new owners same kept =
    subst (λ (dirty : List Bool). AreCleanBeyond table.version dirty (extents_in geometry).count) (sym same) kept.of_set.clean_beyond

-- and of one in which the extents of a volume are dirty besides
pub clean_but_marked : (geometry : Geometry) (table new : VolumeTable) (owners : List (Option Owned)) (number : ℕ)
    → IsMarked table.extents number table.dirty new.dirty
    → AreKept (extents_in geometry) table owners → AreCleanBeyond table.version new.dirty (extents_in geometry).count
clean_but_marked geometry table new owners number marked kept tells extent beyond below =
    marked.others extent (λ place at. none-some _ (sym (kept.of_set.free_beyond extent beyond) ∙ at)) ∙ kept.of_set.clean_beyond tells extent beyond below

-- the owners of a map, and free extents after them, are a map
padded_is_map : (owners : List (Option Owned)) → IsExtentMap owners → IsExtentMap (owners_padded owners)
padded_is_map owners map = record {
  at_most = omega (arith, length-padded owners map.at_most);
  volumes = λ extent volume place at. map.volumes extent volume place (sym (owner_padded owners extent) ∙ at);
  places = λ volume. let its = map.places volume in (its.0, places_by_owner owners (owners_padded owners) volume its.0 (owner_padded owners) its.1);
}

-- ---- a table with one record changed

pub record_here : (records : List (Option Record)) (number : ℕ) (entry : Option Record) → length records ≡ MOST_VOLUMES → number < MOST_VOLUMES
    → record_of (slice_set records number entry) number ≡ entry
record_here records number entry long below = get_or-set_same records number entry None (omega (arith, long, below))

record_else : (records : List (Option Record)) (number other : ℕ) (entry : Option Record) → other ≢ number
    → record_of (slice_set records number entry) other ≡ record_of records other
record_else records number other entry apart = get_or-set_other records number other entry None apart

-- records of a version with one changed are of that version
of_version_with : (version : ℕ) (records : List (Option Record)) (number : ℕ) (entry : Option Record) → AreOfVersion version records
    → length records ≡ MOST_VOLUMES → number < MOST_VOLUMES
    → (entry ≡ None) ⊎ (number < most_volumes version) → IsShort version entry → AreOfVersion version (slice_set records number entry)
of_version_with version records number entry are long below numbered short = record {
  few = λ volume above. elim (cases_eq volume number) [
    | inl same ↦ elim numbered [
      | inl none ↦ ap (record_of (slice_set records number entry)) same ∙ record_here records number entry long below ∙ none
      | inr less ↦ absurd (omega (arith, less, above, same))
    ]
    | inr apart ↦ record_else records number volume entry apart ∙ are.few volume above
  ];
  short = λ volume. elim (cases_eq volume number) [
    | inl same ↦ subst (IsShort version) (sym (ap (record_of (slice_set records number entry)) same ∙ record_here records number entry long below)) short
    | inr apart ↦ subst (IsShort version) (sym (record_else records number volume entry apart)) (are.short volume)
  ];
}

-- the owners of a map and the records of a table, one of them changed, make a table
table_with : (version : ℕ) (records : List (Option Record)) (owners new : List (Option Owned)) (number : ℕ) (entry : Option Record)
    → IsVolumeTable version records owners → number < MOST_VOLUMES → IsExtentMap new
    → (entry ≡ None) ⊎ (number < most_volumes version) → IsShort version entry
    → AreDistinct (slice_set records number entry)
    → IsVolumeTable version (slice_set records number entry) (owners_padded new)
table_with version records owners new number entry table below map numbered short distinct = record {
  is_version = table.is_version;
  of_version = of_version_with version records number entry table.of_version table.all_records below numbered short;
  all_records = length-set records number entry ∙ table.all_records;
  all_extents = length-padded new map.at_most;
  distinct = distinct;
  map = padded_is_map new map;
}

-- The records have their places in the owners of a map in which one volume has the extents that its new record takes, and the others have those that they
-- had.
placed_with : (each : ℕ) (records : List (Option Record)) (owners new : List (Option Owned)) (number : ℕ) (entry : Option Record)
    → length records ≡ MOST_VOLUMES → number < MOST_VOLUMES → HaveTheirPlaces each records owners → HasPlaces new number (extents_of each entry)
    → ((other n : ℕ) → other ≢ number → HasPlaces owners other n → HasPlaces new other n)
    → HaveTheirPlaces each (slice_set records number entry) (owners_padded new)
placed_with each records owners new number entry long below placed its others volume =
    places_by_owner new (owners_padded new) volume (extents_of each (record_of (slice_set records number entry) volume)) (owner_padded new)
    (elim (cases_eq volume number) [
      | inl same ↦
          let here = subst (λ (one : Option Record). HasPlaces new number (extents_of each one)) (sym (record_here records number entry long below)) its in
          subst (λ (v : ℕ). HasPlaces new v (extents_of each (record_of (slice_set records number entry) v))) (sym same) here
      | inr apart ↦
          subst (λ (one : Option Record). HasPlaces new volume (extents_of each one)) (sym (record_else records number volume entry apart))
          (others volume (extents_of each (record_of records volume)) apart (placed volume))
    ])

-- names stay distinct where no other record has the new one's name
distinct_with : (records : List (Option Record)) (number : ℕ) (entry : Record) → length records ≡ MOST_VOLUMES → number < MOST_VOLUMES → AreDistinct records
    → ((other : ℕ) (one : Record) → record_of records other ≡ Some one → one.name.bytes.items ≡ entry.name.bytes.items → other ≡ number)
    → AreDistinct (slice_set records number (Some entry))
distinct_with records number entry long below distinct apart i j first second first_used second_used same = elim (cases_eq i number) [
  | inl i_here ↦ elim (cases_eq j number) [
    | inl j_here ↦ i_here ∙ sym j_here
    | inr j_else ↦ absurd (j_else (apart j second (was j second j_else second_used)
        (sym same ∙ ap (λ (r : Record). r.name.bytes.items) (is i first i_here first_used))))
  ]
  | inr i_else ↦ elim (cases_eq j number) [
    | inl j_here ↦ absurd (i_else (apart i first (was i first i_else first_used)
        (same ∙ ap (λ (r : Record). r.name.bytes.items) (is j second j_here second_used))))
    | inr j_else ↦ distinct i j first second (was i first i_else first_used) (was j second j_else second_used) same
  ]
]
  where
    is : (k : ℕ) (one : Record) → k ≡ number → record_of (slice_set records number (Some entry)) k ≡ Some one → one ≡ entry
    is k one here used = same_Some one entry (sym used ∙ ap (record_of (slice_set records number (Some entry))) here
        ∙ record_here records number (Some entry) long below)

    was : (k : ℕ) (one : Record) → k ≢ number → record_of (slice_set records number (Some entry)) k ≡ Some one → record_of records k ≡ Some one
    was k one else used = sym (record_else records number k (Some entry) else) ∙ used

-- and without a record
distinct_without : (records : List (Option Record)) (number : ℕ) → length records ≡ MOST_VOLUMES → number < MOST_VOLUMES → AreDistinct records
    → AreDistinct (slice_set records number None)
distinct_without records number long below distinct i j first second first_used second_used same =
    distinct i j first second (was i first first_used) (was j second second_used) same
  where
    was : (k : ℕ) (one : Record) → record_of (slice_set records number None) k ≡ Some one → record_of records k ≡ Some one
    was k one used = elim (cases_eq k number) [
      | inl here ↦ absurd (none-some one (sym (ap (record_of (slice_set records number None)) here ∙ record_here records number None long below) ∙ used))
      | inr else ↦ sym (record_else records number k None else) ∙ used
    ]

-- ---- a volume gets extents

-- a volume had the extents of the blocks that it had
extents_before : (each : ℕ) (before : Option Record) (first : ℕ) (entry : Record) → 1 ≤ each → IsGrownFrom before first entry
    → extents_of each before ≡ extents_for each first
extents_before each None first entry some from = none_take_none each first some from
extents_before each (Some one) first entry some from = ap (extents_for each) from.0

-- its record is one of 64
grown_below : (extents : ExtentLayout) (version : ℕ) (records : List (Option Record)) (owners : List (Option Owned)) (number first : ℕ) (entry : Record)
    → MayGrowTo extents version records owners number first entry → number < MOST_VOLUMES
grown_below extents version records owners number first entry may = omega (arith, may.of_table, few_volumes version)

-- n extents are free
grown_enough : (extents : ExtentLayout) (version : ℕ) (records : List (Option Record)) (owners : List (Option Owned)) (number first n : ℕ) (entry : Record)
    → MayGrowTo extents version records owners number first entry → n ≡ extents_for extents.blocks entry.blocks - extents_for extents.blocks first
    → n ≤ free_of owners
grown_enough extents version records owners number first n entry may so_many = omega (arith, so_many, may.fits)

-- it has those of the blocks that it gets
taken_places_of : (extents : ExtentLayout) (table : VolumeTable) (owners new : List (Option Owned)) (number first n : ℕ) (entry : Record)
    → AreKept extents table owners → HaveTheirPlaces extents.blocks table.records table.extents
    → IsVolumeTable table.version table.records table.extents → MayGrowTo extents table.version table.records owners number first entry
    → n ≡ extents_for extents.blocks entry.blocks - extents_for extents.blocks first → IsTaken table.dirty owners new number n
    → HasPlaces new number (extents_for extents.blocks entry.blocks)
taken_places_of extents table owners new number first n entry kept placed is_table may so_many taken =
    let had = extents_of extents.blocks (record_of table.records number) in
    let its : HasPlaces owners number had = places_by_owner table.extents owners number had (kept_owner extents table owners kept) (placed number) in
    let count : count_of owners number ≡ had = count_of_places owners number had its in
    let was : had ≡ extents_for extents.blocks first = extents_before extents.blocks (record_of table.records number) first entry extents.limits.some
    may.from in
    let more : extents_for extents.blocks first ≤ extents_for extents.blocks entry.blocks =
    more_take_more extents.blocks first entry.blocks extents.limits.some (omega (arith, may.more)) in
    let keeps : TakingKeeps table.dirty owners new number n = taking_keeps table.dirty owners new number n (kept_is_map extents table owners kept is_table)
    (grown_below extents table.version table.records owners number first entry may)
    (grown_enough extents table.version table.records owners number first n entry may so_many) taken in
    subst (λ m. HasPlaces new number m) (omega (arith, count, was, so_many, more)) keeps.places

pub grown_is_table : (extents : ExtentLayout) (table : VolumeTable) (owners new : List (Option Owned)) (number first n : ℕ) (entry : Record)
    → AreKept extents table owners
    → MayGrowTo extents table.version table.records owners number first entry
    → n ≡ extents_for extents.blocks entry.blocks - extents_for extents.blocks first → IsTaken table.dirty owners new number n
    → ∥ IsVolumeTable table.version (slice_set table.records number (Some entry)) (owners_padded new) ∥₁
grown_is_table extents table owners new number first n entry kept may so_many taken =
    ∥∥₁_elim table.is_table (hlevel props) (λ is_table. ∣ by_table is_table ∣₁)
  where
    below : number < MOST_VOLUMES
    below = grown_below extents table.version table.records owners number first entry may

    by_table : IsVolumeTable table.version table.records table.extents
        → IsVolumeTable table.version (slice_set table.records number (Some entry)) (owners_padded new)
    by_table is_table =
        table_with table.version table.records table.extents new number (Some entry) is_table below
        (taking_keeps table.dirty owners new number n (kept_is_map extents table owners kept is_table) below
        (grown_enough extents table.version table.records owners number first n entry may so_many) taken).map
        (inr may.of_table) (λ used same. subst (λ (one : Record). length one.name.bytes.items ≤ most_name_bytes table.version) (same_Some entry used same)
        may.short)
        (distinct_with table.records number entry is_table.all_records below is_table.distinct may.apart)

-- each record of it has its places
pub grown_has_places : (extents : ExtentLayout) (table : VolumeTable) (owners new : List (Option Owned)) (number first n : ℕ) (entry : Record)
    → AreKept extents table owners
    → MayGrowTo extents table.version table.records owners number first entry
    → n ≡ extents_for extents.blocks entry.blocks - extents_for extents.blocks first → IsTaken table.dirty owners new number n
    → ∥ HaveTheirPlaces extents.blocks (slice_set table.records number (Some entry)) (owners_padded new) ∥₁
grown_has_places extents table owners new number first n entry kept may so_many taken =
    ∥∥₁_elim table.is_table (hlevel props) (λ is_table. ∥∥₁_elim kept.of_set.placed (hlevel props) (λ placed.
    ∣ placed_with extents.blocks table.records table.extents new number (Some entry) is_table.all_records
    (grown_below extents table.version table.records owners number first entry may) placed
    (taken_places_of extents table owners new number first n entry kept placed is_table may so_many taken)
    (λ other m apart has. taken_others table.dirty owners new number n taken other m apart
    (places_by_owner table.extents owners other m (kept_owner extents table owners kept) has)) ∣₁))

-- each of the new blocks has an extent
pub grown_is_placed : (extents : ExtentLayout) (table : VolumeTable) (owners new : List (Option Owned)) (number first n : ℕ) (entry : Record)
    → AreKept extents table owners
    → MayGrowTo extents table.version table.records owners number first entry
    → n ≡ extents_for extents.blocks entry.blocks - extents_for extents.blocks first → IsTaken table.dirty owners new number n
    → AllPlaced extents new number first entry.blocks
grown_is_placed extents table owners new number first n entry kept may so_many taken block least below =
    found_place new number (place_of extents block)
    (∥∥₁_elim table.is_table (hlevel props) (λ is_table. ∥∥₁_elim kept.of_set.placed (hlevel props) (λ placed.
    ∣ (taken_places_of extents table owners new number first n entry kept placed is_table may so_many taken).extent_at (place_of extents block)
    (place_is_below extents.blocks entry.blocks block extents.limits.some below) ∣₁)))

-- the extents that are taken, counted by the set's own
pub counted_by : (extents its : ExtentLayout) (many few last first : ℕ) → extents ≡ its → many ≡ extents_for extents.blocks last
    → few ≡ extents_for extents.blocks first → many - few ≡ extents_for its.blocks last - extents_for its.blocks first
counted_by extents its many few last first of is was =
    subst (λ (e : ExtentLayout). many - few ≡ extents_for e.blocks last - extents_for e.blocks first) of (omega (arith, is, was))

-- ---- a volume gives its extents back

pub shrunk_is_table : (extents : ExtentLayout) (table : VolumeTable) (owners new : List (Option Owned)) (number : ℕ)
    → AreKept extents table owners → number < MOST_VOLUMES → IsGivenBack owners new number
    → ∥ IsVolumeTable table.version (slice_set table.records number None) (owners_padded new) ∥₁
shrunk_is_table extents table owners new number kept below given = ∥∥₁_elim table.is_table (hlevel props) (λ is_table. ∣ by_table is_table ∣₁)
  where
    by_table : IsVolumeTable table.version table.records table.extents → IsVolumeTable table.version (slice_set table.records number None) (owners_padded new)
    by_table is_table =
        table_with table.version table.records table.extents new number None is_table below
        (giving_back_keeps owners new number (kept_is_map extents table owners kept is_table) given).map
        (inl refl) (λ used is. absurd (none-some used is))
        (distinct_without table.records number is_table.all_records below is_table.distinct)

pub shrunk_has_places : (extents : ExtentLayout) (table : VolumeTable) (owners new : List (Option Owned)) (number : ℕ)
    → AreKept extents table owners → number < MOST_VOLUMES → IsGivenBack owners new number
    → ∥ HaveTheirPlaces extents.blocks (slice_set table.records number None) (owners_padded new) ∥₁
shrunk_has_places extents table owners new number kept below given = ∥∥₁_elim kept.of_set.placed (hlevel props) (λ placed.
    ∣ placed_with extents.blocks table.records table.extents new number None (table_all_records table.records table.extents table.is_table) below placed
    (given_none_left owners new number given)
    (λ other m apart has. given_others owners new number other m given apart
    (places_by_owner table.extents owners other m (kept_owner extents table owners kept) has)) ∣₁)

-- ---- a volume gets another name

-- it had as many extents
extents_renamed : (each : ℕ) (before : Option Record) (entry : Record) → IsRenamedFrom before entry
    → extents_of each before ≡ extents_for each entry.blocks
extents_renamed each None entry from = absurd from
extents_renamed each (Some one) entry from = ap (extents_for each) (sym from)

pub renamed_below : (version : ℕ) (records : List (Option Record)) (number : ℕ) (entry : Record) → MayRename version records number entry
    → number < MOST_VOLUMES
renamed_below version records number entry may = omega (arith, may.of_table, few_volumes version)

pub renamed_is_table : (extents : ExtentLayout) (table : VolumeTable) (owners : List (Option Owned)) (number : ℕ) (entry : Record)
    → AreKept extents table owners
    → MayRename table.version table.records number entry → ∥ IsVolumeTable table.version (slice_set table.records number (Some entry)) (owners_padded owners) ∥₁
renamed_is_table extents table owners number entry kept may = ∥∥₁_elim table.is_table (hlevel props) (λ is_table. ∣ by_table is_table ∣₁)
  where
    below : number < MOST_VOLUMES
    below = renamed_below table.version table.records number entry may

    by_table : IsVolumeTable table.version table.records table.extents
        → IsVolumeTable table.version (slice_set table.records number (Some entry)) (owners_padded owners)
    by_table is_table =
        table_with table.version table.records table.extents owners number (Some entry) is_table below
        (kept_is_map extents table owners kept is_table)
        (inr may.of_table) (λ used same. subst (λ (one : Record). length one.name.bytes.items ≤ most_name_bytes table.version) (same_Some entry used same)
        may.short)
        (distinct_with table.records number entry is_table.all_records below is_table.distinct (λ other one used same. absurd (may.absent other one used same)))

pub renamed_has_places : (extents : ExtentLayout) (table : VolumeTable) (owners : List (Option Owned)) (number : ℕ) (entry : Record)
    → AreKept extents table owners
    → MayRename table.version table.records number entry
    → ∥ HaveTheirPlaces extents.blocks (slice_set table.records number (Some entry)) (owners_padded owners) ∥₁
renamed_has_places extents table owners number entry kept may = ∥∥₁_elim kept.of_set.placed (hlevel props) (λ placed.
    ∣ placed_with extents.blocks table.records table.extents owners number (Some entry) (table_all_records table.records table.extents table.is_table)
    (renamed_below table.version table.records number entry may) placed
    (subst (λ n. HasPlaces owners number n) (extents_renamed extents.blocks (record_of table.records number) entry may.from)
    (places number (extents_of extents.blocks (record_of table.records number)) (placed number)))
    (λ other m apart has. places other m has) ∣₁)
  where
    places : (volume n : ℕ) → HasPlaces table.extents volume n → HasPlaces owners volume n
    places volume n has = places_by_owner table.extents owners volume n (kept_owner extents table owners kept) has

-- ---- the lists on the way

-- an owner list with the same owners has the same blocks
blocks_by_owner : {extents : ExtentLayout} (owners other : List (Option Owned)) (number first last sector : ℕ)
    → ((extent : ℕ) → owner_of other extent ≡ owner_of owners extent)
    → IsOfBlocks extents owners number first last sector → IsOfBlocks extents other number first last sector
blocks_by_owner {extents} owners other number first last sector same is = record {
  block = is.block;
  extent = is.extent;
  least = is.least;
  most = is.most;
  at = same is.extent ∙ is.at;
  is = is.is;
}

partly_by_owner : {extents : ExtentLayout} (owners other : List (Option Owned)) (number first last : ℕ) (before now : List Block)
    → ((extent : ℕ) → owner_of other extent ≡ owner_of owners extent)
    → IsPartlyZero extents owners number first last before now → IsPartlyZero extents other number first last before now
partly_by_owner {extents} owners other number first last before now same partly = record {
  as_long = partly.as_long;
  each = λ sector. ⊎_elim inl (λ cleared. inr (cleared.0, blocks_by_owner owners other number first last sector same cleared.1)) (partly.each sector);
}

zeroed_by_owner : {extents : ExtentLayout} (dirty : List Bool) (owners other : List (Option Owned)) (number first last : ℕ) (before now : List Block)
    → ((extent : ℕ) → owner_of other extent ≡ owner_of owners extent)
    → IsZeroed extents dirty owners number first last before now → IsZeroed extents dirty other number first last before now
unfolding blocks_by_owner
zeroed_by_owner {extents} dirty owners other number first last before now same zeroed = record {
  partly = partly_by_owner owners other number first last before now same zeroed.partly;
  zero = λ sector is is_dirty_extent.
      zeroed.zero sector (blocks_by_owner other owners number first last sector (λ extent. sym (same extent)) is) is_dirty_extent;
}

-- the blocks lie after the table
partly_keeps_table : {extents : ExtentLayout} (first_table : VolumeTable) (owners : List (Option Owned)) (number first last : ℕ) (before now : List Block)
    → IsPartlyZero extents owners number first last before now → Spell before first_table → Spell now first_table
partly_keeps_table {extents} first_table owners number first last before now partly begins =
    same_first (table_length first_table.version) before now partly.as_long (λ sector below. elim (partly.each sector) [
      | inl same ↦ same
      | inr cleared ↦ absurd (omega (arith, below, table_short first_table.version, cleared.1.is, extents.limits.above))
    ]) ∙ begins

may_grow_first : {extents : ExtentLayout} (old table : VolumeTable) (owners : List (Option Owned)) (number first last : ℕ)
    → ((extent : ℕ) → owner_of table.extents extent ≡ owner_of owners extent)
    → (V W : List Block) → IsPartlyZero extents owners number first last V W → MayGrow extents old table number first last V W
may_grow_first {extents} old table owners number first last same V W partly from = inl (partly_by_owner owners table.extents number first last V W same partly)

grown_after : {extents : ExtentLayout} (table : VolumeTable) (owners : List (Option Owned)) (number first last : ℕ)
    → ((extent : ℕ) → owner_of table.extents extent ≡ owner_of owners extent)
    → (V U W : List Block) → IsZeroed extents table.dirty owners number first last V U → HasTable table U W → IsGrown extents table number first last V W
grown_after {extents} table owners number first last same V U W zeroed has =
    record { mid = U; zeroed = zeroed_by_owner table.dirty owners table.extents number first last V U same zeroed; put = has }

may_grow_then : {extents : ExtentLayout} (old table : VolumeTable) (owners : List (Option Owned)) (number first last : ℕ)
    → ((extent : ℕ) → owner_of table.extents extent ≡ owner_of owners extent)
    → (V U W : List Block) → IsZeroed extents table.dirty owners number first last V U → MayPutTable old table U W
    → MayGrow extents old table number first last V W
may_grow_then {extents} old table owners number first last same V U W zeroed put from =
    elim (put (partly_keeps_table old owners number first last V U zeroed.partly from)) [
      | inl is ↦ inl (subst (IsPartlyZero extents table.extents number first last V) (sym is)
          (partly_by_owner owners table.extents number first last V U same zeroed.partly))
      | inr has ↦ inr (grown_after table owners number first last same V U W zeroed has)
    ]

grows_then : {extents : ExtentLayout} (old table : VolumeTable) (owners : List (Option Owned)) (number first last : ℕ)
    → ((extent : ℕ) → owner_of table.extents extent ≡ owner_of owners extent)
    → (V U W : List Block) → IsZeroed extents table.dirty owners number first last V U → PutsTable old table U W → Grows extents old table number first last V W
grows_then {extents} old table owners number first last same V U W zeroed put from =
    grown_after table owners number first last same V U W zeroed (put (partly_keeps_table old owners number first last V U zeroed.partly from))

-- a table has the owners that a map has
table_owner : (table : VolumeTable) (owners : List (Option Owned)) → table.extents ≡ owners_padded owners → (extent : ℕ)
    → owner_of table.extents extent ≡ owner_of owners extent
table_owner table owners same extent = ap (λ (its : List (Option Owned)). owner_of its extent) same ∙ owner_padded owners extent

-- the new blocks are made zero, and then the table says of them
pub zeroed_then_put : (extents : ExtentLayout) (honest still : Type 0) → (honest → still)
    → (before table : VolumeTable) (owners : List (Option Owned)) (number first last : ℕ) (old mid new : ArrayView) (answer : Answer)
    → table.extents ≡ owners_padded owners → (honest → IsTrueTo mid.panel mid.history)
    → ChangesList honest (last - first) (IsPartlyZero extents owners number first last) (IsZeroed extents table.dirty owners number first last) old mid
    (Ok tt)
    → ChangesList still 1 (MayPutTable before table) (PutsTable before table) mid new answer
    → ChangesList honest (last - first + 1) (MayGrow extents before table number first last) (Grows extents before table number first last) old new answer
zeroed_then_put extents honest still fair before table owners number first last old mid new answer is_map true_to zeroes puts =
    let same = table_owner table owners is_map in
    changes_both honest still fair (last - first) 1 (IsPartlyZero extents owners number first last) (IsZeroed extents table.dirty owners number first last)
    (MayPutTable before table) (PutsTable before table)
    (MayGrow extents before table number first last) (Grows extents before table number first last) old mid new answer true_to zeroes puts
    (may_grow_first before table owners number first last same) (may_grow_then before table owners number first last same)
    (grows_then before table owners number first last same)

-- or some of them, where the making was refused
pub zeroed_in_part : (extents : ExtentLayout) (honest : Type 0) (before table : VolumeTable) (owners : List (Option Owned)) (number first last : ℕ)
    (old new : ArrayView)
    (refusal : Refusal)
    → table.extents ≡ owners_padded owners
    → ChangesList honest (last - first) (IsPartlyZero extents owners number first last) (IsZeroed extents table.dirty owners number first last) old new
    (Err refusal)
    → ChangesList honest (last - first + 1) (MayGrow extents before table number first last) (Grows extents before table number first last) old new
    (Err refusal)
zeroed_in_part extents honest before table owners number first last old new refusal is_map zeroes =
    changes_refused honest (last - first) (last - first + 1) (IsPartlyZero extents owners number first last)
    (IsZeroed extents table.dirty owners number first last)
    (MayGrow extents before table number first last) (Grows extents before table number first last) old new refusal (omega arith) zeroes
    (may_grow_first before table owners number first last (table_owner table owners is_map))
