-- Which commands the volumes of a table admit.
use Rattle.std.proofs.Common.{◌≡◌, ◌≢◌, ⊎_elim, ◌⊎◌, ℕ, zero, suc, ◌+◌, ◌<◌, ◌≤◌, true, false, cond, not, ◌||◌, ◌==◌, nat_lt, nat_le, Bool, get_or, List, []}
use Rattle.std.proofs.Common.{◌∷◌, ◌++◌, length, take, Option, Some, None, is_none, is_some, Err, refl, sym, ap, subst, ◌∙◌, arith}
use Rattle.std.specs.Prelude.{unwrap_or}
use Rattle.std.specs.Option.{MatchOption, ok_or}
use Rattle.std.proofs.Props.{props}
use Rattle.std.proofs.Math.Logic.{∥∥₁_elim}
use Rattle.std.proofs.lemmas.Bool.{cases_lt, cond-true, cond-false, true≢false, false≢true, or_left, or_right, or_from, not_from_true, not_from_false}
use Rattle.std.proofs.lemmas.Bool.{false_from_ne_true, eq-eqb, ne_eqb, lt-ltb, le-ltb, le-leb, lt-leb}
use Rattle.std.proofs.lemmas.List.{get_or_default, length-append, length-replicate}
use Rattle.std.proofs.lemmas.Option.{none-some}
use Rattle.sector_model.specs.declared.refusal.Refusal.{Refusal}
use Rattle.sector_model.specs.declared.refusal.Refusal.TheVariants.{BadCount, BadName, BadSize, Exists, NoSpace, NoVolume, OutOfRange, TooManyVolumes}
use Rattle.extents.specs.declared.extent_layout.ExtentLayout.{ExtentLayout}
use Rattle.extents.specs.declared.owned.Owned.{Owned}
use Rattle.extents.specs.declared.record.Record.{Record}
use Rattle.extents.specs.declared.volume_table.VolumeTable.{VolumeTable}
use Rattle.extents.specs.ExtentMaps.{free_of}
use Rattle.extents.specs.Names.{IsGoodName}
use Rattle.extents.specs.VolumeTables.{HasRecord, IsRecordFor, extents_for, most_blocks, record_of}
use Rattle.extents.proofs.Tables.{some_within}
use Rattle.volume_table.specs.Names.{is_good_name}
use Rattle.extents.specs.Versions.{most_name_bytes, most_volumes}
use Rattle.volume_table.specs.Volumes.{AreVolumes, Block, Volume, VolumeList, VolumeMap, blocks_of, need, with_volume, zero_block}
use Rattle.volume_table.specs.VolumeStep.{Command, Create, Extend, Remove, Rename, Write, blocks_in, changed, checks_within, first_refusal}
use Rattle.volume_table.specs.VolumeStep.{has_no_volume}
use Rattle.volume_table.specs.VolumeStep.{is_bad_count}
use Rattle.volume_table.specs.VolumeStep.{is_bad_size, refusal_of, zero_blocks}
use Rattle.volume_table.specs.Law.{HasLength}
use Rattle.volume_table.specs.Shows.{used_records}
use Rattle.volume_table.specs.Admission.{AreKept, HasBlocksAt, HasRecordAt, IsFirstUnused, IsGrownFrom, IsRenamedFrom, IsWithinVolume, MayGrowTo}
use Rattle.volume_table.specs.Admission.{MayRename, ShowsBy}
use Rattle.volume_table.specs.Zeroing.{checks_of_zero}
use Rattle.extents.specs.declared.volume_table.Found.{Found}
use Rattle.volume_table.proofs.CountLemmas.{records_are_counted}
use Rattle.volume_table.proofs.FreeLemmas.{free_is_not_needed}
use Rattle.volume_table.proofs.ReadLemmas.{absent_is_shown, length_is_shown}
use Rattle.volume_table.proofs.ShowsLemmas.{distinct_names, good_names}
use Rattle.volume_table.proofs.TableSizes.{few_volumes}
use Rattle.volume_table.proofs.VolumeLemmas.{need-with_other}
use Rattle.volume_table.specs.declared.event.TheConstants.{MOST_BLOCKS_AT_ONCE, MOST_ZEROED_AT_ONCE}
use Rattle.extents.specs.declared.volume_table.TheConstants.{MOST_VOLUMES}

-- a table has 64 records
pub all_records : (table : VolumeTable) → length table.records ≡ MOST_VOLUMES
all_records table = ∥∥₁_elim table.is_table (hlevel props) (λ is. is.all_records)

-- a record that is used is one of 64
used_is_of_table : (table : VolumeTable) (number : ℕ) (entry : Record) → record_of table.records number ≡ Some entry → number < MOST_VOLUMES
used_is_of_table table number entry used = omega (arith, some_within table.records number entry used, all_records table)

-- no record is used after those of the version
none_beyond_end : (table : VolumeTable) (number : ℕ) → most_volumes table.version ≤ number → record_of table.records number ≡ None
none_beyond_end table number above = ∥∥₁_elim table.is_table (hlevel props) (λ is. is.of_version.few number above)

-- so that a record that is used is one of the version
used_is_of_version : (table : VolumeTable) (number : ℕ) (entry : Record) → record_of table.records number ≡ Some entry → number < most_volumes table.version
used_is_of_version table number entry used =
    ⊎_elim (λ below. below) (λ above. absurd (none-some entry (sym (none_beyond_end table number above) ∙ used))) (cases_lt number (most_volumes table.version))

-- and its name is as short as the version's names are
used_is_short : (table : VolumeTable) (number : ℕ) (entry : Record) → record_of table.records number ≡ Some entry
    → length entry.name.bytes.items ≤ most_name_bytes table.version
used_is_short table number entry used = ∥∥₁_elim table.is_table (hlevel props) (λ is. is.of_version.short number entry used)

pub found_at : (table : VolumeTable) (name : List ℕ) (number count : ℕ) → IsRecordFor table.records name number count → HasRecordAt table.records name number
found_at table name number count found =
    record { of_table = used_is_of_table table number found.entry found.used; entry = found.entry; used = found.used; named = found.named }

pub found_within : (table : VolumeTable) (name : List ℕ) (number long at count : ℕ) → IsRecordFor table.records name number long → 1 ≤ count
    → count ≤ MOST_BLOCKS_AT_ONCE → at + count ≤ long
    → IsWithinVolume table.records name number at count
found_within table name number long at count found least most fits =
    record {
      of_table = used_is_of_table table number found.entry found.used;
      entry = found.entry;
      used = found.used;
      named = found.named;
      fits = omega (arith, fits, found.as_long);
      least = least;
      most = most;
    }

-- no volume has a name that no record has
pub absent_by : (extents : ExtentLayout) (table : VolumeTable) (sectors : List Block) (volumes : VolumeMap) (name : List ℕ)
    → ShowsBy extents table sectors volumes
    → (HasRecord table.records name → ⊥)
    → blocks_of name volumes.volumes ≡ None
absent_by extents table sectors volumes name by none =
    absent_is_shown extents sectors volumes name by.shows (λ number entry used named.
    none (record { number = number; entry = entry; used = ap (λ (t : VolumeTable). record_of t.records number) (sym by.by) ∙ used; named = named }))

-- a volume is as long as its record says
pub length_by : (extents : ExtentLayout) (table : VolumeTable) (sectors : List Block) (volumes : VolumeMap) (name : List ℕ) (number count : ℕ)
    → ShowsBy extents table sectors volumes
    → IsRecordFor table.records name number count → HasLength name count volumes.volumes
length_by extents table sectors volumes name number count by found =
    let has : HasLength found.entry.name.bytes.items found.entry.blocks volumes.volumes =
    length_is_shown extents sectors volumes number found.entry by.shows (ap (λ (t : VolumeTable). record_of t.records number) by.by ∙ found.used) in
    record { blocks = has.blocks; found = ap (λ n. blocks_of n volumes.volumes) (sym found.named) ∙ has.found; as_long = has.as_long ∙ found.as_long }

-- the name is a volume's
is_there : (name : List ℕ) (count : ℕ) (volumes : VolumeList) → HasLength name count volumes → has_no_volume name volumes ≡ false
is_there name count volumes has = ap is_none has.found

-- the blocks of a volume are as many
long_blocks : (name : List ℕ) (count : ℕ) (volumes : VolumeList) → HasLength name count volumes → length (blocks_in name volumes) ≡ count
long_blocks name count volumes has = ap (λ o. length (unwrap_or o [])) has.found ∙ has.as_long

pub removal_admitted : (extents : ExtentLayout) (name : List ℕ) (count : ℕ) (volumes : VolumeMap) → HasLength name count volumes.volumes
    → None ≡ refusal_of extents (Remove name) volumes
removal_admitted extents name count volumes has = sym (cond-false (has_no_volume name volumes.volumes) (Some NoVolume) None
    (is_there name count volumes.volumes has))

-- a count that may not be
count_is_bad : (count : ℕ) → (count ≡ 0) ⊎ (MOST_BLOCKS_AT_ONCE < count) → is_bad_count count ≡ true
count_is_bad count bad = ⊎_elim (λ none. or_left (count == 0) (nat_lt MOST_BLOCKS_AT_ONCE count) (eq-eqb count 0 none))
    (λ above. or_right (count == 0) (nat_lt MOST_BLOCKS_AT_ONCE count) (lt-ltb MOST_BLOCKS_AT_ONCE count above)) bad

count_is_good : (count : ℕ) → 1 ≤ count → count ≤ MOST_BLOCKS_AT_ONCE → is_bad_count count ≡ false
count_is_good count least most = or_from (count == 0) (nat_lt MOST_BLOCKS_AT_ONCE count) (ne_eqb count 0 (λ none. omega (arith, least, none)))
    (le-ltb MOST_BLOCKS_AT_ONCE count most)

pub within_bad_count : (name : List ℕ) (long at count : ℕ) (volumes : VolumeList) → HasLength name long volumes → (count ≡ 0) ⊎ (MOST_BLOCKS_AT_ONCE < count)
    → Some BadCount ≡ first_refusal (checks_within name at count volumes)
within_bad_count name long at count volumes has bad =
    sym (cond-false (has_no_volume name volumes) (Some NoVolume) _ (is_there name long volumes has)
    ∙ cond-true (is_bad_count count) (Some BadCount) _ (count_is_bad count bad))

pub within_past : (name : List ℕ) (long at count : ℕ) (volumes : VolumeList) → HasLength name long volumes → 1 ≤ count → count ≤ MOST_BLOCKS_AT_ONCE
    → long < at + count
    → Some OutOfRange ≡ first_refusal (checks_within name at count volumes)
within_past name long at count volumes has least most past =
    let past_end : nat_lt (length (blocks_in name volumes)) (at + count) ≡ true =
    lt-ltb (length (blocks_in name volumes)) (at + count) (omega (arith, past, long_blocks name long volumes has)) in
    sym (
    cond-false (has_no_volume name volumes) (Some NoVolume) _ (is_there name long volumes has)
    ∙ cond-false (is_bad_count count) (Some BadCount) _ (count_is_good count least most)
    ∙ cond-true (nat_lt (length (blocks_in name volumes)) (at + count)) (Some OutOfRange) None past_end
    )

pub within_admitted : (name : List ℕ) (long at count : ℕ) (volumes : VolumeList) → HasLength name long volumes → 1 ≤ count → count ≤ MOST_BLOCKS_AT_ONCE
    → at + count ≤ long
    → None ≡ first_refusal (checks_within name at count volumes)
within_admitted name long at count volumes has least most fits =
    let inside : nat_lt (length (blocks_in name volumes)) (at + count) ≡ false =
    le-ltb (length (blocks_in name volumes)) (at + count) (omega (arith, fits, long_blocks name long volumes has)) in
    sym (
    cond-false (has_no_volume name volumes) (Some NoVolume) _ (is_there name long volumes has)
    ∙ cond-false (is_bad_count count) (Some BadCount) _ (count_is_good count least most)
    ∙ cond-false (nat_lt (length (blocks_in name volumes)) (at + count)) (Some OutOfRange) None inside
    )

-- blocks of a volume are admitted for a write of them
pub admitted_within : (extents : ExtentLayout) (table : VolumeTable) (name : List ℕ) (number at : ℕ) (blocks : List Block)
    → ∥ IsWithinVolume table.records name number at (length blocks) ∥₁
    → (logical : List Block) (volumes : VolumeMap) → ShowsBy extents table logical volumes → None ≡ refusal_of extents (Write name at blocks) volumes
admitted_within extents table name number at blocks within logical volumes by = ∥∥₁_elim within (hlevel props) (λ it.
    within_admitted name it.entry.blocks at (length blocks) volumes.volumes
    (length_by extents table logical volumes name number it.entry.blocks by (record { entry = it.entry; used = it.used; named = it.named; as_long = refl }))
    it.least it.most it.fits)

-- ---- blocks that are to be made zero

pub found_blocks : (table : VolumeTable) (name : List ℕ) (number long at count : ℕ) → IsRecordFor table.records name number long → 1 ≤ count
    → at + count ≤ long → HasBlocksAt table.records name number at count
found_blocks table name number long at count found least fits =
    record {
      of_table = used_is_of_table table number found.entry found.used;
      entry = found.entry;
      used = found.used;
      named = found.named;
      fits = omega (arith, fits, found.as_long);
      least = least;
    }

zeroing_is_bad : (count : ℕ) → (count ≡ 0) ⊎ (MOST_ZEROED_AT_ONCE < count) → (count == 0 || nat_lt MOST_ZEROED_AT_ONCE count) ≡ true
zeroing_is_bad count bad = ⊎_elim (λ none. or_left (count == 0) (nat_lt MOST_ZEROED_AT_ONCE count) (eq-eqb count 0 none))
    (λ above. or_right (count == 0) (nat_lt MOST_ZEROED_AT_ONCE count) (lt-ltb MOST_ZEROED_AT_ONCE count above)) bad

zeroing_is_good : (count : ℕ) → 1 ≤ count → count ≤ MOST_ZEROED_AT_ONCE → (count == 0 || nat_lt MOST_ZEROED_AT_ONCE count) ≡ false
zeroing_is_good count least most = or_from (count == 0) (nat_lt MOST_ZEROED_AT_ONCE count) (ne_eqb count 0 (λ none. omega (arith, least, none)))
    (le-ltb MOST_ZEROED_AT_ONCE count most)

pub zeroing_bad_count : (name : List ℕ) (long at count : ℕ) (volumes : VolumeList) → HasLength name long volumes → (count ≡ 0) ⊎ (MOST_ZEROED_AT_ONCE < count)
    → Some BadCount ≡ first_refusal (checks_of_zero name at count volumes)
zeroing_bad_count name long at count volumes has bad =
    sym (cond-false (has_no_volume name volumes) (Some NoVolume) _ (is_there name long volumes has)
    ∙ cond-true (count == 0 || nat_lt MOST_ZEROED_AT_ONCE count) (Some BadCount) _ (zeroing_is_bad count bad))

pub zeroing_past : (name : List ℕ) (long at count : ℕ) (volumes : VolumeList) → HasLength name long volumes → 1 ≤ count → count ≤ MOST_ZEROED_AT_ONCE
    → long < at + count
    → Some OutOfRange ≡ first_refusal (checks_of_zero name at count volumes)
zeroing_past name long at count volumes has least most past =
    let past_end : nat_lt (length (blocks_in name volumes)) (at + count) ≡ true =
    lt-ltb (length (blocks_in name volumes)) (at + count) (omega (arith, past, long_blocks name long volumes has)) in
    sym (
    cond-false (has_no_volume name volumes) (Some NoVolume) _ (is_there name long volumes has)
    ∙ cond-false (count == 0 || nat_lt MOST_ZEROED_AT_ONCE count) (Some BadCount) _ (zeroing_is_good count least most)
    ∙ cond-true (nat_lt (length (blocks_in name volumes)) (at + count)) (Some OutOfRange) None past_end
    )

pub zeroing_admitted : (name : List ℕ) (long at count : ℕ) (volumes : VolumeList) → HasLength name long volumes → 1 ≤ count → count ≤ MOST_ZEROED_AT_ONCE
    → at + count ≤ long
    → None ≡ first_refusal (checks_of_zero name at count volumes)
zeroing_admitted name long at count volumes has least most fits =
    let inside : nat_lt (length (blocks_in name volumes)) (at + count) ≡ false =
    le-ltb (length (blocks_in name volumes)) (at + count) (omega (arith, fits, long_blocks name long volumes has)) in
    sym (
    cond-false (has_no_volume name volumes) (Some NoVolume) _ (is_there name long volumes has)
    ∙ cond-false (count == 0 || nat_lt MOST_ZEROED_AT_ONCE count) (Some BadCount) _ (zeroing_is_good count least most)
    ∙ cond-false (nat_lt (length (blocks_in name volumes)) (at + count)) (Some OutOfRange) None inside
    )

pub no_volume_to_zero : (name : List ℕ) (at count : ℕ) (volumes : VolumeList) → blocks_of name volumes ≡ None
    → Some NoVolume ≡ first_refusal (checks_of_zero name at count volumes)
no_volume_to_zero name at count volumes none = sym (cond-true (has_no_volume name volumes) (Some NoVolume) _ (ap is_none none))

-- a name that a table of this version may have
pub record IsNameOf (version : ℕ) (name : List ℕ) : Type 0 where
  pub good : IsGoodName name
  pub short : length name ≤ most_name_bytes version

-- a name that may not be
name_is_bad : (version : ℕ) (name : List ℕ) → (IsNameOf version name → ⊥) → not (is_good_name version name) ≡ true
name_is_bad version name none =
    not_from_false (is_good_name version name) (false_from_ne_true (is_good_name version name) (λ good.
    let is = (good_names version name).0 good in
    none (record { good = is.0; short = is.1 })))

name_is_good : (version : ℕ) (name : List ℕ) → IsNameOf version name → not (is_good_name version name) ≡ false
name_is_good version name is = not_from_true (is_good_name version name) ((good_names version name).1 (is.good, is.short))

-- a name that was made, and found to be short enough
pub made_name : (version : ℕ) (made name : List ℕ) → made ≡ name → IsGoodName made → length made ≤ most_name_bytes version → IsNameOf version name
made_name version made name same good short =
    record { good = subst IsGoodName same good; short = subst (λ (n : List ℕ). length n ≤ most_name_bytes version) same short }

-- a size that may not be
size_is_bad : (most count : ℕ) → (count ≡ 0) ⊎ (most < count) → is_bad_size most count ≡ true
size_is_bad most count bad = ⊎_elim (λ none. or_left (count == 0) (nat_lt most count) (eq-eqb count 0 none))
    (λ above. or_right (count == 0) (nat_lt most count) (lt-ltb most count above)) bad

size_is_good : (most count : ℕ) → 1 ≤ count → count ≤ most → is_bad_size most count ≡ false
size_is_good most count least within = or_from (count == 0) (nat_lt most count) (ne_eqb count 0 (λ none. omega (arith, least, none)))
    (le-ltb most count within)

-- what an admission decides where extents lie so, it decides in a set whose extents lie so
pub decided_by : (refused : Option Refusal) (table : VolumeTable) (owners : List (Option Owned)) (command : Command) (extents its : ExtentLayout)
    → extents ≡ its
    → ((sectors : List Block) (volumes : VolumeMap) → AreKept extents table owners → ShowsBy extents table sectors volumes
    → refused ≡ refusal_of extents command volumes)
    → (sectors : List Block) (volumes : VolumeMap) → AreKept its table owners → ShowsBy its table sectors volumes
    → refused ≡ refusal_of its command volumes
decided_by refused table owners command extents its same decides =
    subst (λ (e : ExtentLayout). (sectors : List Block) (volumes : VolumeMap) → AreKept e table owners → ShowsBy e table sectors volumes
    → refused ≡ refusal_of e command volumes) same decides

-- the free extents of a store are those that its volumes do not need
pub free_by : (extents : ExtentLayout) (table : VolumeTable) (owners : List (Option Owned)) (sectors : List Block) (volumes : VolumeMap)
    → AreKept extents table owners
    → ShowsBy extents table sectors volumes → free_of owners + need extents.blocks volumes.volumes ≡ extents.count
free_by extents table owners sectors volumes kept by =
    ap (λ o. free_of o + need extents.blocks volumes.volumes) kept.same
    ∙ ap (λ (t : VolumeTable). free_of (take extents.count t.extents) + need extents.blocks volumes.volumes) (sym by.by)
    ∙ free_is_not_needed extents sectors volumes by.shows

-- as many volumes as used records
used_by : (extents : ExtentLayout) (table : VolumeTable) (sectors : List Block) (volumes : VolumeMap) → ShowsBy extents table sectors volumes
    → length volumes.volumes ≡ used_records table.records
used_by extents table sectors volumes by = (records_are_counted extents sectors volumes by.shows).0 ∙ ap (λ (t : VolumeTable). used_records t.records) by.by

-- the most volumes of whichever version are records of a table
pub few_by : (version n : ℕ) → n ≡ most_volumes version → n ≤ MOST_VOLUMES
few_by version n is = omega (arith, is, few_volumes version)

-- one record more is used
pub used_one_more : (records : List (Option Record)) (number : ℕ) (one : Option Record) (unused : Bool) → number < length records
    → is_some (get_or records number one) ≡ not unused → unused ≡ false
    → ((i : ℕ) → i < number → record_of records i ≡ None → ⊥) → (i : ℕ) → i < number + 1 → record_of records i ≡ None → ⊥
used_one_more records number one unused within tested told so_far i below none = ⊎_elim (λ less. so_far i less none) at_it (cases_lt i number)
  where
    at_it : number ≤ i → ⊥
    at_it above =
        let same : i ≡ number = omega (arith, below, above) in
        let is_none_there : get_or records number one ≡ None = get_or_default records number one None within ∙ ap (record_of records) (sym same) ∙ none in
        true≢false (sym (tested ∙ ap not told) ∙ ap is_some is_none_there)

-- each of the first records is used
all_used : (n : ℕ) (records : List (Option Record)) → n ≤ length records → ((number : ℕ) → number < n → record_of records number ≢ None)
    → n ≤ used_records records
all_used zero records within none = omega arith
all_used (suc n) [] within none = absurd (omega (arith, within))
all_used (suc n) (None ∷ records) within none = absurd (none 0 (omega arith) refl)
all_used (suc n) (Some entry ∷ records) within none =
    omega (arith, all_used n records (omega (arith, within)) (λ number below. none (suc number) (omega (arith, below))))

-- none is used from this number on
abbrev NoneFrom : ℕ → List (Option Record) → Type 0
NoneFrom n records = (number : ℕ) → n ≤ number → record_of records number ≡ None

none_from_next : (n : ℕ) (first : Option Record) (records : List (Option Record)) → NoneFrom (suc n) (first ∷ records) → NoneFrom n records
none_from_next n first records none number above = none (suc number) (omega (arith, above))

none_used : (records : List (Option Record)) → NoneFrom 0 records → used_records records ≡ 0
none_used [] none = refl
none_used (None ∷ records) none = none_used records (λ number above. none (suc number) (omega arith))
none_used (Some entry ∷ records) none = absurd (none-some entry (sym (none 0 (omega arith))))

few_used : (n : ℕ) (records : List (Option Record)) → NoneFrom n records → used_records records ≤ n
few_used zero records none = omega (arith, none_used records none)
few_used (suc n) [] none = omega arith
few_used (suc n) (None ∷ records) none = omega (arith, few_used n records (none_from_next n None records none))
few_used (suc n) (Some entry ∷ records) none = omega (arith, few_used n records (none_from_next n (Some entry) records none))

-- nor is one before it
one_unused : (n : ℕ) (records : List (Option Record)) (number : ℕ) → number < n → record_of records number ≡ None → NoneFrom n records
    → used_records records < n
one_unused zero records number below unused none = absurd (omega (arith, below))
one_unused (suc n) [] number below unused none = omega arith
one_unused (suc n) (None ∷ records) number below unused none = omega (arith, few_used n records (none_from_next n None records none))
one_unused (suc n) (Some entry ∷ records) zero below unused none = absurd (none-some entry (sym unused))
one_unused (suc n) (Some entry ∷ records) (suc number) below unused none =
    omega (arith, one_unused n records number (omega (arith, below)) unused (none_from_next n (Some entry) records none))

-- the version of a table is that of the volumes that are shown by it
version_by : (extents : ExtentLayout) (table : VolumeTable) (sectors : List Block) (volumes : VolumeMap) → ShowsBy extents table sectors volumes
    → table.version ≡ volumes.version
version_by extents table sectors volumes by = ap (λ (t : VolumeTable). t.version) (sym by.by) ∙ by.shows.of_version

pub volumes_are_full : (extents : ExtentLayout) (table : VolumeTable) (sectors : List Block) (volumes : VolumeMap) → ShowsBy extents table sectors volumes
    → ((number : ℕ) → number < most_volumes table.version → record_of table.records number ≢ None) → most_volumes volumes.version ≤ length volumes.volumes
volumes_are_full extents table sectors volumes by none =
    let long = all_records table in
    let most = few_volumes table.version in
    let same : most_volumes table.version ≡ most_volumes volumes.version = ap most_volumes (version_by extents table sectors volumes by) in
    omega (arith, same, used_by extents table sectors volumes by, all_used (most_volumes table.version) table.records (omega (arith, long, most)) none)

pub volumes_are_fewer : (extents : ExtentLayout) (table : VolumeTable) (sectors : List Block) (volumes : VolumeMap) (number : ℕ)
    → ShowsBy extents table sectors volumes
    → IsFirstUnused table.version table.records number → length volumes.volumes < most_volumes volumes.version
volumes_are_fewer extents table sectors volumes number by unused =
    let same : most_volumes table.version ≡ most_volumes volumes.version = ap most_volumes (version_by extents table sectors volumes by) in
    omega (
      arith,
      same,
      used_by extents table sectors volumes by,
      one_unused (most_volumes table.version) table.records number unused.of_table unused.unused
          (none_beyond_end table),
    )

-- a new volume may have this name and so many blocks
pub record IsGoodNew (extents : ExtentLayout) (version : ℕ) (name : List ℕ) (count : ℕ) : Type 0 where
  pub its_name : IsNameOf version name
  pub least : 1 ≤ count
  pub most : count ≤ most_blocks extents.blocks

-- a name that a table may have is one that its volumes may have
pub new_by : (extents : ExtentLayout) (table : VolumeTable) (sectors : List Block) (volumes : VolumeMap) (name : List ℕ) (count : ℕ)
    → ShowsBy extents table sectors volumes
    → IsGoodNew extents table.version name count → IsGoodNew extents volumes.version name count
new_by extents table sectors volumes name count by new = subst (λ (v : ℕ). IsGoodNew extents v name count) (version_by extents table sectors volumes by) new

pub name_by : (extents : ExtentLayout) (table : VolumeTable) (sectors : List Block) (volumes : VolumeMap) (name : List ℕ)
    → ShowsBy extents table sectors volumes
    → IsNameOf table.version name → IsNameOf volumes.version name
name_by extents table sectors volumes name by is = subst (λ (v : ℕ). IsNameOf v name) (version_by extents table sectors volumes by) is

pub creation_bad_name : (extents : ExtentLayout) (name : List ℕ) (count : ℕ) (volumes : VolumeMap) → (IsNameOf volumes.version name → ⊥)
    → Some BadName ≡ refusal_of extents (Create name count) volumes
creation_bad_name extents name count volumes none = sym
    (cond-true (not (is_good_name volumes.version name)) (Some BadName) _ (name_is_bad volumes.version name none))

-- a name that is longer than those of the table
pub creation_long_name : (extents : ExtentLayout) (table : VolumeTable) (sectors : List Block) (volumes : VolumeMap) (name : List ℕ) (count : ℕ)
    → ShowsBy extents table sectors volumes
    → most_name_bytes table.version < length name → Some BadName ≡ refusal_of extents (Create name count) volumes
creation_long_name extents table sectors volumes name count by long =
    let same : most_name_bytes table.version ≡ most_name_bytes volumes.version = ap most_name_bytes (version_by extents table sectors volumes by) in
    creation_bad_name extents name count volumes (λ is. omega (arith, long, same, is.short))

pub creation_bad_size : (extents : ExtentLayout) (name : List ℕ) (count : ℕ) (volumes : VolumeMap) → IsNameOf volumes.version name
    → (count ≡ 0) ⊎ (most_blocks extents.blocks < count)
    → Some BadSize ≡ refusal_of extents (Create name count) volumes
creation_bad_size extents name count volumes is bad =
    sym (cond-false (not (is_good_name volumes.version name)) (Some BadName) _ (name_is_good volumes.version name is)
    ∙ cond-true (is_bad_size (most_blocks extents.blocks) count) (Some BadSize) _ (size_is_bad (most_blocks extents.blocks) count bad))

-- what a creation is refused with where name and size are good
good_new : (extents : ExtentLayout) (name : List ℕ) (count : ℕ) (volumes : VolumeMap) → IsGoodNew extents volumes.version name count
    → refusal_of extents (Create name count) volumes
    ≡ first_refusal ((is_some (blocks_of name volumes.volumes), Exists) ∷ (nat_le (most_volumes volumes.version) (length volumes.volumes), TooManyVolumes)
    ∷ (nat_lt extents.count (need extents.blocks volumes.volumes + extents_for extents.blocks count), NoSpace) ∷ [])
good_new extents name count volumes new =
    cond-false (not (is_good_name volumes.version name)) (Some BadName) _ (name_is_good volumes.version name new.its_name)
    ∙ cond-false (is_bad_size (most_blocks extents.blocks) count) (Some BadSize) _ (size_is_good (most_blocks extents.blocks) count new.least new.most)

pub creation_exists : (extents : ExtentLayout) (name : List ℕ) (long count : ℕ) (volumes : VolumeMap) → IsGoodNew extents volumes.version name count
    → HasLength name long volumes.volumes
    → Some Exists ≡ refusal_of extents (Create name count) volumes
creation_exists extents name long count volumes new has =
    sym (good_new extents name count volumes new ∙ cond-true (is_some (blocks_of name volumes.volumes)) (Some Exists) _ (ap is_some has.found))

pub creation_full : (extents : ExtentLayout) (name : List ℕ) (count : ℕ) (volumes : VolumeMap) → IsGoodNew extents volumes.version name count
    → blocks_of name volumes.volumes ≡ None
    → most_volumes volumes.version ≤ length volumes.volumes → Some TooManyVolumes ≡ refusal_of extents (Create name count) volumes
creation_full extents name count volumes new none full =
    sym (
    good_new extents name count volumes new
    ∙ cond-false (is_some (blocks_of name volumes.volumes)) (Some Exists) _ (ap is_some none)
    ∙ cond-true (nat_le (most_volumes volumes.version) (length volumes.volumes)) (Some TooManyVolumes) _
    (le-leb (most_volumes volumes.version) (length volumes.volumes) full)
    )

-- there is room for a volume more, whose name is new
pub record HasRoomFor (name : List ℕ) (volumes : VolumeMap) : Type 0 where
  pub absent : blocks_of name volumes.volumes ≡ None
  pub fewer : length volumes.volumes < most_volumes volumes.version

-- what it is refused with there
room_for_one : (extents : ExtentLayout) (name : List ℕ) (count : ℕ) (volumes : VolumeMap) → IsGoodNew extents volumes.version name count
    → HasRoomFor name volumes
    → refusal_of extents (Create name count) volumes ≡ cond (nat_lt extents.count (need extents.blocks volumes.volumes + extents_for extents.blocks count))
    (Some NoSpace) None
room_for_one extents name count volumes new room =
    good_new extents name count volumes new
    ∙ cond-false (is_some (blocks_of name volumes.volumes)) (Some Exists) _ (ap is_some room.absent)
    ∙ cond-false (nat_le (most_volumes volumes.version) (length volumes.volumes)) (Some TooManyVolumes) _
    (lt-leb (most_volumes volumes.version) (length volumes.volumes) room.fewer)

pub creation_no_space : (extents : ExtentLayout) (free : ℕ) (name : List ℕ) (count : ℕ) (volumes : VolumeMap) → IsGoodNew extents volumes.version name count
    → HasRoomFor name volumes
    → free + need extents.blocks volumes.volumes ≡ extents.count → free < extents_for extents.blocks count
    → Some NoSpace ≡ refusal_of extents (Create name count) volumes
creation_no_space extents free name count volumes new room all less =
    let needed = need extents.blocks volumes.volumes + extents_for extents.blocks count in
    sym (room_for_one extents name count volumes new room
    ∙ cond-true (nat_lt extents.count needed) (Some NoSpace) None (lt-ltb extents.count needed (omega (arith, all, less))))

pub creation_admitted : (extents : ExtentLayout) (free : ℕ) (name : List ℕ) (count : ℕ) (volumes : VolumeMap) → IsGoodNew extents volumes.version name count
    → HasRoomFor name volumes
    → free + need extents.blocks volumes.volumes ≡ extents.count → extents_for extents.blocks count ≤ free
    → None ≡ refusal_of extents (Create name count) volumes
creation_admitted extents free name count volumes new room all fits =
    let needed = need extents.blocks volumes.volumes + extents_for extents.blocks count in
    sym (room_for_one extents name count volumes new room
    ∙ cond-false (nat_lt extents.count needed) (Some NoSpace) None (le-ltb extents.count needed (omega (arith, all, fits))))

-- a new record may be put
pub may_create_at : (extents : ExtentLayout) (table : VolumeTable) (owners : List (Option Owned)) (number : ℕ) (entry : Record) (name : List ℕ)
    → IsFirstUnused table.version table.records number → 1 ≤ entry.blocks → entry.blocks ≤ most_blocks extents.blocks
    → entry.name.bytes.items ≡ name → length name ≤ most_name_bytes table.version → (HasRecord table.records name → ⊥)
    → extents_for extents.blocks entry.blocks ≤ free_of owners
    → MayGrowTo extents table.version table.records owners number 0 entry
may_create_at extents table owners number entry name unused least most named short none fits =
    record {
      of_table = unused.of_table;
      short = subst (λ (n : List ℕ). length n ≤ most_name_bytes table.version) (sym named) short;
      from = subst (λ o. IsGrownFrom o 0 entry) (sym unused.unused) refl;
      more = least;
      most = most;
      apart = λ other one used same. absurd (none (record { number = other; entry = one; used = used; named = same ∙ named }));
      fits = omega (arith, fits);
    }

-- a record may be put with more blocks
pub may_extend_at : (extents : ExtentLayout) (table : VolumeTable) (owners : List (Option Owned)) (number first : ℕ) (entry : Record) (name : List ℕ)
    → IsRecordFor table.records name number first
    → first < entry.blocks → entry.blocks ≤ most_blocks extents.blocks → entry.name.bytes.items ≡ name
    → extents_for extents.blocks entry.blocks ≤ extents_for extents.blocks first + free_of owners
    → MayGrowTo extents table.version table.records owners number first entry
may_extend_at extents table owners number first entry name found more most named fits =
    record {
      of_table = used_is_of_version table number found.entry found.used;
      short = subst (λ (n : List ℕ). length n ≤ most_name_bytes table.version) (found.named ∙ sym named) (used_is_short table number found.entry found.used);
      from = subst (λ o. IsGrownFrom o first entry) (sym found.used) (found.as_long, found.named ∙ sym named);
      more = more;
      most = most;
      apart = λ other one used same. distinct_names table.version table.records table.extents table.is_table other number one found.entry used found.used
          (same ∙ named ∙ sym found.named);
      fits = fits;
    }

-- what the volumes need after an extend
grown_need : (extents : ExtentLayout) (name : List ℕ) (long growth : ℕ) (volumes : VolumeMap) → AreVolumes extents volumes → HasLength name long volumes.volumes
    → need extents.blocks (changed (Extend name growth) volumes.volumes) + extents_for extents.blocks long ≡ need extents.blocks volumes.volumes + extents_for
    extents.blocks (long + growth)
grown_need extents name long growth volumes are has =
    let old = blocks_in name volumes.volumes in
    let new : Volume = record { name = name; blocks = old ++ zero_blocks growth } in
    let found : blocks_of name volumes.volumes ≡ Some old = has.found ∙ ap (λ o. Some (unwrap_or o [])) (sym has.found) in
    let as_long = long_blocks name long volumes.volumes has in
    let new_long : length new.blocks ≡ long + growth = omega (arith, length-append old (zero_blocks growth), length-replicate growth zero_block, as_long) in
    let needed = need-with_other extents.blocks new volumes.volumes old are.rising found in
    ap (λ n. need extents.blocks (with_volume new volumes.volumes) + extents_for extents.blocks n) (sym as_long) ∙ needed
    ∙ ap (λ n. need extents.blocks volumes.volumes + extents_for extents.blocks n) new_long

pub extension_bad_size : (extents : ExtentLayout) (name : List ℕ) (long growth : ℕ) (volumes : VolumeMap) → HasLength name long volumes.volumes → (growth ≡ 0)
    ⊎ (most_blocks extents.blocks < long + growth)
    → Some BadSize ≡ refusal_of extents (Extend name growth) volumes
extension_bad_size extents name long growth volumes has bad =
    let all = length (blocks_in name volumes.volumes) + growth in
    let as_long = long_blocks name long volumes.volumes has in
    sym (
    cond-false (has_no_volume name volumes.volumes) (Some NoVolume) _ (is_there name long volumes.volumes has)
    ∙ cond-true (growth == 0 || nat_lt (most_blocks extents.blocks) all) (Some BadSize) _
    (⊎_elim (λ none. or_left (growth == 0) (nat_lt (most_blocks extents.blocks) all) (eq-eqb growth 0 none))
    (λ above. or_right (growth == 0) (nat_lt (most_blocks extents.blocks) all) (lt-ltb (most_blocks extents.blocks) all (omega (arith, above, as_long)))) bad)
    )

-- what it is refused with where the size is good
good_growth : (extents : ExtentLayout) (name : List ℕ) (long growth : ℕ) (volumes : VolumeMap) → HasLength name long volumes.volumes → 1 ≤ growth
    → long + growth ≤ most_blocks extents.blocks
    → refusal_of extents (Extend name growth) volumes ≡ cond (nat_lt extents.count (need extents.blocks (changed (Extend name growth) volumes.volumes)))
    (Some NoSpace) None
good_growth extents name long growth volumes has least most =
    let all = length (blocks_in name volumes.volumes) + growth in
    let as_long = long_blocks name long volumes.volumes has in
    cond-false (has_no_volume name volumes.volumes) (Some NoVolume) _ (is_there name long volumes.volumes has)
    ∙ cond-false (growth == 0 || nat_lt (most_blocks extents.blocks) all) (Some BadSize) _
    (or_from (growth == 0) (nat_lt (most_blocks extents.blocks) all) (ne_eqb growth 0 (λ none. omega (arith, least, none)))
    (le-ltb (most_blocks extents.blocks) all (omega (arith, most, as_long))))

pub extension_no_space : (extents : ExtentLayout) (free : ℕ) (name : List ℕ) (long growth : ℕ) (volumes : VolumeMap) → AreVolumes extents volumes
    → HasLength name long volumes.volumes → 1 ≤ growth → long + growth ≤ most_blocks extents.blocks
    → free + need extents.blocks volumes.volumes ≡ extents.count → extents_for extents.blocks long + free < extents_for extents.blocks (long + growth)
    → Some NoSpace ≡ refusal_of extents (Extend name growth) volumes
extension_no_space extents free name long growth volumes are has least most all less =
    let needed = need extents.blocks (changed (Extend name growth) volumes.volumes) in
    let above : extents.count < needed = omega (arith, all, less, grown_need extents name long growth volumes are has) in
    sym (good_growth extents name long growth volumes has least most
    ∙ cond-true (nat_lt extents.count needed) (Some NoSpace) None (lt-ltb extents.count needed above))

pub extension_admitted : (extents : ExtentLayout) (free : ℕ) (name : List ℕ) (long growth : ℕ) (volumes : VolumeMap) → AreVolumes extents volumes
    → HasLength name long volumes.volumes → 1 ≤ growth → long + growth ≤ most_blocks extents.blocks
    → free + need extents.blocks volumes.volumes ≡ extents.count → extents_for extents.blocks (long + growth) ≤ extents_for extents.blocks long + free
    → None ≡ refusal_of extents (Extend name growth) volumes
extension_admitted extents free name long growth volumes are has least most all fits =
    let needed = need extents.blocks (changed (Extend name growth) volumes.volumes) in
    let within : needed ≤ extents.count = omega (arith, all, fits, grown_need extents name long growth volumes are has) in
    sym (good_growth extents name long growth volumes has least most
    ∙ cond-false (nat_lt extents.count needed) (Some NoSpace) None (le-ltb extents.count needed within))

-- ---- a rename

pub rename_bad_name : (extents : ExtentLayout) (old new : List ℕ) (long : ℕ) (volumes : VolumeMap) → HasLength old long volumes.volumes
    → (IsNameOf volumes.version new → ⊥)
    → Some BadName ≡ refusal_of extents (Rename old new) volumes
rename_bad_name extents old new long volumes has none =
    sym (
    cond-false (has_no_volume old volumes.volumes) (Some NoVolume) _ (is_there old long volumes.volumes has)
    ∙ cond-true (not (is_good_name volumes.version new)) (Some BadName) _ (name_is_bad volumes.version new none)
    )

-- a name that is longer than those of the table
pub rename_long_name : (extents : ExtentLayout) (table : VolumeTable) (sectors : List Block) (volumes : VolumeMap) (old new : List ℕ) (long : ℕ)
    → ShowsBy extents table sectors volumes
    → HasLength old long volumes.volumes → most_name_bytes table.version < length new → Some BadName ≡ refusal_of extents (Rename old new) volumes
rename_long_name extents table sectors volumes old new long by has above =
    let same : most_name_bytes table.version ≡ most_name_bytes volumes.version = ap most_name_bytes (version_by extents table sectors volumes by) in
    rename_bad_name extents old new long volumes has (λ is. omega (arith, above, same, is.short))

-- what it is refused with where the old name is a volume's and the new one is good
good_rename : (extents : ExtentLayout) (old new : List ℕ) (long : ℕ) (volumes : VolumeMap) → HasLength old long volumes.volumes → IsNameOf volumes.version new
    → refusal_of extents (Rename old new) volumes ≡ cond (is_some (blocks_of new volumes.volumes)) (Some Exists) None
good_rename extents old new long volumes has is =
    cond-false (has_no_volume old volumes.volumes) (Some NoVolume) _ (is_there old long volumes.volumes has)
    ∙ cond-false (not (is_good_name volumes.version new)) (Some BadName) _ (name_is_good volumes.version new is)

pub rename_exists : (extents : ExtentLayout) (old new : List ℕ) (long other : ℕ) (volumes : VolumeMap) → HasLength old long volumes.volumes
    → IsNameOf volumes.version new
    → HasLength new other volumes.volumes
    → Some Exists ≡ refusal_of extents (Rename old new) volumes
rename_exists extents old new long other volumes has is taken =
    sym (good_rename extents old new long volumes has is ∙ cond-true (is_some (blocks_of new volumes.volumes)) (Some Exists) None (ap is_some taken.found))

pub rename_admitted : (extents : ExtentLayout) (old new : List ℕ) (long : ℕ) (volumes : VolumeMap) → HasLength old long volumes.volumes
    → IsNameOf volumes.version new
    → blocks_of new volumes.volumes ≡ None
    → None ≡ refusal_of extents (Rename old new) volumes
rename_admitted extents old new long volumes has is absent =
    sym (good_rename extents old new long volumes has is ∙ cond-false (is_some (blocks_of new volumes.volumes)) (Some Exists) None (ap is_some absent))

-- a record may get another name
pub may_rename_at : (table : VolumeTable) (old new : List ℕ) (number long : ℕ) (entry : Record) → IsRecordFor table.records old number long
    → entry.blocks ≡ long
    → entry.name.bytes.items ≡ new → length new ≤ most_name_bytes table.version → (HasRecord table.records new → ⊥)
    → MayRename table.version table.records number entry
may_rename_at table old new number long entry found as_long named short none =
    record {
      of_table = used_is_of_version table number found.entry found.used;
      short = subst (λ (n : List ℕ). length n ≤ most_name_bytes table.version) (sym named) short;
      from = subst (λ o. IsRenamedFrom o entry) (sym found.used) (as_long ∙ sym found.as_long);
      absent = λ other one used same. none (record { number = other; entry = one; used = used; named = same ∙ named });
    }

-- a name that was looked for, and found
pub name_was_found : (records : List (Option Record)) (bytes name : List ℕ) (o : Option Found) → bytes ≡ name → is_some o ≡ true
    → MatchOption o (HasRecord records bytes → ⊥) (λ found. IsRecordFor records bytes found.number found.count) → (found : Found)
    × IsRecordFor records name found.number found.count
name_was_found records bytes name None same some found = absurd (false≢true some)
name_was_found records bytes name (Some one) same some found = (one, subst (λ n. IsRecordFor records n one.number one.count) same found)

-- or not found
pub name_was_not_found : (records : List (Option Record)) (bytes name : List ℕ) (o : Option Found) → bytes ≡ name → is_some o ≡ false
    → MatchOption o (HasRecord records bytes → ⊥) (λ found. IsRecordFor records bytes found.number found.count) → HasRecord records name → ⊥
name_was_not_found records bytes name None same some none = subst (λ n. HasRecord records n → ⊥) same none
name_was_not_found records bytes name (Some one) same some none = absurd (true≢false some)

-- no record was found for the name, and that was the refusal
pub none_found : (records : List (Option Record)) (name : List ℕ) (o : Option Found) (refusal said : Refusal) → Err refusal ≡ ok_or o NoVolume
    → MatchOption o (HasRecord records name → ⊥) (λ found. IsRecordFor records name found.number found.count) → said ≡ refusal → (said ≡ NoVolume)
    × (HasRecord records name → ⊥)
none_found records name None refusal said is none same = (cc, none)
none_found records name (Some found) refusal said is some same = absurd (cc)

-- which comes before all others
pub no_volume_first : (name : List ℕ) (volumes : VolumeList) (rest : Option Refusal) → blocks_of name volumes ≡ None
    → Some NoVolume ≡ cond (has_no_volume name volumes) (Some NoVolume) rest
no_volume_first name volumes rest none = sym (cond-true (has_no_volume name volumes) (Some NoVolume) rest (ap is_none none))
