-- The volumes that are shown are as many as the used records, and need as many extents.
use Rattle.std.proofs.Common.{◌≡◌, ℕ, zero, suc, Bool, true, false, List, [], ◌∷◌, length, Option, Some, None, refl, sym, ap, subst, ◌∙◌, arith}
use Rattle.std.specs.Prelude.{unwrap_or}
use Rattle.std.specs.List.Sorted.{IsStrictlySortedBy}
use Rattle.std.proofs.lemmas.Option.{none-some, same_Some}
use Rattle.extents.specs.declared.extent_layout.ExtentLayout.{ExtentLayout}
use Rattle.extents.specs.declared.owned.Owned.{Owned}
use Rattle.extents.specs.declared.record.Record.{Record}
use Rattle.extents.specs.VolumeTables.{AreDistinct, HasRecord, extents_for, record_of}
use Rattle.volume_table.specs.Names.{is_same_name}
use Rattle.volume_table.specs.Volumes.{Block, Volume, VolumeList, VolumeMap, blocks_of, with_volume, need}
use Rattle.volume_table.specs.VolumeStep.{blocks_in}
use Rattle.volume_table.specs.Shows.{AreShown, IsOfVolume, Shows, records_need, used_records}
use Rattle.volume_table.proofs.VolumeLemmas.{Rising, same_name_is, same_name_itself, rising_with_volume, length-with_new, need-with_new, found_with_volume}
use Rattle.volume_table.proofs.VolumeLemmas.{others_with_volume, known_by_blocks}
use Rattle.volume_table.proofs.ShowsLemmas.{distinct_names, same_found}

-- the volume of a record, with its blocks in these volumes
abbrev pub volume_of : VolumeList → Record → Volume
volume_of volumes entry = record { name = entry.name.bytes.items; blocks = blocks_in entry.name.bytes.items volumes }

-- the volumes of the records
abbrev pub listed : VolumeList → List (Option Record) → VolumeList
listed volumes [] = []
listed volumes (None ∷ records) = listed volumes records
listed volumes (Some entry ∷ records) = with_volume (volume_of volumes entry) (listed volumes records)

rising_listed : (volumes : VolumeList) (records : List (Option Record)) → Rising (listed volumes records)
unfolding IsStrictlySortedBy
rising_listed volumes [] = tt
rising_listed volumes (None ∷ records) = rising_listed volumes records
rising_listed volumes (Some entry ∷ records) = rising_with_volume (volume_of volumes entry) (listed volumes records) (rising_listed volumes records)

-- where names differ, the test says so
differ : (first second : List ℕ) → is_same_name first second ≡ false → first ≡ second → ⊥
differ first second e same = absurd (grind (arith, told))
  where
    told : true ≡ false
    told = sym (same_name_itself second) ∙ ap (λ n. is_same_name n second) (sym same) ∙ e

-- each record's volume is among them
listed_has : (volumes : VolumeList) (records : List (Option Record)) (number : ℕ) (entry : Record) → record_of records number ≡ Some entry
    → blocks_of entry.name.bytes.items (listed volumes records) ≡ Some (blocks_in entry.name.bytes.items volumes)
listed_has volumes [] number entry used = absurd (none-some entry used)
listed_has volumes (None ∷ records) zero entry used = absurd (none-some entry used)
listed_has volumes (None ∷ records) (suc number) entry used = listed_has volumes records number entry used
listed_has volumes (Some first ∷ records) zero entry used =
    subst (λ (r : Record). blocks_of r.name.bytes.items (with_volume (volume_of volumes first) (listed volumes records)) ≡ Some
    (blocks_in r.name.bytes.items volumes)) (same_Some first entry used)
    (found_with_volume (volume_of volumes first) (listed volumes records))
listed_has volumes (Some first ∷ records) (suc number) entry used =
    by_case (listed_has volumes records number entry used) (is_same_name entry.name.bytes.items first.name.bytes.items) refl
  where
    by_case : (blocks_of entry.name.bytes.items (listed volumes records) ≡ Some (blocks_in entry.name.bytes.items volumes)) → (b : Bool)
        → is_same_name entry.name.bytes.items first.name.bytes.items ≡ b
        → blocks_of entry.name.bytes.items (with_volume (volume_of volumes first) (listed volumes records)) ≡ Some (blocks_in entry.name.bytes.items volumes)
    by_case rec true e =
        subst (λ n. blocks_of n (with_volume (volume_of volumes first) (listed volumes records)) ≡ Some (blocks_in n volumes))
        (sym (same_name_is entry.name.bytes.items first.name.bytes.items e))
        (found_with_volume (volume_of volumes first) (listed volumes records))
    by_case rec false e = others_with_volume entry.name.bytes.items (volume_of volumes first) (listed volumes records)
        (differ entry.name.bytes.items first.name.bytes.items e) ∙ rec

-- and no other
record FromRecord (volumes : VolumeList) (records : List (Option Record)) (name : List ℕ) (blocks : List Block) : Type 0 where
  number : ℕ
  entry : Record
  used : record_of records number ≡ Some entry
  named : entry.name.bytes.items ≡ name
  same : blocks ≡ blocks_in name volumes

listed_from : (volumes : VolumeList) (records : List (Option Record)) (name : List ℕ) (blocks : List Block)
    → blocks_of name (listed volumes records) ≡ Some blocks → FromRecord volumes records name blocks
listed_from volumes [] name blocks found = absurd (none-some blocks found)
listed_from volumes (None ∷ records) name blocks found =
    let from = listed_from volumes records name blocks found in
    record { number = suc from.number; entry = from.entry; used = from.used; named = from.named; same = from.same }
listed_from volumes (Some first ∷ records) name blocks found = by_case (listed_from volumes records name blocks) (is_same_name name first.name.bytes.items) refl
  where
    by_case : (blocks_of name (listed volumes records) ≡ Some blocks → FromRecord volumes records name blocks) → (b : Bool)
        → is_same_name name first.name.bytes.items ≡ b → FromRecord volumes (Some first ∷ records) name blocks
    by_case rec true e =
        let named : name ≡ first.name.bytes.items = same_name_is name first.name.bytes.items e in
        let here : Some blocks ≡ Some (blocks_in first.name.bytes.items volumes) =
        sym found ∙ ap (λ n. blocks_of n (with_volume (volume_of volumes first) (listed volumes records))) named
        ∙ found_with_volume (volume_of volumes first) (listed volumes records) in
        record {
          number = 0;
          entry = first;
          used = refl;
          named = sym named;
          same = same_Some blocks (blocks_in first.name.bytes.items volumes) here
              ∙ ap (λ n. blocks_in n volumes) (sym named);
        }
    by_case rec false e =
        let from = rec (sym (others_with_volume name (volume_of volumes first) (listed volumes records) (differ name first.name.bytes.items e)) ∙ found) in
        record { number = suc from.number; entry = from.entry; used = from.used; named = from.named; same = from.same }

-- the records after the first have distinct names
distinct_rest : (first : Option Record) (records : List (Option Record)) → AreDistinct (first ∷ records) → AreDistinct records
distinct_rest first records distinct i j one two used_one used_two same =
    let next : suc i ≡ suc j = distinct (suc i) (suc j) one two used_one used_two same in
    omega (arith, next)

-- the first record's name is not among the others
pub not_again : (volumes : VolumeList) (first : Record) (records : List (Option Record)) → AreDistinct (Some first ∷ records)
    → blocks_of first.name.bytes.items (listed volumes records) ≡ None
not_again volumes first records distinct = by_case (blocks_of first.name.bytes.items (listed volumes records)) refl
  where
    by_case : (o : Option (List Block)) → blocks_of first.name.bytes.items (listed volumes records) ≡ o → o ≡ None
    by_case None e = refl
    by_case (Some blocks) e =
        let from = listed_from volumes records first.name.bytes.items blocks e in
        let again : 0 ≡ suc from.number = distinct 0 (suc from.number) first from.entry refl from.used (sym from.named) in
        absurd (omega (arith, again))

length-listed : (volumes : VolumeList) (records : List (Option Record)) → AreDistinct records → length (listed volumes records) ≡ used_records records
length-listed volumes [] distinct = refl
length-listed volumes (None ∷ records) distinct = length-listed volumes records (distinct_rest None records distinct)
length-listed volumes (Some first ∷ records) distinct =
    let rest = length-listed volumes records (distinct_rest (Some first) records distinct) in
    let more = length-with_new (volume_of volumes first) (listed volumes records) (rising_listed volumes records) (not_again volumes first records distinct) in
    omega (arith, rest, more)

need-listed : (each : ℕ) (volumes : VolumeList) (records : List (Option Record)) → AreDistinct records
    → ((number : ℕ) (entry : Record) → record_of records number ≡ Some entry → length (blocks_in entry.name.bytes.items volumes) ≡ entry.blocks)
    → need each (listed volumes records) ≡ records_need each records
need-listed each volumes [] distinct as_long = refl
need-listed each volumes (None ∷ records) distinct as_long =
    let rest = need-listed each volumes records (distinct_rest None records distinct) (λ number entry used. as_long (suc number) entry used) in
    omega (arith, rest)
need-listed each volumes (Some first ∷ records) distinct as_long =
    let rest = need-listed each volumes records (distinct_rest (Some first) records distinct) (λ number entry used. as_long (suc number) entry used) in
    let more = need-with_new each (volume_of volumes first) (listed volumes records) (rising_listed volumes records)
    (not_again volumes first records distinct) in
    let same : extents_for each (length (blocks_in first.name.bytes.items volumes)) ≡ extents_for each first.blocks =
    ap (extents_for each) (as_long 0 first refl) in
    omega (arith, rest, more, same)

-- the blocks of a record's volume
pub record_blocks : {extents : ExtentLayout} (records : List (Option Record)) (owners : List (Option Owned)) (sectors : List Block) (volumes : VolumeList)
    → AreShown extents records owners sectors volumes → (number : ℕ) (entry : Record) → record_of records number ≡ Some entry
    → length (blocks_in entry.name.bytes.items volumes) ≡ entry.blocks
record_blocks {extents} records owners sectors volumes shown number entry used =
    let was : IsOfVolume extents owners sectors volumes number entry = shown.used number entry used in
    ap (λ o. length (unwrap_or o [])) was.named ∙ was.as_long

-- the volumes of the records are the volumes
pub listed_are : {extents : ExtentLayout} (records : List (Option Record)) (owners : List (Option Owned)) (sectors : List Block) (volumes : VolumeList)
    → Rising volumes
    → AreShown extents records owners sectors volumes → listed volumes records ≡ volumes
listed_are {extents} records owners sectors volumes rising shown =
    known_by_blocks (listed volumes records) volumes (rising_listed volumes records) rising (λ name.
    same_found (blocks_of name (listed volumes records)) (blocks_of name volumes) (there name) (back name))
  where
    there : (name : List ℕ) (blocks : List Block) → blocks_of name (listed volumes records) ≡ Some blocks → blocks_of name volumes ≡ Some blocks
    there name blocks found =
        let from = listed_from volumes records name blocks found in
        let was : IsOfVolume extents owners sectors volumes from.number from.entry = shown.used from.number from.entry from.used in
        let here : blocks_of name volumes ≡ Some was.blocks = ap (λ n. blocks_of n volumes) (sym from.named) ∙ was.named in
        here ∙ sym (ap Some (from.same ∙ ap (λ o. unwrap_or o []) here))

    back : (name : List ℕ) (blocks : List Block) → blocks_of name volumes ≡ Some blocks → blocks_of name (listed volumes records) ≡ Some blocks
    back name blocks found =
        let has : HasRecord records name = shown.all name blocks found in
        ap (λ n. blocks_of n (listed volumes records)) (sym has.named) ∙ listed_has volumes records has.number has.entry has.used
        ∙ ap (λ n. Some (blocks_in n volumes)) has.named ∙ ap (λ o. Some (unwrap_or o [])) found

pub records_are_counted : (extents : ExtentLayout) (sectors : List Block) (volumes : VolumeMap) (shows : Shows extents sectors volumes)
    → (length volumes.volumes ≡ used_records shows.table.records) × (need extents.blocks volumes.volumes ≡ records_need extents.blocks shows.table.records)
records_are_counted extents sectors volumes shows =
    let records = shows.table.records in
    let owners = shows.table.extents in
    let distinct : AreDistinct records = distinct_names shows.table.version records owners shows.table.is_table in
    let same : listed volumes.volumes records ≡ volumes.volumes = listed_are records owners sectors volumes.volumes shows.limits.rising shows.shown in (
      ap length (sym same) ∙ length-listed volumes.volumes records distinct,
      ap (need extents.blocks) (sym same)
          ∙ need-listed extents.blocks volumes.volumes records distinct (record_blocks records owners sectors volumes.volumes shows.shown),
    )
