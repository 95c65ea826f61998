-- The extents that are free are those that the volumes do not need.
use Rattle.std.proofs.Common.{◌≡◌, ⊎_elim, ℕ, zero, suc, ◌+◌, ◌≤◌, List, [], ◌∷◌, ◌++◌, length, take, get_or, Option, None, refl, sym, ap, ◌∙◌, arith}
use Rattle.std.proofs.Props.{props}
use Rattle.std.proofs.Math.Logic.{∥∥₁_elim}
use Rattle.std.proofs.lemmas.Bool.{cases_lt}
use Rattle.std.proofs.lemmas.List.{get_or-take, length-take, take_more, take_all}
use Rattle.extents.specs.declared.extent_layout.ExtentLayout.{ExtentLayout}
use Rattle.extents.specs.declared.owned.Owned.{Owned}
use Rattle.extents.specs.declared.record.Record.{Record}
use Rattle.extents.specs.ExtentLaws.{counted_below, IsCounted}
use Rattle.extents.specs.ExtentMaps.{IsExtentMap, free_of, count_of}
use Rattle.extents.specs.Owners.{owner_of, HasPlaces}
use Rattle.extents.specs.VolumeTables.{record_of, extents_of, HaveTheirPlaces, IsVolumeTable}
use Rattle.extents.proofs.CountLemmas.{count_of_places}
use Rattle.extents.proofs.ExtentLawLemmas.{extents_are_counted}
use Rattle.volume_table.specs.Volumes.{Block, VolumeMap, need}
use Rattle.volume_table.specs.Shows.{Shows, records_need}
use Rattle.volume_table.proofs.CountLemmas.{records_are_counted}
use Rattle.extents.specs.declared.volume_table.TheConstants.{MOST_VOLUMES}

-- what stands after a list is its default
get_or_past : {X : Type 0} (xs : List X) (k : ℕ) (d : X) → length xs ≤ k → get_or xs k d ≡ d
get_or_past [] k d past = refl
get_or_past (x ∷ xs) zero d past = absurd (omega arith)
get_or_past (x ∷ xs) (suc k) d past = get_or_past xs k d (omega arith)

-- the owners of the set's extents are those of the table
same_owner : (extents : ExtentLayout) (owners : List (Option Owned)) → ((extent : ℕ) → extents.count ≤ extent → owner_of owners extent ≡ None) → (extent : ℕ)
    → owner_of (take extents.count owners) extent ≡ owner_of owners extent
same_owner extents owners free extent = ⊎_elim (λ below. get_or-take extents.count owners extent None below) past (cases_lt extent extents.count)
  where
    past : extents.count ≤ extent → owner_of (take extents.count owners) extent ≡ owner_of owners extent
    past above = get_or_past (take extents.count owners) extent None (omega (arith, length-take extents.count owners)) ∙ sym (free extent above)

-- a volume has the same places in both
same_places : (extents : ExtentLayout) (owners : List (Option Owned)) (volume n : ℕ) → ((extent : ℕ) → extents.count ≤ extent → owner_of owners extent ≡ None)
    → HasPlaces owners volume n → HasPlaces (take extents.count owners) volume n
same_places extents owners volume n free has =
    record {
      extent_at = λ place within. let at = has.extent_at place within in (at.0, same_owner extents owners free at.0 ∙ at.1);
      below = λ extent place at. has.below extent place (sym (same_owner extents owners free extent) ∙ at);
      once = λ first second place one two. has.once first second place (sym (same_owner extents owners free first) ∙ one)
          (sym (same_owner extents owners free second) ∙ two);
    }

pub table_is_extent_map : (extents : ExtentLayout) (version : ℕ) (records : List (Option Record)) (owners : List (Option Owned))
    → IsVolumeTable version records owners
    → ((extent : ℕ) → extents.count ≤ extent → owner_of owners extent ≡ None) → IsExtentMap (take extents.count owners)
table_is_extent_map extents version records owners table free =
    record {
      at_most = omega (arith, extents.limits.most, length-take extents.count owners);
      volumes = λ extent volume place at. table.map.volumes extent volume place (sym (same_owner extents owners free extent) ∙ at);
      places = λ volume. let its = table.map.places volume in (its.0, same_places extents owners volume its.0 free its.1);
    }

-- the extents of records, and of one more
records_need-append : (each : ℕ) (records more : List (Option Record))
    → records_need each (records ++ more) ≡ records_need each records + records_need each more
records_need-append each [] more = omega arith
records_need-append each (entry ∷ records) more = omega (arith, records_need-append each records more)

-- the extents of the first n volumes are those of the first n records
counted_are_needed : (each : ℕ) (owners : List (Option Owned)) (records : List (Option Record)) (n : ℕ)
    → ((volume : ℕ) → count_of owners volume ≡ extents_of each (record_of records volume)) → n ≤ length records
    → counted_below owners n ≡ records_need each (take n records)
unfolding counted_below
counted_are_needed each owners records zero counts within = refl
counted_are_needed each owners records (suc n) counts within =
    let rest = counted_are_needed each owners records n counts (omega arith) in
    let here = counts n in
    let next : suc n ≡ n + 1 = omega arith in
    let more : records_need each (take (n + 1) records) ≡ records_need each
    (take n records) + (extents_of each (record_of records n) + 0) =
    ap (records_need each) (take_more records n None (omega arith)) ∙ records_need-append each (take n records) (record_of records n ∷ []) in
    let last : records_need each (take (suc n) records) ≡ records_need each (take (n + 1) records) =
    ap (λ m. records_need each (take m records)) next in
    omega (arith, rest, here, more, last)

free_by_table : (extents : ExtentLayout) (version : ℕ) (records : List (Option Record)) (owners : List (Option Owned))
    → IsVolumeTable version records owners → HaveTheirPlaces extents.blocks records owners
    → ((extent : ℕ) → extents.count ≤ extent → owner_of owners extent ≡ None)
    → free_of (take extents.count owners) + records_need extents.blocks records ≡ extents.count
free_by_table extents version records owners table placed free =
    let its = take extents.count owners in
    let each = extents.blocks in
    let counted : IsCounted its = extents_are_counted its (table_is_extent_map extents version records owners table free) in
    let counts : (volume : ℕ) → count_of its volume ≡ extents_of each (record_of records volume) =
    λ volume. count_of_places its volume (extents_of each (record_of records volume))
    (same_places extents owners volume (extents_of each (record_of records volume)) free (placed volume)) in
    let needed = counted_are_needed each its records MOST_VOLUMES counts (omega (arith, table.all_records)) in
    let all : records_need each (take MOST_VOLUMES records) ≡ records_need each records =
    ap (records_need each) (take_all MOST_VOLUMES records (omega (arith, table.all_records))) in
    omega (arith, counted.all, needed, all, length-take extents.count owners, table.all_extents, extents.limits.most)

pub free_is_not_needed : (extents : ExtentLayout) (sectors : List Block) (volumes : VolumeMap) (shows : Shows extents sectors volumes)
    → free_of (take extents.count shows.table.extents) + need extents.blocks volumes.volumes ≡ extents.count
free_is_not_needed extents sectors volumes shows =
    let records = shows.table.records in
    let owners = shows.table.extents in
    ap (λ n. free_of (take extents.count owners) + n) (records_are_counted extents sectors volumes shows).1
    ∙ ∥∥₁_elim shows.table.is_table (hlevel props) (λ table. ∥∥₁_elim shows.of_set.placed (hlevel props) (λ placed.
    free_by_table extents shows.table.version records owners table placed shows.of_set.free_beyond))
