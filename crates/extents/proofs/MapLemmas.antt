-- What the taking and the giving back of extents keep.
use Rattle.std.proofs.Common.{◌≡◌, ◌≢◌, ◌⊎◌, inl, inr, ℕ, ◌+◌, ◌-◌, ◌<◌, ◌≤◌, Bool, List, length, Option, None, is_none, refl, sym, ◌∙◌, subst}
use Rattle.std.proofs.Common.{mul-one, replicate, cond, arith}
use Rattle.std.specs.List.{refill}
use Rattle.arrayvec.proofs.ArrayVecLemmas.{items-with_items}
use Rattle.std.proofs.lemmas.Bool.{cases_lt, cases_eq}
use Rattle.std.proofs.lemmas.List.{get_or_past, get_or-replicate, length-replicate}
use Rattle.std.proofs.lemmas.List.Sums.{count_by-le-length}
use Rattle.std.proofs.lemmas.List.Folds.{sum_by-replicate}
use Rattle.extents.specs.declared.owned.Owned.{Owned}
use Rattle.extents.specs.Owners.{owner_of, IsAt, HasPlaces}
use Rattle.extents.specs.ExtentMaps.{IsExtentMap, free_of, free_before, is_of, count_of, IsTaken, IsGivenBack}
use Rattle.extents.proofs.OwnerLemmas.{free_or_owned, owned_is_within, owned_is_not_free, owner_is_one}
use Rattle.extents.proofs.CountLemmas.{count_of_places}
use Rattle.extents.proofs.TakeOrder.{free_is_one, find_next}
use Rattle.layout_map.specs.declared.sizes.TheConstants.{MOST_EXTENTS}
use Rattle.extents.specs.declared.volume_table.TheConstants.{MOST_VOLUMES}

-- a write of all extents leaves what was written
pub all_written : (old new : List (Option Owned)) → length new ≡ length old → refill (length old) old new ≡ new
all_written old new same = items-with_items record { items = old } new same

-- an extent that was taken
pub record IsFresh (dirty : List Bool) (old : List (Option Owned)) (volume n extent v place : ℕ) : Type 0 where
  pub within : extent < length old
  pub free : owner_of old extent ≡ None
  pub few : free_before dirty old extent < n
  pub volume_is : v ≡ volume
  pub place_is : place ≡ count_of old volume + free_before dirty old extent

module _ (dirty : List Bool) (old new : List (Option Owned)) (volume n : ℕ) (taken : IsTaken dirty old new volume n) where
  -- an extent that is some volume's now was so before, or was taken
  pub kept_or_fresh : (extent v place : ℕ) → IsAt new extent v place → IsAt old extent v place ⊎ IsFresh dirty old volume n extent v place
  kept_or_fresh extent v place at = elim (free_or_owned old extent) [
    | inr owned ↦
        let same = owner_is_one new extent owned.volume owned.place v place (taken.kept extent owned.volume owned.place owned.at) at in
        inl (subst (λ x. IsAt old extent x place) same.0 (subst (λ x. IsAt old extent owned.volume x) same.1 owned.at))
    | inl free ↦
        let within : extent < length old = omega (arith, owned_is_within new extent v place at, taken.extents) in
        elim (cases_lt (free_before dirty old extent) n) [
          | inl few ↦
              let same = owner_is_one new extent v place volume (count_of old volume + free_before dirty old extent) at (taken.taken extent within free few) in
              inr record { within = within; free = free; few = few; volume_is = same.0; place_is = same.1 }
          | inr many ↦ absurd (owned_is_not_free new extent v place at (taken.left extent free many))
        ]
  ]

  -- the volume has the taken extents at the places after its last
  pub taken_places : HasPlaces old volume (count_of old volume) → n ≤ free_of old → HasPlaces new volume (count_of old volume + n)
  taken_places places enough = record {
    extent_at = λ place below. elim (cases_lt place (count_of old volume)) [
      | inl before ↦ let there = places.extent_at place before in (there.0, taken.kept there.0 volume place there.1)
      | inr after ↦
          let found = find_next dirty old (place - count_of old volume) (omega arith) in
          let is_place : count_of old volume + free_before dirty old found.0 ≡ place = omega (arith, found.1.before) in
          (found.0, subst (λ p. IsAt new found.0 volume p) is_place (taken.taken found.0 found.1.within found.1.free (omega (arith, found.1.before))))
    ];
    below = λ extent place at. elim (kept_or_fresh extent volume place at) [
      | inl kept ↦ omega (arith, places.below extent place kept)
      | inr fresh ↦ omega (arith, fresh.few, fresh.place_is)
    ];
    once = λ one two place at_one at_two. elim (kept_or_fresh one volume place at_one) [
      | inl kept_one ↦ elim (kept_or_fresh two volume place at_two) [
        | inl kept_two ↦ places.once one two place kept_one kept_two
        | inr fresh_two ↦ absurd (omega (arith, places.below one place kept_one, fresh_two.place_is))
      ]
      | inr fresh_one ↦ elim (kept_or_fresh two volume place at_two) [
        | inl kept_two ↦ absurd (omega (arith, places.below two place kept_two, fresh_one.place_is))
        | inr fresh_two ↦ free_is_one dirty old one two fresh_one.within fresh_two.within fresh_one.free fresh_two.free
            (omega (arith, fresh_one.place_is, fresh_two.place_is))
      ]
    ];
  }

  -- the extents of another volume are those that it had
  pub taken_kept : (extent other place : ℕ) → other ≢ volume → IsAt new extent other place → IsAt old extent other place
  taken_kept extent other place apart at = elim (kept_or_fresh extent other place at) [
    | inl kept ↦ kept
    | inr fresh ↦ absurd (apart fresh.volume_is)
  ]

  -- another volume has the places that it had
  pub taken_others : (other count : ℕ) → other ≢ volume → HasPlaces old other count → HasPlaces new other count
  taken_others other count apart places = record {
    extent_at = λ place below. let there = places.extent_at place below in (there.0, taken.kept there.0 other place there.1);
    below = λ extent place at. places.below extent place (taken_kept extent other place apart at);
    once = λ one two place at_one at_two.
        places.once one two place (taken_kept one other place apart at_one) (taken_kept two other place apart at_two);
  }

  -- what is a map of extents is one after extents were taken
  pub taken_is_map : IsExtentMap old → volume < MOST_VOLUMES → n ≤ free_of old → IsExtentMap new
  taken_is_map map within enough =
      let its = map.places volume in
      let places : HasPlaces old volume (count_of old volume) = subst (λ x. HasPlaces old volume x) (sym (count_of_places old volume its.0 its.1)) its.1 in
      record {
        at_most = omega (arith, map.at_most, taken.extents);
        volumes = λ extent v place at. elim (kept_or_fresh extent v place at) [
          | inl kept ↦ map.volumes extent v place kept
          | inr fresh ↦ omega (arith, fresh.volume_is)
        ];
        places = λ v. elim (cases_eq v volume) [
          | inl same ↦ (count_of old volume + n, subst (λ x. HasPlaces new x (count_of old volume + n)) (sym same) (taken_places places enough))
          | inr other ↦ let had = map.places v in (had.0, taken_others v had.0 other had.1)
        ];
      }

-- an extent that is some volume's after extents were given back was so before, and the volume is another
pub given_kept : (old new : List (Option Owned)) (volume extent v place : ℕ) → IsGivenBack old new volume → IsAt new extent v place → IsAt old extent v place
    × (v ≢ volume)
given_kept old new volume extent v place given at = elim (free_or_owned old extent) [
  | inl free ↦ absurd (owned_is_not_free new extent v place at (given.left extent free))
  | inr owned ↦ elim (cases_eq owned.volume volume) [
    | inl same ↦ absurd (owned_is_not_free new extent v place at (given.freed extent owned.place (subst (λ x. IsAt old extent x owned.place) same owned.at)))
    | inr other ↦
        let is = owner_is_one new extent owned.volume owned.place v place (given.kept extent owned.volume owned.place other owned.at) at in
        (subst (λ x. IsAt old extent x place) is.0 (subst (λ x. IsAt old extent owned.volume x) is.1 owned.at), λ same. other (is.0 ∙ same))
  ]
]

-- the volume has no place any more
pub given_none_left : (old new : List (Option Owned)) (volume : ℕ) → IsGivenBack old new volume → HasPlaces new volume 0
given_none_left old new volume given = record {
  extent_at = λ place below. absurd (omega arith);
  below = λ extent place at. absurd ((given_kept old new volume extent volume place given at).1 refl);
  once = λ one two place at_one at_two. absurd ((given_kept old new volume one volume place given at_one).1 refl);
}

-- another volume has the places that it had
pub given_others : (old new : List (Option Owned)) (volume other count : ℕ) → IsGivenBack old new volume → other ≢ volume → HasPlaces old other count
    → HasPlaces new other count
given_others old new volume other count given apart places = record {
  extent_at = λ place below. let there = places.extent_at place below in (there.0, given.kept there.0 other place apart there.1);
  below = λ extent place at. places.below extent place (given_kept old new volume extent other place given at).0;
  once = λ one two place at_one at_two.
      places.once one two place (given_kept old new volume one other place given at_one).0 (given_kept old new volume two other place given at_two).0;
}

-- what is a map of extents is one after extents were given back
pub given_is_map : (old new : List (Option Owned)) (volume : ℕ) → IsExtentMap old → IsGivenBack old new volume → IsExtentMap new
given_is_map old new volume map given = record {
  at_most = omega (arith, map.at_most, given.extents);
  volumes = λ extent v place at. map.volumes extent v place (given_kept old new volume extent v place given at).0;
  places = λ v. elim (cases_eq v volume) [
    | inl same ↦ (0, subst (λ x. HasPlaces new x 0) (sym same) (given_none_left old new volume given))
    | inr other ↦ let had = map.places v in (had.0, given_others old new volume v had.0 given other had.1)
  ];
}

-- a volume has no more places than the map has extents, and no more are free
pub places_fit : (owners : List (Option Owned)) (volume n : ℕ) → IsExtentMap owners → n ≤ free_of owners → count_of owners volume + n ≤ 65536
places_fit owners volume n map enough = omega (
  arith,
  map.at_most,
  count_by-le-length (is_of volume) owners,
  count_by-le-length {X = Option Owned} is_none owners,
)

none_at : (n extent : ℕ) → owner_of (replicate n None) extent ≡ None
none_at n extent = elim (cases_lt extent n) [
  | inl within ↦ get_or-replicate n extent None None within
  | inr beyond ↦ get_or_past (replicate n None) extent None (omega (arith, length-replicate {A = Option Owned} n None))
]

-- where no extent has an owner, the extents are a map
pub none_is_map : (n : ℕ) → n ≤ MOST_EXTENTS → IsExtentMap (replicate n None)
none_is_map n few = record {
  at_most = omega (arith, length-replicate {A = Option Owned} n None);
  volumes = λ extent v place at. absurd (owned_is_not_free (replicate n None) extent v place at (none_at n extent));
  places = λ v. (
    0,
    record {
      extent_at = λ place below. absurd (omega arith);
      below = λ extent place at. absurd (owned_is_not_free (replicate n None) extent v place at (none_at n extent));
      once = λ one two place at_one at_two. absurd (owned_is_not_free (replicate n None) one v place at_one (none_at n one));
    },
  );
}

-- and all are free
pub none_is_free : (n : ℕ) → free_of (replicate n None) ≡ n
none_is_free n = sum_by-replicate {X = Option Owned} (λ o. cond (is_none o) 1 0) n None ∙ mul-one n
