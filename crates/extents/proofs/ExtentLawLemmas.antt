-- The laws of maps of extents.
use Rattle.std.proofs.Common.{◌≡◌, ◌≢◌, ◌⊎◌, inl, inr, ℕ, zero, suc, ◌+◌, ◌-◌, ◌*◌, ◌<◌, ◌≤◌, ◌==◌, nat_lt, not, min, Bool, true, false, cond, List}
use Rattle.std.proofs.Common.{[], ◌∷◌, length, take, count_by, Option, Some, None, is_none, is_some, get_or, refl, sym, ◌∙◌, ap, subst, arith}
use Rattle.std.proofs.lemmas.Bool.{cases_Bool, cases_lt, cases_eq}
use Rattle.std.proofs.lemmas.Bool.Decides.{nat_tests}
use Rattle.std.proofs.lemmas.List.{take_all, ext_get_or}
use Rattle.std.proofs.lemmas.List.Sums.{count_by_more_yes, count_by_more_no}
use Rattle.extents.specs.declared.extent_layout.ExtentLayout.{ExtentLayout}
use Rattle.extents.specs.declared.owned.Owned.{Owned}
use Rattle.extents.specs.Owners.{owner_of, IsAt, HasPlaces}
use Rattle.extents.specs.ExtentMaps.{IsExtentMap, free_of, free_before, is_of, count_of, is_dirty, is_wanted, comes_before, IsTaken}
use Rattle.extents.specs.ExtentMaps.{IsGivenBack, HasPlace, IsWhere, place_of}
use Rattle.extents.specs.ExtentLaws.{counted_below, IsCounted, TakingKeeps, GivingBackKeeps}
use Rattle.extents.proofs.OwnerLemmas.{HasOwner, free_or_owned, owned_is_within, owned_is_not_free, owner_is_one}
use Rattle.extents.proofs.Blocks.{block_is_one, sector_is_of_one, sector_within}
use Rattle.extents.proofs.CountLemmas.{count_cons, count_same, count_none, count_parts, count_of_places}
use Rattle.extents.proofs.FreeExtents.{all_below, all_below_free, all_below_owned, free_below_none, free_below_free, free_below_apart, free_below_owned}
use Rattle.extents.proofs.FreeExtents.{free_of_every}
use Rattle.extents.proofs.TakeOrder.{clean_below, dirty_below, every_part, before_clean, before_dirty, before_rises, fewer_first}
use Rattle.extents.proofs.MapLemmas.{IsFresh, kept_or_fresh, taken_kept, taken_places, taken_is_map, given_kept, given_none_left, given_is_map}
use Rattle.extents.specs.declared.volume_table.TheConstants.{MOST_VOLUMES}

-- an extent with this owner is that of a volume below this one
abbrev is_below : ℕ → Option Owned → Bool
is_below volume None = false
is_below volume (Some owned) = nat_lt owned.volume volume

below_parts : (volume : ℕ) (owner : Option Owned) → cond (is_below (suc volume) owner) 1 0 ≡ cond (is_below volume owner) 1 0 + cond (is_of volume owner) 1 0
below_parts volume None = refl
below_parts volume (Some owned) = grind (arith, nat_tests)

none_below : (owner : Option Owned) → is_below 0 owner ≡ false
none_below None = refl
none_below (Some owned) = grind (arith, nat_tests)

counted_is : (owners : List (Option Owned)) (volume : ℕ) → counted_below owners volume ≡ count_by (is_below volume) owners
unfolding counted_below
counted_is owners zero = sym (count_none (is_below 0) owners None (λ k within. none_below (get_or owners k None)))
counted_is owners (suc volume) = omega (
  arith,
  counted_is owners volume,
  count_parts (is_below (suc volume)) (is_below volume) (is_of volume)
      (below_parts volume) owners,
)

free_or_not : (owner : Option Owned) → cond (is_none owner) 1 0 + cond (is_some owner) 1 0 ≡ 1
free_or_not None = refl
free_or_not (Some owned) = refl

count_all : (owners : List (Option Owned)) → free_of owners + count_by is_some owners ≡ length owners
count_all [] = refl
count_all (owner ∷ owners) = omega (arith, count_all owners, free_or_not owner, count_cons is_none owner owners, count_cons is_some owner owners)

-- each extent is free or counted for a volume
pub extents_are_counted : (owners : List (Option Owned)) → IsExtentMap owners → IsCounted owners
extents_are_counted owners map = record {
  places = λ volume. let its = map.places volume in subst (λ n. HasPlaces owners volume n) (sym (count_of_places owners volume its.0 its.1)) its.1;
  all = omega (arith, count_all owners, count_same is_some (is_below MOST_VOLUMES) owners None (λ k within. agree k), counted_is owners MOST_VOLUMES);
}
  where
    agree : (k : ℕ) → is_some (get_or owners k None) ≡ is_below MOST_VOLUMES (get_or owners k None)
    agree k = elim (free_or_owned owners k) [
      | inl free ↦ rw free refl
      | inr owned ↦ let below : owned.volume < MOST_VOLUMES = map.volumes k owned.volume owned.place owned.at in rw owned.at (grind (arith, nat_tests))
    ]

module _ (dirty : List Bool) (old new : List (Option Owned)) (volume n : ℕ) (taken : IsTaken dirty old new volume n) where
  -- as many extents fewer are free below the next one, where it is free
  next_left : (extent : ℕ) → extent < length old → owner_of old extent ≡ None
      → ((free_before dirty old extent < n) × (all_below new (extent + 1) ≡ all_below new extent))
      ⊎ ((n ≤ free_before dirty old extent) × (all_below new (extent + 1) ≡ all_below new extent + 1))
  next_left extent within free = elim (cases_lt (free_before dirty old extent) n) [
    | inl few ↦ inl (
      few,
      all_below_owned new extent record {
        volume = volume;
        place = count_of old volume + free_before dirty old extent;
        at = taken.taken extent within free few;
      },
    )
    | inr many ↦ inr (many, all_below_free new extent (omega (arith, taken.extents)) (taken.left extent free many))
  ]

  -- As many extents fewer are free below each one as were taken there: clean ones, and dirty ones where the clean ones are too few.
  free_after : (extent : ℕ) → extent ≤ length old
      → all_below new extent + min n (clean_below dirty old extent)
      + (min n (clean_below dirty old (length old) + dirty_below dirty old extent) - min n (clean_below dirty old (length old))) ≡ all_below old extent
  free_after zero within = omega (arith, free_below_none (is_wanted false dirty) old, free_below_none (is_dirty dirty) old)
  free_after (suc extent) within =
      let next : suc extent ≡ extent + 1 = omega arith in
      let so_far = free_after extent (omega arith) in
      let same_old = ap (all_below old) next in
      let same_new = ap (all_below new) next in
      let same_clean = ap (clean_below dirty old) next in
      let same_dirty = ap (dirty_below dirty old) next in
      elim (free_or_owned old extent) [
        | inr owned ↦
            let stays : HasOwner new extent = record {
              volume = owned.volume;
              place = owned.place;
              at = taken.kept extent owned.volume owned.place owned.at;
            } in
            omega (
              arith,
              so_far,
              same_old,
              same_new,
              same_clean,
              same_dirty,
              all_below_owned old extent owned,
              all_below_owned new extent stays,
              free_below_owned (is_wanted false dirty) old extent owned,
              free_below_owned (is_dirty dirty) old extent owned,
            )
        | inl free ↦ elim (cases_Bool (is_dirty dirty extent)) [
          | inl is ↦
              omega (
                arith,
                so_far,
                same_old,
                same_new,
                same_clean,
                same_dirty,
                all_below_free old extent (omega arith) free,
                next_left extent (omega arith) free,
                before_dirty dirty old extent (omega arith) is,
                free_below_apart (is_wanted false dirty) old extent (ap not is),
                free_below_free (is_dirty dirty) old extent free is,
              )
          | inr clean ↦
              omega (
                arith,
                so_far,
                same_old,
                same_new,
                same_clean,
                same_dirty,
                all_below_free old extent (omega arith) free,
                next_left extent (omega arith) free,
                before_clean dirty old extent (omega arith) clean,
                free_below_free (is_wanted false dirty) old extent free (ap not clean),
                free_below_apart (is_dirty dirty) old extent clean,
              )
        ]
      ]

  -- n extents fewer are free
  taken_free : n ≤ free_of old → free_of new + n ≡ free_of old
  taken_free enough =
      omega (
        arith,
        free_after (length old) (omega arith),
        free_of_every old,
        every_part dirty old (length old),
        ap free_of (take_all (length old) old (omega arith)),
        ap free_of (take_all (length old) new (omega (arith, taken.extents))),
      )

  -- an extent is left where it is free and n free ones come before it
  left_is : (extent : ℕ) → extent < length new → owner_of new extent ≡ None → (owner_of old extent ≡ None) × (n ≤ free_before dirty old extent)
  left_is extent within free = elim (free_or_owned old extent) [
    | inr owned ↦ absurd (owned_is_not_free new extent owned.volume owned.place (taken.kept extent owned.volume owned.place owned.at) free)
    | inl was_free ↦ elim (cases_lt (free_before dirty old extent) n) [
      | inl few ↦ absurd (owned_is_not_free new extent volume (count_of old volume + free_before dirty old extent)
          (taken.taken extent (omega (arith, taken.extents)) was_free few) free)
      | inr many ↦ (was_free, many)
    ]
  ]

  -- a free extent that is the volume's now was taken
  fresh_is : (extent place : ℕ) → owner_of old extent ≡ None → IsAt new extent volume place → IsFresh dirty old volume n extent volume place
  fresh_is extent place was_free at = elim (kept_or_fresh dirty old new volume n taken extent volume place at) [
    | inl kept ↦ absurd (owned_is_not_free old extent volume place kept was_free)
    | inr fresh ↦ fresh
  ]

  taken_lowest : (extent place other : ℕ) → owner_of old extent ≡ None → IsAt new extent volume place → other < length new → owner_of new other ≡ None
      → comes_before dirty extent other ≡ true
  taken_lowest extent place other was_free at within free =
      let fresh = fresh_is extent place was_free at in
      let left = left_is other within free in
      fewer_first dirty old extent other fresh.within (omega (arith, taken.extents)) left.0 (omega (arith, fresh.few, left.1))

  taken_rising : (extent other place place' : ℕ) → comes_before dirty extent other ≡ true → owner_of old extent ≡ None → owner_of old other ≡ None
      → IsAt new extent volume place → IsAt new other volume place' → place < place'
  taken_rising extent other place place' before free other_free at other_at =
      let one = fresh_is extent place free at in
      let two = fresh_is other place' other_free other_at in
      omega (arith, one.place_is, two.place_is, before_rises dirty old extent other one.within two.within free before)

  taken_one : (other : List (Option Owned)) → IsTaken dirty old other volume n → other ≡ new
  taken_one other also = ext_get_or None other new (also.extents ∙ sym taken.extents) (λ k within. same k (omega (arith, also.extents)))
    where
      same : (k : ℕ) → k < length old → get_or other k None ≡ get_or new k None
      same k within = elim (free_or_owned old k) [
        | inr owned ↦ also.kept k owned.volume owned.place owned.at ∙ sym (taken.kept k owned.volume owned.place owned.at)
        | inl free ↦ elim (cases_lt (free_before dirty old k) n) [
          | inl few ↦ also.taken k within free few ∙ sym (taken.taken k within free few)
          | inr many ↦ also.left k free many ∙ sym (taken.left k free many)
        ]
      ]

-- what extents that are taken do to a map
pub taking_keeps : (dirty : List Bool) (old new : List (Option Owned)) (volume n : ℕ) → IsExtentMap old → volume < MOST_VOLUMES → n ≤ free_of old
    → IsTaken dirty old new volume n
    → TakingKeeps dirty old new volume n
taking_keeps dirty old new volume n map within enough taken = record {
  map = taken_is_map dirty old new volume n taken map within enough;
  places = taken_places dirty old new volume n taken ((extents_are_counted old map).places volume) enough;
  others = λ extent other place apart. (taken_kept dirty old new volume n taken extent other place apart, taken.kept extent other place);
  free = taken_free dirty old new volume n taken enough;
  lowest = taken_lowest dirty old new volume n taken;
  rising = taken_rising dirty old new volume n taken;
  only = taken_one dirty old new volume n taken;
}

-- as many extents more are free below each extent as the volume had there
given_after : (old new : List (Option Owned)) (volume : ℕ) → IsGivenBack old new volume → (extent : ℕ) → extent ≤ length old
    → all_below new extent ≡ all_below old extent + count_of (take extent old) volume
given_after old new volume given zero within = omega arith
given_after old new volume given (suc extent) within =
    let next : suc extent ≡ extent + 1 = omega arith in
    let so_far = given_after old new volume given extent (omega arith) in
    let of_next : count_of (take (suc extent) old) volume ≡ count_of (take (extent + 1) old) volume = ap (λ e. count_of (take e old) volume) next in
    elim (free_or_owned old extent) [
      | inl free ↦
          omega (
            arith,
            so_far,
            all_below_free old extent (omega arith) free,
            all_below_free new extent (omega (arith, given.extents)) (given.left extent free),
            count_by_more_no (is_of volume) old extent None (omega arith) (ap (is_of volume) free),
            of_next,
            ap (all_below old) next,
            ap (all_below new) next,
          )
      | inr owned ↦ elim (cases_eq owned.volume volume) [
        | inl same ↦
            let its : IsAt old extent volume owned.place = subst (λ v. IsAt old extent v owned.place) same owned.at in
            omega (
              arith,
              so_far,
              all_below_owned old extent owned,
              all_below_free new extent (omega (arith, given.extents)) (given.freed extent owned.place its),
              count_by_more_yes (is_of volume) old extent None (omega arith) (ap (is_of volume) its ∙ own),
              of_next,
              ap (all_below old) next,
              ap (all_below new) next,
            )
        | inr other ↦
            let stays : HasOwner new extent = record {
              volume = owned.volume;
              place = owned.place;
              at =
                  given.kept extent owned.volume owned.place other owned.at;
            } in
            omega (
              arith,
              so_far,
              all_below_owned old extent owned,
              all_below_owned new extent stays,
              count_by_more_no (is_of volume) old extent None (omega arith) (ap (is_of volume) owned.at ∙ apart owned.volume other),
              of_next,
              ap (all_below old) next,
              ap (all_below new) next,
            )
      ]
    ]
  where
    own : (volume == volume) ≡ true
    own = grind (arith, nat_tests)

    apart : (v : ℕ) → v ≢ volume → (v == volume) ≡ false
    apart v other = grind (arith, nat_tests)

given_free : (old new : List (Option Owned)) (volume : ℕ) → IsGivenBack old new volume → free_of new ≡ free_of old + count_of old volume
given_free old new volume given =
    omega (
      arith,
      given_after old new volume given (length old) (omega arith),
      ap free_of (take_all (length old) old (omega arith)),
      ap free_of (take_all (length old) new (omega (arith, given.extents))),
      ap (λ owners. count_of owners volume) (take_all (length old) old (omega arith)),
    )

given_one : (old one other : List (Option Owned)) (volume : ℕ) → IsGivenBack old one volume → IsGivenBack old other volume → other ≡ one
given_one old one other volume so or_so = ext_get_or None other one (or_so.extents ∙ sym so.extents) (λ k within. same k)
  where
    same : (k : ℕ) → get_or other k None ≡ get_or one k None
    same k = elim (free_or_owned old k) [
      | inl free ↦ or_so.left k free ∙ sym (so.left k free)
      | inr owned ↦ elim (cases_eq owned.volume volume) [
        | inl is ↦
            let its : IsAt old k volume owned.place = subst (λ v. IsAt old k v owned.place) is owned.at in
            or_so.freed k owned.place its ∙ sym (so.freed k owned.place its)
        | inr apart ↦ or_so.kept k owned.volume owned.place apart owned.at ∙ sym (so.kept k owned.volume owned.place apart owned.at)
      ]
    ]

-- what extents that are given back do to a map
pub giving_back_keeps : (old new : List (Option Owned)) (volume : ℕ) → IsExtentMap old → IsGivenBack old new volume → GivingBackKeeps old new volume
giving_back_keeps old new volume map given = record {
  map = given_is_map old new volume map given;
  places = given_none_left old new volume given;
  others = λ extent other place apart. (λ at. (given_kept old new volume extent other place given at).0, given.kept extent other place apart);
  free = given_free old new volume given;
  only = λ other also. given_one old new other volume given also;
}

-- a block lies in one of the extents
pub block_is_within : (extents : ExtentLayout) (owners : List (Option Owned)) (volume block sector : ℕ) → HasPlace owners volume (place_of extents block)
    → IsWhere extents owners volume block sector
    → (extents.first ≤ sector) × (sector < extents.first + length owners * extents.blocks)
block_is_within extents owners volume block sector there is =
    let is_sector = is there.0 there.1 in
    let within = owned_is_within owners there.0 volume (place_of extents block) there.1 in
    (omega (arith, is_sector), omega (arith, is_sector, sector_within extents there.0 block (length owners) within))

-- no two blocks lie in one sector
pub sector_is_one : (extents : ExtentLayout) (owners : List (Option Owned)) (volume block other block' sector : ℕ)
    → HasPlace owners volume (place_of extents block) → HasPlace owners other (place_of extents block')
    → IsWhere extents owners volume block sector → IsWhere extents owners other block' sector → (volume ≡ other) × (block ≡ block')
sector_is_one extents owners volume block other block' sector there also is or_is =
    let parts = sector_is_of_one extents there.0 also.0 block block' (sym (is there.0 there.1) ∙ or_is also.0 also.1) in
    let owner = owner_is_one owners also.0 volume (place_of extents block) other (place_of extents block')
    (subst (λ e. IsAt owners e volume (place_of extents block)) parts.0 there.1) also.1 in
    (owner.0, block_is_one extents.blocks block block' owner.1 parts.1)
