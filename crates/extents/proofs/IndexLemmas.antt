-- The index of a map's extents: each extent that is not free has a place of its own in it.
use Rattle.std.proofs.Common.{◌≡◌, inl, inr, ℕ, zero, suc, ◌+◌, ◌-◌, ◌<◌, ◌≤◌, true, false, List, length, [], get_or, take, drop, replicate, Option, Some, None}
use Rattle.std.proofs.Common.{refl, sym, ◌∙◌, ap, subst, add-zero, length-take, length-drop, get_or-take, get_or-drop, arith}
use Rattle.std.proofs.lemmas.Bool.{cases_lt, cases_eq}
use Rattle.std.proofs.lemmas.Bool.Decides.{nat_tests}
use Rattle.std.proofs.lemmas.List.{get_or-replicate, length-replicate, get_or-set_same, get_or-set_other}
use Rattle.std.proofs.lemmas.List.Sums.{count_by-le-length, count_by_more_yes, count_by_more_no}
use Rattle.std.proofs.Math.ListN.{set, length-set}
use Rattle.extents.specs.declared.extent_index.ExtentIndex.{ExtentIndex}
use Rattle.extents.specs.declared.owned.Owned.{Owned}
use Rattle.extents.specs.Owners.{owner_of, IsAt, HasPlaces}
use Rattle.extents.specs.ExtentMaps.{IsExtentMap, free_of, is_of, count_of}
use Rattle.extents.specs.ExtentIndexes.{AreExtentsOf, AreStarts, ArePacked, IsIndexedMap}
use Rattle.extents.specs.ExtentLaws.{counted_below}
use Rattle.extents.proofs.OwnerLemmas.{owned_is_not_free, owner_is_one}
use Rattle.extents.proofs.ExtentLawLemmas.{extents_are_counted}
use Rattle.layout_map.specs.declared.sizes.TheConstants.{MOST_EXTENTS}
use Rattle.extents.specs.declared.volume_table.TheConstants.{MOST_VOLUMES}

counted_suc : (owners : List (Option Owned)) (volume : ℕ) → counted_below owners (suc volume) ≡ counted_below owners volume + count_of owners volume
unfolding counted_below
counted_suc owners volume = refl

-- the volumes below the next one have this one's extents more
pub counted_next : (owners : List (Option Owned)) (volume : ℕ) → counted_below owners (volume + 1) ≡ counted_below owners volume + count_of owners volume
counted_next owners volume = ap (counted_below owners) (next volume) ∙ counted_suc owners volume
  where
    next : (v : ℕ) → v + 1 ≡ suc v
    next v = omega arith

-- the volumes below 0 have none
pub counted_none : (owners : List (Option Owned)) → counted_below owners 0 ≡ 0
unfolding counted_below
counted_none owners = refl

-- the volumes below a later one have no fewer
counted_later : (owners : List (Option Owned)) (volume more : ℕ) → counted_below owners volume ≤ counted_below owners (volume + more)
counted_later owners volume zero = omega (arith, ap (counted_below owners) (add-zero volume))
counted_later owners volume (suc more) =
    omega (arith, counted_later owners volume more, counted_next owners (volume + more), ap (counted_below owners) (next volume more))
  where
    next : (a b : ℕ) → a + suc b ≡ a + b + 1
    next a b = omega arith

pub counted_rises : (owners : List (Option Owned)) (one two : ℕ) → one ≤ two → counted_below owners one ≤ counted_below owners two
counted_rises owners one two below =
    let apart : one + (two - one) ≡ two = omega arith in
    omega (arith, counted_later owners one (two - one), ap (counted_below owners) apart)

-- no volumes have more extents than the map
pub counted_within : (owners : List (Option Owned)) (volume : ℕ) → IsExtentMap owners → volume ≤ MOST_VOLUMES → counted_below owners volume ≤ length owners
counted_within owners volume map below = omega (arith, counted_rises owners volume MOST_VOLUMES below, (extents_are_counted owners map).all)

-- an extent's place is below the count of its volume's extents
pub place_below : (owners : List (Option Owned)) (extent volume place : ℕ) → IsExtentMap owners → IsAt owners extent volume place
    → place < count_of owners volume
place_below owners extent volume place map at = ((extents_are_counted owners map).places volume).below extent place at

-- where an extent is in the index
pub slot_within : (owners : List (Option Owned)) (extent volume place : ℕ) → IsExtentMap owners → IsAt owners extent volume place
    → counted_below owners volume + place < length owners
slot_within owners extent volume place map at =
    omega (
      arith,
      map.volumes extent volume place at,
      place_below owners extent volume place map at,
      counted_next owners volume,
      counted_within owners (volume + 1) map (omega (arith, map.volumes extent volume place at)),
    )

-- an extent of an earlier volume is before those of a later one
slot_before : (owners : List (Option Owned)) (extent volume place other place' : ℕ) → IsExtentMap owners → IsAt owners extent volume place → volume < other
    → counted_below owners volume + place < counted_below owners other + place'
slot_before owners extent volume place other place' map at before =
    omega (arith, place_below owners extent volume place map at, counted_next owners volume, counted_rises owners (volume + 1) other (omega arith))

-- no two extents have one place in the index
pub slot_is_one : (owners : List (Option Owned)) (one volume place two other place' : ℕ) → IsExtentMap owners → IsAt owners one volume place
    → IsAt owners two other place'
    → counted_below owners volume + place ≡ counted_below owners other + place' → one ≡ two
slot_is_one owners one volume place two other place' map at_one at_two same = elim (cases_eq volume other) [
  | inl is ↦
      let same_place : place ≡ place' = omega (arith, ap (counted_below owners) is) in
      (map.places other).1.once one two place' (subst (λ v. IsAt owners one v place') is (subst (λ p. IsAt owners one volume p) same_place at_one)) at_two
  | inr apart ↦ elim (cases_lt volume other) [
    | inl before ↦ absurd (omega (arith, slot_before owners one volume place other place' map at_one before))
    | inr after ↦ absurd (omega (arith, slot_before owners two other place' volume place map at_two (omega arith)))
  ]
]

-- a volume from 32 on has no extent
pub none_from_32 : (owners : List (Option Owned)) (volume : ℕ) → IsExtentMap owners → MOST_VOLUMES ≤ volume → count_of owners volume ≡ 0
none_from_32 owners volume map beyond = elim (cases_lt 0 (count_of owners volume)) [
  | inl some ↦
      let there = ((extents_are_counted owners map).places volume).extent_at 0 some in
      absurd (omega (arith, map.volumes there.0 volume 0 there.1))
  | inr none ↦ omega arith
]

-- how many extents each volume has, as far as those below this one are counted
pub record AreCountsBelow (owners : List (Option Owned)) (counts : List ℕ) (extent : ℕ) : Type 0 where
  pub long : length counts ≡ MOST_VOLUMES + 1
  pub first : get_or counts 0 0 ≡ 0
  pub each : (volume : ℕ) → volume < MOST_VOLUMES → get_or counts (volume + 1) 0 ≡ count_of (take extent owners) volume

-- before the first nothing is counted
pub count_begins : (owners : List (Option Owned)) → AreCountsBelow owners (replicate (MOST_VOLUMES + 1) 0) 0
count_begins owners = record {
  long = length-replicate {A = ℕ} (MOST_VOLUMES + 1) 0;
  first = refl;
  each = λ volume below. get_or-replicate (MOST_VOLUMES + 1) (volume + 1) 0 0 (omega arith);
}

-- no volume has more than were counted
pub count_few : (owners : List (Option Owned)) (counts : List ℕ) (extent volume : ℕ) → AreCountsBelow owners counts extent → IsExtentMap owners
    → volume < MOST_VOLUMES → get_or counts (volume + 1) 0 ≤ MOST_EXTENTS
count_few owners counts extent volume so_far map below =
    omega (arith, so_far.each volume below, map.at_most, count_by-le-length (is_of volume) (take extent owners), length-take extent owners)

-- a free extent is passed over
pub count_passes : (owners : List (Option Owned)) (counts : List ℕ) (extent : ℕ) → AreCountsBelow owners counts extent → extent < length owners
    → owner_of owners extent ≡ None
    → AreCountsBelow owners counts (extent + 1)
count_passes owners counts extent so_far within free = record {
  long = so_far.long;
  first = so_far.first;
  each = λ volume below. so_far.each volume below ∙ sym
      (count_by_more_no (is_of volume) owners extent None within (ap (λ (o : Option Owned). is_of volume o) free));
}

-- one that has an owner is counted
pub count_adds : (owners : List (Option Owned)) (counts : List ℕ) (extent : ℕ) (owned : Owned) → AreCountsBelow owners counts extent → extent < length owners
    → owner_of owners extent ≡ Some owned → owned.volume < MOST_VOLUMES
    → AreCountsBelow owners (set counts (owned.volume + 1) (get_or counts (owned.volume + 1) 0 + 1)) (extent + 1)
count_adds owners counts extent owned so_far within at below_32 =
    let slot : ℕ = owned.volume + 1 in
    let value : ℕ = get_or counts slot 0 + 1 in
    record {
      long = length-set counts slot value ∙ so_far.long;
      first = get_or-set_other counts slot 0 value 0 (λ same. omega arith) ∙ so_far.first;
      each = λ volume below. elim (cases_eq volume owned.volume) [
        | inl same ↦
            let counted : count_of (take (extent + 1) owners) volume ≡ count_of (take extent owners) volume + 1 =
            count_by_more_yes (is_of volume) owners extent None within (ap (λ (o : Option Owned). is_of volume o) at ∙ is_its owned volume same) in
            ap (λ (v : ℕ). get_or (set counts slot value) (v + 1) 0) same ∙ get_or-set_same counts slot value 0 (omega (arith, so_far.long))
            ∙ ap (λ (v : ℕ). get_or counts (v + 1) 0 + 1) (sym same) ∙ ap (λ (n : ℕ). n + 1) (so_far.each volume below) ∙ sym counted
        | inr other ↦
            get_or-set_other counts slot (volume + 1) value 0 (λ same. other (omega arith)) ∙ so_far.each volume below
            ∙ sym (count_by_more_no (is_of volume) owners extent None within (ap (λ (o : Option Owned). is_of volume o) at ∙ is_not owned volume other))
      ];
    }
  where
    is_its : (owned : Owned) (volume : ℕ) → volume ≡ owned.volume → is_of volume (Some owned) ≡ true
    is_its owned volume same = grind (arith, nat_tests)

    is_not : (owned : Owned) (volume : ℕ) → (volume ≡ owned.volume → ⊥) → is_of volume (Some owned) ≡ false
    is_not owned volume other = grind (arith, nat_tests)

-- the first volumes' starts are summed up, and after them are the counts
pub record AreStartsBelow (owners : List (Option Owned)) (starts : List ℕ) (volume : ℕ) : Type 0 where
  pub long : length starts ≡ MOST_VOLUMES + 1
  pub done : (v : ℕ) → v ≤ volume → get_or starts v 0 ≡ counted_below owners v
  pub rest : (v : ℕ) → volume ≤ v → v < MOST_VOLUMES → get_or starts (v + 1) 0 ≡ count_of owners v

-- at first there are the counts
pub starts_begin : (owners : List (Option Owned)) (counts : List ℕ) → length counts ≡ MOST_VOLUMES + 1 → get_or counts 0 0 ≡ 0
    → ((v : ℕ) → v < MOST_VOLUMES → get_or counts (v + 1) 0 ≡ count_of owners v)
    → AreStartsBelow owners counts 0
starts_begin owners counts long first each = record {
  long = long;
  done = λ v up_to. let none : v ≡ 0 = omega arith in ap (λ (w : ℕ). get_or counts w 0) none ∙ first ∙ sym (counted_none owners)
      ∙ ap (counted_below owners) (sym none);
  rest = λ v above below. each v below;
}

-- the next one's start is this one's and its count
pub start_is : (owners : List (Option Owned)) (starts : List ℕ) (volume : ℕ) → AreStartsBelow owners starts volume → volume < MOST_VOLUMES
    → get_or starts (volume + 1) 0 + get_or starts volume 0 ≡ counted_below owners (volume + 1)
start_is owners starts volume so_far below = omega (arith, so_far.done volume (omega arith), so_far.rest volume (omega arith) below, counted_next owners volume)

-- and it is at most 1,024
pub start_few : (owners : List (Option Owned)) (starts : List ℕ) (volume : ℕ) → IsExtentMap owners → AreStartsBelow owners starts volume → volume < MOST_VOLUMES
    → get_or starts (volume + 1) 0 + get_or starts volume 0 ≤ MOST_EXTENTS
start_few owners starts volume map so_far below =
    omega (arith, start_is owners starts volume so_far below, counted_within owners (volume + 1) map (omega arith), map.at_most)

-- so it is summed up too
pub start_adds : (owners : List (Option Owned)) (starts : List ℕ) (volume : ℕ) → AreStartsBelow owners starts volume → volume < MOST_VOLUMES
    → AreStartsBelow owners (set starts (volume + 1) (get_or starts (volume + 1) 0 + get_or starts volume 0)) (volume + 1)
start_adds owners starts volume so_far below =
    let value : ℕ = get_or starts (volume + 1) 0 + get_or starts volume 0 in
    record {
      long = length-set starts (volume + 1) value ∙ so_far.long;
      done = λ v up_to. elim (cases_eq v (volume + 1)) [
        | inl same ↦
            ap (λ (w : ℕ). get_or (set starts (volume + 1) value) w 0) same ∙ get_or-set_same starts (volume + 1) value 0 (omega (arith, so_far.long))
            ∙ start_is owners starts volume so_far below ∙ ap (counted_below owners) (sym same)
        | inr other ↦ get_or-set_other starts (volume + 1) v value 0 other ∙ so_far.done v (omega arith)
      ];
      rest = λ v above within. get_or-set_other starts (volume + 1) (v + 1) value 0 (λ same. omega arith) ∙ so_far.rest v (omega arith) within;
    }

-- where an extent goes, as it is found by its owner
pub slot_is : (owners : List (Option Owned)) (starts : List ℕ) (extent volume first place : ℕ) (owned : Owned) → IsExtentMap owners → AreStarts owners starts
    → owner_of owners extent ≡ Some owned
    → volume ≡ owned.volume → first ≡ get_or starts volume 0 → place ≡ owned.place → first + place ≡ counted_below owners owned.volume + owned.place
slot_is owners starts extent volume first place owned map are_starts is volume_is first_is place_is =
    let below : owned.volume < MOST_VOLUMES = map.volumes extent owned.volume owned.place is in
    let start : get_or starts owned.volume 0 ≡ counted_below owners owned.volume = are_starts.each owned.volume (omega arith) in
    omega (arith, ap (λ (v : ℕ). get_or starts v 0) volume_is)

pub slot_fits : (owners : List (Option Owned)) (starts : List ℕ) (extent volume first place : ℕ) (owned : Owned) → IsExtentMap owners → AreStarts owners starts
    → owner_of owners extent ≡ Some owned
    → volume ≡ owned.volume → first ≡ get_or starts volume 0 → place ≡ owned.place → first + place < MOST_EXTENTS
slot_fits owners starts extent volume first place owned map are_starts is volume_is first_is place_is =
    omega (
      arith,
      slot_is owners starts extent volume first place owned map are_starts is volume_is first_is place_is,
      slot_within owners extent owned.volume owned.place map is,
      map.at_most,
    )

-- the extents below this one are in the index
pub record ArePackedBelow (owners : List (Option Owned)) (packed : List ℕ) (extent : ℕ) : Type 0 where
  pub long : length packed ≡ MOST_EXTENTS
  pub each : (e volume place : ℕ) → e < extent → IsAt owners e volume place → get_or packed (counted_below owners volume + place) 0 ≡ e

-- a free extent is passed over
pub pack_passes : (owners : List (Option Owned)) (packed : List ℕ) (extent : ℕ) → ArePackedBelow owners packed extent → owner_of owners extent ≡ None
    → ArePackedBelow owners packed (extent + 1)
pack_passes owners packed extent so_far free = record {
  long = so_far.long;
  each = λ e volume place below at. elim (cases_eq e extent) [
    | inl same ↦ absurd (owned_is_not_free owners e volume place at (ap (owner_of owners) same ∙ free))
    | inr other ↦ so_far.each e volume place (omega arith) at
  ];
}

-- one that has an owner goes to its place
pub pack_adds : (owners : List (Option Owned)) (packed : List ℕ) (extent : ℕ) (owned : Owned) → IsExtentMap owners → ArePackedBelow owners packed extent
    → owner_of owners extent ≡ Some owned
    → ArePackedBelow owners (set packed (counted_below owners owned.volume + owned.place) extent) (extent + 1)
pack_adds owners packed extent owned map so_far is =
    let slot : ℕ = counted_below owners owned.volume + owned.place in
    let here : IsAt owners extent owned.volume owned.place = is in
    let slot_fits : slot < MOST_EXTENTS = omega (arith, map.at_most, slot_within owners extent owned.volume owned.place map here) in
    record {
      long = length-set packed slot extent ∙ so_far.long;
      each = λ e volume place below at. elim (cases_eq e extent) [
        | inl same ↦
            let one = owner_is_one owners extent volume place owned.volume owned.place (subst (λ x. IsAt owners x volume place) same at) here in
            let its : counted_below owners volume + place ≡ slot = omega (arith, ap (counted_below owners) one.0, one.1) in
            ap (λ (s : ℕ). get_or (set packed slot extent) s 0) its ∙ get_or-set_same packed slot extent 0 (omega (arith, so_far.long)) ∙ sym same
        | inr other ↦
            get_or-set_other packed slot (counted_below owners volume + place) extent 0
            (λ same. other (slot_is_one owners e volume place extent owned.volume owned.place map at here same))
            ∙ so_far.each e volume place (omega arith) at
      ];
    }

-- where a volume's extents are in the index
pub record IsPart (owners : List (Option Owned)) (volume first end : ℕ) : Type 0 where
  pub starts : first ≡ counted_below owners volume
  pub ends : end ≡ first + count_of owners volume
  pub within : end ≤ MOST_EXTENTS

-- they begin at the volume's start and end at the next one's
pub part_is : (owners : List (Option Owned)) (index : ExtentIndex) (volume at first end : ℕ) → IsIndexedMap owners index → at ≡ volume → at < MOST_VOLUMES
    → first ≡ get_or index.starts at 0 → end ≡ get_or index.starts (at + 1) 0 → IsPart owners volume first end
part_is owners index volume at first end map same below first_is end_is =
    let first_at : get_or index.starts at 0 ≡ counted_below owners at = map.indexed.starts.each at (omega arith) in
    let end_at : get_or index.starts (at + 1) 0 ≡ counted_below owners (at + 1) = map.indexed.starts.each (at + 1) (omega arith) in
    let its_start : counted_below owners at ≡ counted_below owners volume = ap (counted_below owners) same in
    let its_count : count_of owners at ≡ count_of owners volume = ap (count_of owners) same in
    record {
      starts = omega arith;
      ends = omega (arith, counted_next owners at);
      within = omega (arith, counted_within owners (at + 1) map.map (omega arith), map.map.at_most);
    }

-- what is in that part is the volume's extents
pub part_is_extents : (owners : List (Option Owned)) (packed : List ℕ) (volume first end : ℕ) → IsExtentMap owners → ArePacked owners packed
    → IsPart owners volume first end
    → AreExtentsOf owners volume (take (end - first) (drop first packed))
part_is_extents owners packed volume first end map are_packed part = record {
  count = long;
  each = λ place below.
      let there = ((extents_are_counted owners map).places volume).extent_at place (omega (arith, long)) in
      subst (λ x. IsAt owners x volume place) (sym (is_there place there.0 there.1)) there.1;
  all = λ extent place at. let below = place_below owners extent volume place map at in (omega (arith, long), is_there place extent at);
}
  where
    long : length (take (end - first) (drop first packed)) ≡ count_of owners volume
    long = simp (length-take, length-drop) (omega (arith, part.ends, part.within, are_packed.long))

    is_there : (place extent : ℕ) → IsAt owners extent volume place → get_or (take (end - first) (drop first packed)) place 0 ≡ extent
    is_there place extent at =
        let below = place_below owners extent volume place map at in
        get_or-take (end - first) (drop first packed) place 0 (omega (arith, part.ends)) ∙ get_or-drop first packed place 0
        ∙ ap (λ (start : ℕ). get_or packed (start + place) 0) part.starts ∙ are_packed.each extent volume place at

-- a volume without extents has an empty part
pub none_are_extents : (owners : List (Option Owned)) (volume : ℕ) → IsExtentMap owners → MOST_VOLUMES ≤ volume → AreExtentsOf owners volume []
none_are_extents owners volume map beyond = record {
  count = sym (none_from_32 owners volume map beyond);
  each = λ place below. absurd (omega arith);
  all = λ extent place at. absurd (omega (arith, map.volumes extent volume place at));
}

-- the extents of a volume are at all its places
pub extents_have_places : (owners : List (Option Owned)) (volume : ℕ) (extents : List ℕ) → AreExtentsOf owners volume extents
    → HasPlaces owners volume (length extents)
extents_have_places owners volume extents are = record {
  extent_at = λ place below. (get_or extents place 0, are.each place below);
  below = λ extent place at. (are.all extent place at).0;
  once = λ one two place at_one at_two. sym (are.all one place at_one).1 ∙ (are.all two place at_two).1;
}

-- those that are not in the index are free
pub others_are_free : (owners : List (Option Owned)) (index : ExtentIndex) → IsIndexedMap owners index
    → free_of owners + get_or index.starts MOST_VOLUMES 0 ≡ length owners
others_are_free owners index map = omega (arith, (extents_are_counted owners map.map).all, map.indexed.starts.each MOST_VOLUMES (omega arith))
