-- Sectors that are put among those that wait.
use Rattle.std.proofs.Common.{◌≡◌, ◌≢◌, inl, inr, ℕ, ◌+◌, ◌<◌, ◌≤◌, true, false, List, [], length, take, refl, sym, ◌∙◌, ap, subst, arith}
use Rattle.std.proofs.Common.{Option, Some, None, IfSome, IsNone}
use Rattle.std.specs.Option.{is_some}
use Rattle.std.specs.Prelude.{slice_set}
use Rattle.std.proofs.lemmas.Bool.{cases_eq, cases_lt, false≢true}
use Rattle.std.proofs.lemmas.List.{get_or-set_same, get_or-set_other, get_or-take, length-set, length-take-le, take_all}
use Rattle.sector_model.specs.History.{Bytes}
use Rattle.layout_map.specs.declared.geometry.Geometry.{Geometry}
use Rattle.layout_map.specs.Placement.{data_sectors_of}
use Rattle.layout_map.proofs.Places.{logical_is_one}
use Rattle.batch.specs.declared.placed.Placed.{Placed}
use Rattle.batch.specs.Among.{IsPlacedAs}
use Rattle.batch.specs.Places.{AreApart, AreRising, Given, IsPlaced, LiesAt, bytes_at, logical_at, placed_at}
use Rattle.batch.specs.Staging.{AreAdded, AreHeld, ArePut, HasLogical, IsAdded, IsPut, IsStaged, first_of, sector_at}
use Rattle.batch.proofs.GivenSectors.{given_is_placed}
use Rattle.batch.proofs.Placing.{IsInserted, logical_taken, placed_more}

-- a sector is known by its number and its bytes
pub same_sector : (one other : ℕ × Bytes) → one.0 ≡ other.0 → one.1 ≡ other.1 → one ≡ other
same_sector one other logical bytes = ap (λ (l : ℕ). (l, one.1)) logical ∙ ap (λ (b : Bytes). (other.0, b)) bytes

-- what a search found

pub some_found : (found : Option ℕ) (P : ℕ → Type 0) → true ≡ is_some found → IfSome found P → (at : ℕ) × P at
some_found None P is all = absurd (false≢true (sym is))
some_found (Some at) P is all = (at, all)

pub none_found : (found : Option ℕ) → false ≡ is_some found → IsNone found
none_found None is = refl
none_found (Some at) is = absurd (false≢true is)

-- the first of some sectors

pub taken_sector : (all : Given) (n k : ℕ) → k < n → sector_at (take n all) k ≡ sector_at all k
taken_sector all n k before = get_or-take n all k (0, []) before

-- as many as have a place
pub held_long : (geometry : Geometry) (all : Given) (places : List Placed) → AreHeld geometry all places → length places ≤ length all
held_long geometry all places held = elim (cases_lt (length all) (length places)) [
  | inl shorter ↦
      let whole = take_all (length places) all (omega (arith, shorter)) in
      absurd (omega (arith, held.placed.as_many, ap length whole, shorter))
  | inr enough ↦ enough
]

pub held_taken : (geometry : Geometry) (all : Given) (places : List Placed) → AreHeld geometry all places → length (first_of places all) ≡ length places
held_taken geometry all places held = sym held.placed.as_many

-- other sectors with the same numbers have the same places
pub held_same : (geometry : Geometry) (old new : Given) (places : List Placed) → AreHeld geometry old places → length new ≡ length old
    → ((k : ℕ) → k < length places → logical_at new k ≡ logical_at old k) → AreHeld geometry new places
held_same geometry old new places held long same =
    let n : ℕ = length places in
    let old_long = held_taken geometry old places held in
    let new_long : length (take n new) ≡ n = length-take-le n new (omega (arith, held_long geometry old places held, long)) in
    let logical : (k : ℕ) → k < n → logical_at (take n new) k ≡ logical_at (take n old) k = λ k before.
    logical_taken new n k before ∙ same k before ∙ sym (logical_taken old n k before) in
    record {
      placed = record {
        as_many = sym new_long;
        rising = held.placed.rising;
        within = λ j inside. omega (arith, held.placed.within j inside, old_long, new_long);
        lies = λ j inside. subst (λ (l : ℕ). LiesAt geometry l (placed_at places j).row (placed_at places j).member)
            (sym (logical (placed_at places j).at (omega (arith, held.placed.within j inside, old_long)))) (held.placed.lies j inside);
        each = λ k inside. held.placed.each k (omega (arith, inside, old_long, new_long));
      };
      of_set = λ k inside. subst (λ (l : ℕ). l < data_sectors_of geometry.members geometry.chunk geometry.stripes)
          (sym (logical k (omega (arith, inside, new_long)))) (held.of_set k (omega (arith, inside, old_long, new_long)));
      apart = λ i j less inside is. held.apart i j less (omega (arith, inside, old_long, new_long))
          (sym (logical i (omega (arith, less, inside, new_long))) ∙ is ∙ logical j (omega (arith, inside, new_long)));
    }

module _ (geometry : Geometry) (all : Given) (places : List Placed) (held : AreHeld geometry all places) where
  -- two of those that wait have two numbers
  pub one_waits : (i j : ℕ) → i < length places → j < length places → logical_at all i ≡ logical_at all j → i ≡ j
  one_waits i j i_in j_in same =
      let n : ℕ = length places in
      let long = held_taken geometry all places held in
      let taken : logical_at (take n all) i ≡ logical_at (take n all) j = logical_taken all n i i_in ∙ same ∙ sym (logical_taken all n j j_in) in
      elim (cases_lt i j) [
        | inl before ↦ absurd (held.apart i j before (omega (arith, j_in, long)) taken)
        | inr from ↦ elim (cases_eq i j) [
          | inl is ↦ is
          | inr other ↦ absurd (held.apart j i (omega (arith, from, other)) (omega (arith, i_in, long)) (sym taken))
        ]
      ]

  -- the place of a sector that waits is one of these
  pub waits_placed : (logical row member : ℕ) → LiesAt geometry logical row member → HasLogical all (length places) logical → IsPlaced places row member
  waits_placed logical row member lies has =
      let n : ℕ = length places in
      given_is_placed geometry (take n all) places held.placed row member (record {
        which = has.which;
        within = omega (arith, has.within, held_taken geometry all places held);
        lies = subst (λ (l : ℕ). LiesAt geometry l row member) (sym (logical_taken all n has.which has.within ∙ has.is)) lies;
      })

  -- and what is found there is that sector
  pub found_waits : (logical row member at : ℕ) → LiesAt geometry logical row member → IsPlacedAs places row member at
      → (at < length places) × (logical_at all at ≡ logical)
  found_waits logical row member at lies found =
      let n : ℕ = length places in
      let within = held.placed.within found.place found.within in
      let below : at < n = omega (arith, within, found.is, held_taken geometry all places held) in
      let there : LiesAt geometry (logical_at all at) row member =
      subst (λ (l : ℕ). LiesAt geometry l row member) (ap (logical_at (take n all)) found.is ∙ logical_taken all n at below)
      (subst (λ (r : ℕ). LiesAt geometry (logical_at (take n all) (placed_at places found.place).at) r member) found.in_row
      (subst (λ (m : ℕ). LiesAt geometry (logical_at (take n all) (placed_at places found.place).at) (placed_at places found.place).row m) found.on_member
      (held.placed.lies found.place found.within))) in
      (below, logical_is_one geometry.limits there lies)

  -- a sector that waits already has its place
  pub added_there : (limit row member at : ℕ) (sector : ℕ × Bytes) → LiesAt geometry sector.0 row member → IsPlacedAs places row member at
      → IsAdded geometry limit sector all all places places true
  added_there limit row member at sector lies found =
      let is = found_waits sector.0 row member at lies found in
      record {
        held = held;
        least = omega arith;
        most = omega arith;
        within = λ most. most;
        kept = λ k before. refl;
        has = λ yes. record { which = at; within = is.0; is = is.1 };
        only = λ k from before. absurd (omega (arith, from, before));
        full = λ no. absurd (cc);
        none = λ no. absurd (cc);
      }

  -- one that doesn't has none where there is no room
  pub added_not : (limit row member : ℕ) (sector : ℕ × Bytes) → LiesAt geometry sector.0 row member → ¬ IsPlaced places row member → limit ≤ length places
      → IsAdded geometry limit sector all all places places false
  added_not limit row member sector lies alone full = record {
    held = held;
    least = omega arith;
    most = omega arith;
    within = λ most. most;
    kept = λ k before. refl;
    has = λ yes. absurd (cc);
    only = λ k from before. absurd (omega (arith, from, before));
    full = λ no. full;
    none = λ no has. alone (waits_placed sector.0 row member lies has);
  }

  -- and else one after them
  pub added_one : (limit row member : ℕ) (sector : ℕ × Bytes) (more : List Placed) → length places < length all → length places < limit
      → sector.0 < data_sectors_of geometry.members geometry.chunk geometry.stripes → LiesAt geometry sector.0 row member → ¬ IsPlaced places row member
      → AreRising more → IsInserted places (record { row = row; member = member; at = length places }) more
      → IsAdded geometry limit sector all (slice_set all (length places) sector) places more true
  added_one limit row member sector more room below of_set lies none rising inserted =
      let n : ℕ = length places in
      let new : Given = slice_set all n sector in
      let long : length new ≡ length all = length-set all n sector in
      let last : sector_at new n ≡ sector = get_or-set_same all n sector (0, []) room in
      let before : (k : ℕ) → k < n → sector_at new k ≡ sector_at all k = λ k less. get_or-set_other all n k sector (0, []) (omega (arith, less)) in
      let old_long = held_taken geometry all places held in
      let m : ℕ = length more in
      let new_long : length (take m new) ≡ m = length-take-le m new (omega (arith, long, room, inserted.more)) in
      let logical : (k : ℕ) → k < n → logical_at (take m new) k ≡ logical_at (take n all) k = λ k less.
      logical_taken new m k (omega (arith, less, inserted.more)) ∙ ap (λ (s : ℕ × Bytes). s.0) (before k less) ∙ sym (logical_taken all n k less) in
      let last_logical : logical_at (take m new) n ≡ sector.0 = logical_taken new m n (omega (arith, inserted.more)) ∙ ap (λ (s : ℕ × Bytes). s.0) last in
      let unlike : (k : ℕ) → k < n → logical_at (take n all) k ≢ sector.0 = λ k less is.
      none (waits_placed sector.0 row member lies (record { which = k; within = less; is = sym (logical_taken all n k less) ∙ is })) in
      record {
        held = record {
          placed = placed_more geometry (take n all) (take m new) places more (record { row = row; member = member; at = n }) held.placed
              (record { long = omega (arith, new_long, inserted.more, old_long); same = λ k inside. logical k (omega (arith, inside, old_long)) })
              inserted rising (sym old_long)
              (subst (λ (k : ℕ). LiesAt geometry (logical_at (take m new) k) row member) (sym old_long)
              (subst (λ (l : ℕ). LiesAt geometry l row member) (sym last_logical) lies));
          of_set = λ k inside. elim (cases_lt k n) [
            | inl less ↦ subst (λ (l : ℕ). l < data_sectors_of geometry.members geometry.chunk geometry.stripes) (sym (logical k less))
                (held.of_set k (omega (arith, less, old_long)))
            | inr from ↦
                let is : k ≡ n = omega (arith, from, inside, new_long, inserted.more) in
                subst (λ (l : ℕ). l < data_sectors_of geometry.members geometry.chunk geometry.stripes)
                (sym (ap (logical_at (take m new)) is ∙ last_logical)) of_set
          ];
          apart = λ i j less inside same. elim (cases_lt j n) [
            | inl earlier ↦ held.apart i j less (omega (arith, earlier, old_long))
                (sym (logical i (omega (arith, less, earlier))) ∙ same ∙ logical j earlier)
            | inr from ↦
                let is : j ≡ n = omega (arith, from, inside, new_long, inserted.more) in
                let lower : i < n = omega (arith, less, is) in
                unlike i lower (sym (logical i lower) ∙ same ∙ ap (logical_at (take m new)) is ∙ last_logical)
          ];
        };
        least = omega (arith, inserted.more);
        most = omega (arith, inserted.more);
        within = λ most. omega (arith, inserted.more, below);
        kept = before;
        has = λ yes. record { which = n; within = omega (arith, inserted.more); is = ap (λ (s : ℕ × Bytes). s.0) last };
        only = λ k from inside.
            let is : k ≡ n = omega (arith, from, inside, inserted.more) in
            ap (logical_at new) is ∙ ap (λ (s : ℕ × Bytes). s.0) last;
        full = λ no. absurd (cc);
        none = λ no. absurd (cc);
      }

  -- the data of one that waits is put where it waits
  pub put_there : (row member at : ℕ) (sector : ℕ × Bytes) → LiesAt geometry sector.0 row member → IsPlacedAs places row member at
      → IsPut sector (length places) all (slice_set all at sector)
  put_there row member at sector lies found =
      let is = found_waits sector.0 row member at lies found in
      let room : at < length all = omega (arith, is.0, held_long geometry all places held) in
      let here : sector_at (slice_set all at sector) at ≡ sector = get_or-set_same all at sector (0, []) room in
      let beside : (k : ℕ) → k ≢ at → sector_at (slice_set all at sector) k ≡ sector_at all k = λ k other. get_or-set_other all at k sector (0, []) other in
      record {
        same = λ k within. elim (cases_eq k at) [
          | inl same ↦ ap (logical_at (slice_set all at sector)) same ∙ ap (λ (s : ℕ × Bytes). s.0) here ∙ sym is.1 ∙ sym (ap (logical_at all) same)
          | inr other ↦ ap (λ (s : ℕ × Bytes). s.0) (beside k other)
        ];
        put = λ k within same.
            let one : k ≡ at = one_waits k at within is.0 (same ∙ sym is.1) in
            ap (bytes_at (slice_set all at sector)) one ∙ ap (λ (s : ℕ × Bytes). s.1) here;
        others = λ k within unlike. ap (λ (s : ℕ × Bytes). s.1) (beside k (λ same. unlike (ap (logical_at all) same ∙ is.1)));
      }

-- at first none is put among them
pub none_added : (geometry : Geometry) (limit : ℕ) (given all : Given) (places : List Placed) → AreHeld geometry all places
    → AreAdded geometry limit given 0 all all places places
none_added geometry limit given all places held = record {
  held = held;
  least = omega arith;
  most = omega arith;
  within = λ most. most;
  kept = λ k before. refl;
  has = λ i before. absurd (omega (arith, before));
  only = λ k from before. absurd (omega (arith, from, before));
}

-- then one more
pub added_more : (geometry : Geometry) (limit : ℕ) (given : Given) (count : ℕ) (old mid new : Given) (places some more : List Placed)
    → AreAdded geometry limit given count old mid places some → IsAdded geometry limit (sector_at given count) mid new some more true
    → AreAdded geometry limit given (count + 1) old new places more
added_more geometry limit given count old mid new places some more are is = record {
  held = is.held;
  least = omega (arith, are.least, is.least);
  most = omega (arith, are.most, is.most);
  within = λ most. is.within (are.within most);
  kept = λ k before. is.kept k (omega (arith, before, are.least)) ∙ are.kept k before;
  has = λ i before. elim (cases_lt i count) [
    | inl earlier ↦
        let has = are.has i earlier in
        record {
          which = has.which;
          within = omega (arith, has.within, is.least);
          is = ap (λ (s : ℕ × Bytes). s.0) (is.kept has.which has.within) ∙ has.is;
        }
    | inr from ↦ subst (λ (n : ℕ). HasLogical new (length more) (logical_at given n)) (omega (arith, from, before)) (is.has refl)
  ];
  only = λ k from before. elim (cases_lt k (length some)) [
    | inl earlier ↦
        let has = are.only k from earlier in
        record { which = has.which; within = omega (arith, has.within); is = has.is ∙ sym (ap (λ (s : ℕ × Bytes). s.0) (is.kept k earlier)) }
    | inr later ↦ record { which = count; within = omega arith; is = sym (is.only k later before) }
  ];
}

-- at first no data is put
pub none_put : (given : Given) (count : ℕ) (all : Given) → ArePut given 0 count all all
none_put given count all = record {
  same = λ k within. refl;
  put = λ i k before within same. absurd (omega (arith, before));
  others = λ k within unlike. refl;
}

-- then that of one more
pub put_more : (given : Given) (first count : ℕ) (old mid new : Given) → AreApart given → first < length given → ArePut given first count old mid
    → IsPut (sector_at given first) count mid new → ArePut given (first + 1) count old new
put_more given first count old mid new apart inside are is = record {
  same = λ k within. is.same k within ∙ are.same k within;
  put = λ i k before within same. elim (cases_lt i first) [
    | inl earlier ↦
        is.others k within (λ here. apart i first earlier inside (sym same ∙ sym (are.same k within) ∙ here))
        ∙ are.put i k earlier within same
    | inr from ↦
        let last : i ≡ first = omega (arith, from, before) in
        is.put k within (are.same k within ∙ same ∙ ap (logical_at given) last) ∙ sym (ap (bytes_at given) last)
  ];
  others = λ k within unlike.
      is.others k within (λ here. unlike first (omega arith) (sym (are.same k within) ∙ here))
      ∙ are.others k within (λ i before. unlike i (omega (arith, before)));
}

-- so all are staged
pub all_staged : (geometry : Geometry) (limit : ℕ) (given old mid new : Given) (places more : List Placed) → AreHeld geometry old places
    → AreAdded geometry limit given (length given) old mid places more → length new ≡ length mid → ArePut given (length given) (length more) mid new
    → IsStaged (first_of places old) given (first_of more new)
all_staged geometry limit given old mid new places more held added long put =
    let n : ℕ = length places in
    let m : ℕ = length more in
    let now = held_same geometry mid new more added.held long put.same in
    let old_long = held_taken geometry old places held in
    let new_long = held_taken geometry new more now in
    let logical : (k : ℕ) → k < n → logical_at mid k ≡ logical_at old k = λ k less. ap (λ (s : ℕ × Bytes). s.0) (added.kept k less) in
    record {
      least = omega (arith, old_long, new_long, added.least);
      most = omega (arith, old_long, new_long, added.most);
      kept = λ k before.
          let less : k < n = omega (arith, before, old_long) in
          let below : k < m = omega (arith, less, added.least) in
          logical_taken new m k below ∙ put.same k below ∙ logical k less ∙ sym (logical_taken old n k less);
      taken = λ i inside.
          let has = added.has i inside in
          record {
            which = has.which;
            within = omega (arith, has.within, new_long);
            is = taken_sector new m has.which has.within
                ∙ same_sector (sector_at new has.which) (sector_at given i) (put.same has.which has.within ∙ has.is)
                (put.put i has.which inside has.within has.is);
          };
      only = λ k inside.
          let below : k < m = omega (arith, inside, new_long) in
          elim (cases_lt k n) [
            | inl less ↦ inl (omega (arith, less, old_long))
            | inr from ↦
                let has = added.only k from below in
                inr (record { which = has.which; within = has.within; is = has.is ∙ sym (put.same k below) ∙ sym (logical_taken new m k below) })
          ];
      others = λ k before unlike.
          let less : k < n = omega (arith, before, old_long) in
          let below : k < m = omega (arith, less, added.least) in
          ap (λ (s : ℕ × Bytes). s.1) (taken_sector new m k below)
          ∙ put.others k below (λ i inside same.
          unlike (record { which = i; within = inside; is = sym same ∙ logical k less ∙ sym (logical_taken old n k less) }))
          ∙ ap (λ (s : ℕ × Bytes). s.1) (added.kept k less) ∙ sym (ap (λ (s : ℕ × Bytes). s.1) (taken_sector old n k less));
      apart = now.apart;
    }
