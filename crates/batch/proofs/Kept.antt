-- What a batch keeps, and what that says.
use Rattle.std.proofs.Common.{◌≡◌, inl, inr, ℕ, suc, ◌<◌, ◌≤◌, ◌==◌, ◌&&◌, Bool, true, List, [], ◌∷◌, length, get_or, take, refl, sym, ◌∙◌, ap, subst, arith}
use Rattle.std.specs.List.{list_any}
use Rattle.std.specs.Prelude.{◌||◌}
use Rattle.std.proofs.lemmas.Bool.{and_from, and_parts, cases_Bool, eq-eqb, eqb-true, false≢true}
use Rattle.std.proofs.lemmas.List.{ext_get_or, length-take-le}
use Rattle.sector_model.specs.History.{Bytes}
use Rattle.std.proofs.lemmas.List.Folds.{list_any_at}
use Rattle.layout_map.specs.declared.format.Format.{Format}
use Rattle.layout_map.specs.declared.format.Format.TheVariants.{One, Two}
use Rattle.layout_map.specs.declared.geometry.Geometry.{Geometry}
use Rattle.layout_map.specs.Placement.{data_sectors_of}
use Rattle.entry_runs.specs.Built.{runs_in}
use Rattle.entry_runs.specs.WrittenOut.{masks_of_runs, rows_of_runs}
use Rattle.batch.specs.declared.batch.Batch.{Batch}
use Rattle.batch.specs.declared.places.TheConstants.{MOST_PLACES}
use Rattle.batch.specs.declared.placed.Placed.{Placed}
use Rattle.batch.specs.Batches.{IsBatch, waiting}
use Rattle.batch.specs.Listed.{places_in}
use Rattle.batch.specs.Places.{ArePlanned, AreRising, Given, HasRow, IsPlaced, IsTouched, LiesAt}
use Rattle.batch.specs.Places.{placed_at, row_of}
use Rattle.batch.specs.Staging.{AreHeld, most_of, KeepsPlaces, KeepsPlan, first_of, has_row, is_placed, is_touched, sector_at}
use Rattle.batch.proofs.Placing.{logical_taken}
use Rattle.batch.proofs.Staged.{held_same, held_taken, taken_sector}

-- a test that one of a list passes

any_found : {X : Type 0} (p : X → Bool) (xs : List X) (d : X) → list_any p xs ≡ true → (i : ℕ) × (i < length xs) × (p (get_or xs i d) ≡ true)
any_found p [] d is = absurd (false≢true is)
any_found p (x ∷ xs) d is = elim (cases_Bool (p x)) [
  | inl here ↦ (0, omega arith, here)
  | inr isnt ↦
      let rest = any_found p xs d (sym (ap (λ (b : Bool). b || list_any p xs) isnt) ∙ is) in
      (suc rest.0, omega (arith, rest.1), rest.2)
]

pub row_tested : (rows : List ℕ) (row : ℕ) → has_row rows row ≡ true → HasRow rows row
row_tested rows row is =
    let found = any_found (λ other. other == row) rows 0 is in
    record { place = found.0; within = found.1; is = eqb-true (row_of rows found.0) row found.2 }

pub test_row : (rows : List ℕ) (row : ℕ) → HasRow rows row → has_row rows row ≡ true
test_row rows row has = list_any_at (λ other. other == row) rows has.place 0 has.within (eq-eqb (row_of rows has.place) row has.is)

pub touch_tested : (places : List Placed) (row : ℕ) → is_touched places row ≡ true → IsTouched places row
touch_tested places row is =
    let found = any_found (λ (place : Placed). place.row == row) places (record { row = 0; member = 0; at = 0 }) is in
    record { place = found.0; within = found.1; is = eqb-true (placed_at places found.0).row row found.2 }

pub test_touch : (places : List Placed) (row : ℕ) → IsTouched places row → is_touched places row ≡ true
test_touch places row is = list_any_at (λ (place : Placed). place.row == row) places is.place (record { row = 0; member = 0; at = 0 }) is.within
    (eq-eqb (placed_at places is.place).row row is.is)

pub place_tested : (places : List Placed) (row member : ℕ) → is_placed places row member ≡ true → IsPlaced places row member
place_tested places row member is =
    let found = any_found (λ (place : Placed). (place.row == row) && (place.member == member)) places (record { row = 0; member = 0; at = 0 }) is in
    let place = placed_at places found.0 in
    let both = and_parts (place.row == row) (place.member == member) found.2 in
    record { place = found.0; within = found.1; in_row = eqb-true place.row row both.0; on_member = eqb-true place.member member both.1 }

pub test_place : (places : List Placed) (row member : ℕ) → IsPlaced places row member → is_placed places row member ≡ true
test_place places row member is =
    let place = placed_at places is.place in
    list_any_at (λ (p : Placed). (p.row == row) && (p.member == member)) places is.place (record { row = 0; member = 0; at = 0 }) is.within
    (and_from (place.row == row) (place.member == member) (eq-eqb place.row row is.in_row) (eq-eqb place.member member is.on_member))

-- places

-- no entry has more than a batch has memory for
pub most_below : (format : Format) → most_of format ≤ MOST_PLACES
most_below One = omega arith
most_below Two = omega arith

pub held_of : (geometry : Geometry) (all : Given) (places : List Placed) → AreRising places → KeepsPlaces geometry all places → AreHeld geometry all places
held_of geometry all places rising keeps =
    let n : ℕ = length places in
    let long : length (take n all) ≡ n = length-take-le n all (omega (arith, keeps.long, keeps.as_many, most_below geometry.format)) in
    record {
      placed = record {
        as_many = sym long;
        rising = rising;
        within = λ j inside. omega (arith, keeps.within j inside, long);
        lies = λ j inside. subst (λ (l : ℕ). LiesAt geometry l (placed_at places j).row (placed_at places j).member)
            (sym (logical_taken all n (placed_at places j).at (keeps.within j inside))) (keeps.lies j inside);
        each = λ k inside.
            let found = any_found (λ (place : Placed). place.at == k) places (record { row = 0; member = 0; at = 0 })
            (keeps.each k (omega (arith, inside, long))) in
            record { place = found.0; within = found.1; is = eqb-true (placed_at places found.0).at k found.2 };
      };
      of_set = λ k inside. subst (λ (l : ℕ). l < data_sectors_of geometry.members geometry.chunk geometry.stripes)
          (sym (logical_taken all n k (omega (arith, inside, long)))) (keeps.of_set k (omega (arith, inside, long)));
      apart = λ i j less inside same. keeps.apart i j less (omega (arith, inside, long))
          (sym (logical_taken all n i (omega (arith, less, inside, long))) ∙ same ∙ logical_taken all n j (omega (arith, inside, long)));
    }

pub keeps_places : (geometry : Geometry) (all : Given) (places : List Placed) → length all ≡ MOST_PLACES → length places ≤ most_of geometry.format
    → AreHeld geometry all places → KeepsPlaces geometry all places
keeps_places geometry all places whole few held =
    let n : ℕ = length places in
    let long = held_taken geometry all places held in
    record {
      long = whole;
      as_many = few;
      within = λ j inside. omega (arith, held.placed.within j inside, long);
      lies = λ j inside. subst (λ (l : ℕ). LiesAt geometry l (placed_at places j).row (placed_at places j).member)
          (logical_taken all n (placed_at places j).at (omega (arith, held.placed.within j inside, long))) (held.placed.lies j inside);
      each = λ k inside.
          let has = held.placed.each k (omega (arith, inside, long)) in
          list_any_at (λ (place : Placed). place.at == k) places has.place (record { row = 0; member = 0; at = 0 }) has.within
          (eq-eqb (placed_at places has.place).at k has.is);
      of_set = λ k inside. subst (λ (l : ℕ). l < data_sectors_of geometry.members geometry.chunk geometry.stripes)
          (logical_taken all n k inside) (held.of_set k (omega (arith, inside, long)));
      apart = λ i j less inside same. held.apart i j less (omega (arith, inside, long))
          (logical_taken all n i (omega (arith, less, inside)) ∙ same ∙ sym (logical_taken all n j inside));
    }

-- other sectors after the first change nothing

pub still_keeps : (geometry : Geometry) (old new : Given) (places : List Placed) → AreRising places → length new ≡ length old
    → ((k : ℕ) → k < length places → sector_at new k ≡ sector_at old k) → KeepsPlaces geometry old places → KeepsPlaces geometry new places
still_keeps geometry old new places rising long same keeps =
    keeps_places geometry new places (long ∙ keeps.long) keeps.as_many
    (held_same geometry old new places (held_of geometry old places rising keeps) long (λ k inside. ap (λ (s : ℕ × Bytes). s.0) (same k inside)))

pub same_first : (old new : Given) (places : List Placed) → length new ≡ length old → length places ≤ length old
    → ((k : ℕ) → k < length places → sector_at new k ≡ sector_at old k) → first_of places new ≡ first_of places old
same_first old new places long room same =
    let n : ℕ = length places in
    let new_long = length-take-le n new (omega (arith, long, room)) in
    ext_get_or (0, []) (take n new) (take n old) (new_long ∙ sym (length-take-le n old room)) (λ k inside.
    let below : k < n = omega (arith, inside, new_long) in
    taken_sector new n k below ∙ same k below ∙ sym (taken_sector old n k below))

-- a list that has nothing
pub none_left : {X : Type 0} (xs : List X) → length xs ≡ 0 → xs ≡ []
none_left [] none = refl
none_left (x ∷ xs) none = absurd (omega (arith, none))

-- as many wait as have a place
pub waiting_long : (batch : Batch) → length (waiting batch) ≡ length (places_in batch.places)
waiting_long batch = length-take-le (length (places_in batch.places)) batch.sectors.items
    (omega (arith, batch.held.as_many, batch.held.long, most_below batch.geometry.format))

-- rows and masks

pub planned_of : (geometry : Geometry) (places : List Placed) (rows masks : List ℕ) → KeepsPlan geometry places rows masks
    → ArePlanned geometry places rows masks
planned_of geometry places rows masks keeps = record {
  rising = keeps.rising;
  as_many = keeps.as_many;
  few = keeps.few;
  each = λ j inside. row_tested rows (placed_at places j).row (keeps.each j inside);
  only = λ i inside. touch_tested places (row_of rows i) (keeps.only i inside);
  bits = λ i member inside. (
    λ has. elim (cases_Bool (is_placed places (row_of rows i) member)) [
      | inl placed ↦ inl (place_tested places (row_of rows i) member placed)
      | inr isnt ↦ inr (keeps.no_bit i member inside has isnt)
    ],
    λ changed. elim changed [
      | inl placed ↦ keeps.data_bit i member inside (test_place places (row_of rows i) member placed)
      | inr parity ↦ keeps.parity_bit i member inside parity
    ],
  );
}

pub keeps_plan : (geometry : Geometry) (places : List Placed) (rows masks : List ℕ) → ArePlanned geometry places rows masks
    → KeepsPlan geometry places rows masks
keeps_plan geometry places rows masks planned = record {
  rising = planned.rising;
  as_many = planned.as_many;
  few = planned.few;
  each = λ j inside. test_row rows (placed_at places j).row (planned.each j inside);
  only = λ i inside. test_touch places (row_of rows i) (planned.only i inside);
  data_bit = λ i member inside is. (planned.bits i member inside).1 (inl (place_tested places (row_of rows i) member is));
  parity_bit = λ i member inside is. (planned.bits i member inside).1 (inr is);
  no_bit = λ i member inside has isnt. elim ((planned.bits i member inside).0 has) [
    | inl placed ↦ absurd (false≢true (sym isnt ∙ test_place places (row_of rows i) member placed))
    | inr parity ↦ parity
  ];
}

-- each batch is one of `IsBatch`
pub is_batch : (batch : Batch) → IsBatch batch
is_batch batch =
    let held = held_of batch.geometry batch.sectors.items (places_in batch.places) batch.places.rising batch.held in
    record {
      few = omega (arith, waiting_long batch, batch.held.as_many);
      of_set = held.of_set;
      apart = held.apart;
      placed = held.placed;
      planned = planned_of batch.geometry (places_in batch.places) (rows_of_runs (runs_in batch.runs)) (masks_of_runs (runs_in batch.runs)) batch.planned;
    }
