-- Given sectors by their places, and by the rows that are planned for them.
use Rattle.std.proofs.Common.{◌≡◌, ◌↔◌, inl, inr, ℕ, ◌<◌, ◌≤◌, true, List, length, refl, ◌∙◌, subst, arith}
use Rattle.std.specs.Prelude.{slice_index_or}
use Rattle.layout_map.specs.declared.geometry.Geometry.{Geometry}
use Rattle.layout_map.specs.Placement.{rows_of}
use Rattle.layout_map.proofs.Places.{place_is_one}
use Rattle.entry_runs.specs.Body.{has_bit}
use Rattle.batch.specs.declared.placed.Placed.{Placed}
use Rattle.batch.specs.Changes.{IsChanged, IsGiven}
use Rattle.batch.specs.Places.{AreDataPlaces, AreOfSet, ArePlacesOf, ArePlanned, Given, HasRow, IsPlaced, LiesAt, logical_at, placed_at, row_of}
use Rattle.batch.proofs.PlannedRows.{data_row}

-- a data sector lies at each place of sectors of the set
pub are_data_places : (geometry : Geometry) (sectors : Given) (places : List Placed) → ArePlacesOf geometry sectors places → AreOfSet geometry sectors
    → AreDataPlaces geometry places
are_data_places geometry sectors places are of_set = λ j inside. record {
  logical = logical_at sectors (placed_at places j).at;
  below = of_set (placed_at places j).at (are.within j inside);
  lies = are.lies j inside;
}

module _ (geometry : Geometry) (sectors : Given) (places : List Placed) (are : ArePlacesOf geometry sectors places) where
  -- a place is where a given sector lies
  pub placed_is_given : (row member : ℕ) → IsPlaced places row member → IsGiven geometry sectors row member
  placed_is_given row member is =
      let k : ℕ = (placed_at places is.place).at in
      record {
        which = k;
        within = are.within is.place is.within;
        lies = subst (λ (r : ℕ). LiesAt geometry (logical_at sectors k) r member) is.in_row
            (subst (λ (m : ℕ). LiesAt geometry (logical_at sectors k) (placed_at places is.place).row m) is.on_member (are.lies is.place is.within));
      }

  -- where one lies is a place
  pub given_is_placed : (row member : ℕ) → IsGiven geometry sectors row member → IsPlaced places row member
  given_is_placed row member is =
      let has = are.each is.which is.within in
      let there = subst (λ (k : ℕ). LiesAt geometry (logical_at sectors k) (placed_at places has.place).row (placed_at places has.place).member) has.is
      (are.lies has.place has.within) in
      let same = place_is_one there is.lies in
      record { place = has.place; within = has.within; in_row = same.1; on_member = same.0 }

  -- that of a given sector is found there
  pub given_at : (k row member : ℕ) → k < length sectors → LiesAt geometry (logical_at sectors k) row member
      → (j : ℕ) × (j < length places) × ((placed_at places j).row ≡ row) × ((placed_at places j).member ≡ member) × ((placed_at places j).at ≡ k)
  given_at k row member inside lies =
      let has = are.each k inside in
      let there = subst (λ (n : ℕ). LiesAt geometry (logical_at sectors n) (placed_at places has.place).row (placed_at places has.place).member) has.is
      (are.lies has.place has.within) in
      let same = place_is_one there lies in
      (has.place, has.within, same.1, same.0, has.is)

  module _ (rows masks : List ℕ) (planned : ArePlanned geometry places rows masks) where
    -- The mask of a row has exactly the members on which a given sector lies there, and the one with the parity.
    pub mask_has : (i member : ℕ) → i < length rows
        → (has_bit (slice_index_or masks i 0) member ≡ true) ↔ IsChanged geometry sectors (row_of rows i) member
    mask_has i member inside = (
      λ has. elim ((planned.bits i member inside).0 has) [
        | inl placed ↦ inl (placed_is_given (row_of rows i) member placed)
        | inr parity ↦ inr parity
      ],
      λ changed. (planned.bits i member inside).1 (elim changed [
        | inl given ↦ inl (given_is_placed (row_of rows i) member given)
        | inr parity ↦ inr parity
      ]),
    )

    -- each given sector lies in one of the rows
    pub given_has_row : (k row member : ℕ) → k < length sectors → LiesAt geometry (logical_at sectors k) row member → HasRow rows row
    given_has_row k row member inside lies =
        let at = given_at k row member inside lies in
        let has = planned.each at.0 at.1 in
        record { place = has.place; within = has.within; is = has.is ∙ at.2 }

    -- in each row one lies
    pub row_is_given : (i : ℕ) → i < length rows → (member : ℕ) × IsGiven geometry sectors (row_of rows i) member
    row_is_given i inside =
        let touched = planned.only i inside in
        let member : ℕ = (placed_at places touched.place).member in (
          member,
          placed_is_given (row_of rows i) member
              (record { place = touched.place; within = touched.within; in_row = touched.is; on_member = refl }),
        )

    -- there are rows, where there are sectors, and no more of them
    pub some_rows : 1 ≤ length sectors → 1 ≤ length rows
    some_rows some = let has = planned.each 0 (omega (arith, are.as_many, some)) in omega (arith, has.within)

    pub few_rows : length rows ≤ length sectors
    few_rows = omega (arith, planned.few, are.as_many)

-- planned rows are rows of the set
pub rows_of_set : (geometry : Geometry) (places : List Placed) (rows masks : List ℕ) → AreDataPlaces geometry places → ArePlanned geometry places rows masks
    → (i : ℕ) → i < length rows → row_of rows i < rows_of geometry.chunk geometry.stripes
rows_of_set geometry places rows masks are planned i inside =
    let touched = planned.only i inside in
    let place = placed_at places touched.place in
    subst (λ (r : ℕ). r < rows_of geometry.chunk geometry.stripes) touched.is (data_row geometry place.row place.member (are touched.place touched.within))
