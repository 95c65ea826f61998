-- Rows that are planned by where given sectors lie are the rows of these, and their masks tell what a commit of them changes.
use Rattle.std.proofs.Common.{◌≡◌, inl, inr, ℕ, ◌<◌, ◌≤◌, List, length, refl, sym, ◌∙◌, ap, subst, arith}
use Rattle.std.specs.List.Sorted.{IsStrictlyIncreasing}
use Rattle.std.proofs.lemmas.Bool.{cases_eq, cases_lt}
use Rattle.layout_map.specs.declared.geometry.Geometry.{Geometry}
use Rattle.layout_map.proofs.Places.{place_is_one, place_member_below, place_row_below}
use Rattle.entry_runs.specs.Built.{runs_in}
use Rattle.batch.specs.declared.placed.Placed.{Placed}
use Rattle.batch.specs.Places.{IsPlaced, placed_at}
use Rattle.stripe_journal.specs.declared.entry.Entry.{Entry}
use Rattle.stripe_journal.specs.declared.form.Form.{Form}
use Rattle.stripe_journal.specs.Entries.{form_of, numbers_of, sector_at}
use Rattle.stripe_journal.specs.Forms.{rows_in}
use Rattle.stripe_journal.specs.Seals.{row_at}
use Rattle.stripe_journal.proofs.Places.{rising_order}
use Rattle.array_io.specs.Steps.FormingRows.{AreOfSet, AreRowsOf, Given, HasPut, HasRoomFor, HoldsChanged, HoldsGiven, IsGiven, IsPlanned, LiesAt}
use Rattle.array_io.specs.Steps.FormingRows.{bytes_at, logical_at}

-- entries of one form have the same rows
pub same_numbers : (first second : Entry) → form_of first ≡ form_of second → numbers_of first ≡ numbers_of second
same_numbers first second same = ap (λ (form : Form). rows_in form) same

-- a row that rising rows have at two places has one place
pub one_place : (rows : List ℕ) (i j : ℕ) → IsStrictlyIncreasing rows → i < length rows → j < length rows → row_at rows i ≡ row_at rows j → i ≡ j
one_place rows i j rising i_in j_in same = elim (cases_lt i j) [
  | inl before ↦ absurd (omega (arith, rising_order rows i j rising before j_in, same))
  | inr from ↦ elim (cases_eq i j) [
    | inl is ↦ is
    | inr other ↦ absurd (omega (arith, rising_order rows j i rising (omega arith) i_in, same))
  ]
]

module _ (geometry : Geometry) (sectors : Given) (places : List Placed) (entry : Entry)
    (planned : IsPlanned geometry sectors places (runs_in entry.runs)) where
  -- a given sector lies where there is a place
  given_there : (row member : ℕ) → IsPlaced places row member → IsGiven geometry sectors row member
  given_there row member is = record {
    which = (placed_at places is.place).at;
    within = planned.placed.within is.place is.within;
    lies = subst (λ (m : ℕ). LiesAt geometry (logical_at sectors (placed_at places is.place).at) row m) is.on_member
        (subst (λ (r : ℕ). LiesAt geometry (logical_at sectors (placed_at places is.place).at) r (placed_at places is.place).member) is.in_row
        (planned.placed.lies is.place is.within));
  }

  -- and there is one where a given sector lies
  placed_there : (row member : ℕ) → IsGiven geometry sectors row member → IsPlaced places row member
  placed_there row member given =
      let has = planned.placed.each given.which given.within in
      let lies = subst (λ (k : ℕ). LiesAt geometry (logical_at sectors k) (placed_at places has.place).row (placed_at places has.place).member) has.is
      (planned.placed.lies has.place has.within) in
      let one = place_is_one lies given.lies in
      record { place = has.place; within = has.within; in_row = one.1; on_member = one.0 }

  -- the rows are those of the given sectors
  pub planned_rows : 1 ≤ length sectors → AreOfSet geometry sectors → AreRowsOf geometry sectors (numbers_of entry)
  planned_rows some of_set = record {
    least = omega (arith, (planned.planned.each 0 (omega (arith, some, planned.placed.as_many))).within);
    few = omega (arith, planned.planned.few, planned.placed.as_many);
    rising = planned.planned.rising;
    of_set = λ i within.
        let touched = planned.planned.only i within in
        let lies = planned.placed.lies touched.place touched.within in
        let below = place_row_below geometry.limits (of_set _ (planned.placed.within touched.place touched.within)) lies in
        omega (arith, below, touched.is);
    each = λ k row member within lies.
        let placed = placed_there row member (record { which = k; within = within; lies = lies }) in
        let has = planned.planned.each placed.place placed.within in
        record { place = has.place; within = has.within; is = has.is ∙ placed.in_row };
    only = λ i within.
        let touched = planned.planned.only i within in
        let member = (placed_at places touched.place).member in
        record {
          member = member;
          given = given_there (row_at (numbers_of entry) i) member (record {
            place = touched.place;
            within = touched.within;
            in_row = touched.is;
            on_member =
                refl;
          });
        };
  }

  -- the masks tell what changes
  pub planned_masks : HoldsChanged geometry sectors entry
  planned_masks i member within =
      let row = row_at (numbers_of entry) i in
      let bits = planned.planned.bits i member within in (
        λ is. elim (bits.0 is) [
          | inl placed ↦ inl (given_there row member placed)
          | inr parity ↦ inr parity
        ],
        λ changed. bits.1 (elim changed [
          | inl given ↦ inl (placed_there row member given)
          | inr parity ↦ inr parity
        ]),
      )

  -- the entry has room for each given sector
  pub planned_room : HasRoomFor sectors places entry
  planned_room = record {
    rising = planned.placed.rising;
    within = planned.placed.within;
    members = λ j within. omega (arith, place_member_below geometry.limits (planned.placed.lies j within), geometry.limits.members_most);
    rows = planned.planned.rising;
    each = planned.planned.each;
    held = λ i j inside within same.
        (planned.planned.bits i (placed_at places j).member inside).1 (inl (record { place = j; within = within; in_row = sym same; on_member = refl }));
  }

  -- what was put at each place, in rows of an entry, is the given sector
  pub planned_given : (filled : Entry) → HasPut sectors places (length places) filled → HoldsGiven geometry sectors filled
  planned_given filled put k i member within inside lies =
      let has = planned.placed.each k within in
      let there = subst (λ (n : ℕ). LiesAt geometry (logical_at sectors n) (placed_at places has.place).row (placed_at places has.place).member) has.is
      (planned.placed.lies has.place has.within) in
      let one = place_is_one there lies in
      ap (λ (m : ℕ). sector_at filled i m) (sym one.0) ∙ put i has.place inside has.within (sym one.1) ∙ ap (λ (n : ℕ). bytes_at sectors n) has.is
