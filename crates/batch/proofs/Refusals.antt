-- Sectors that no entry could have with those that wait.
use Rattle.std.proofs.Common.{◌≡◌, inl, inr, ℕ, zero, suc, ◌-◌, ◌<◌, ◌≤◌, List, length, refl, sym, ◌∙◌, ap, subst, arith}
use Rattle.std.specs.List.{insert}
use Rattle.std.proofs.lemmas.Bool.{cases_eq, cases_lt}
use Rattle.layout_map.specs.declared.geometry.Geometry.{Geometry}
use Rattle.layout_map.proofs.Places.{logical_is_one}
use Rattle.batch.specs.declared.placed.Placed.{Placed}
use Rattle.batch.specs.Among.{GoesTo, spot}
use Rattle.batch.specs.Places.{ArePlacesOf, ArePlanned, AreRising, Given, IsBefore, IsPlaced, LiesAt, logical_at, placed_at, row_of}
use Rattle.batch.specs.Staging.{AreAdded, AreHeld, HasLogical, IsStaged, first_of}
use Rattle.batch.proofs.GivenSectors.{given_is_placed, placed_is_given}
use Rattle.batch.proofs.Order.{Earlier, Later, Same, after_same, before_same, below_too, compare_places, not_both}
use Rattle.batch.proofs.Placing.{logical_taken, one_longer, only_new, still_rise}
use Rattle.batch.proofs.Staged.{held_taken, waits_placed}

-- a place is one of its list
own_place : (places : List Placed) (j : ℕ) → j < length places → IsPlaced places (placed_at places j).row (placed_at places j).member
own_place places j inside = record { place = j; within = inside; in_row = refl; on_member = refl }

-- rising places that others have too are no more than those

module _ (places others : List Placed) (rising : AreRising places) (others_rise : AreRising others)
    (has : (i : ℕ) → i < length places → IsPlaced others (placed_at places i).row (placed_at places i).member) where
  least_place : (i : ℕ) → (inside : i < length places) → i ≤ (has i inside).place
  least_place zero inside = omega arith
  least_place (suc i) inside =
      let earlier : i < length places = omega (arith, inside) in
      let first = has i earlier in
      let second = has (suc i) inside in
      let before : IsBefore (placed_at places i) (placed_at places (suc i)) = rising i (suc i) (omega arith) inside in
      elim (cases_lt first.place second.place) [
        | inl less ↦ omega (arith, least_place i earlier, less)
        | inr from ↦ elim (cases_eq first.place second.place) [
          | inl same ↦
              let row : (placed_at places (suc i)).row ≡ (placed_at places i).row =
              sym second.in_row ∙ sym (ap (λ (n : ℕ). (placed_at others n).row) same) ∙ first.in_row in
              let member : (placed_at places (suc i)).member ≡ (placed_at places i).member =
              sym second.on_member ∙ sym (ap (λ (n : ℕ). (placed_at others n).member) same) ∙ first.on_member in
              let none : IsBefore (placed_at places i) (placed_at places i) =
              after_same (placed_at places i) (placed_at places (suc i)) (placed_at places i) row member before in
              absurd (not_both (placed_at places i) (placed_at places i) none none)
          | inr other ↦
              let back : IsBefore (placed_at others second.place) (placed_at others first.place) =
              others_rise second.place first.place (omega (arith, from, other)) first.within in
              let again : IsBefore (placed_at places (suc i)) (placed_at others first.place) =
              before_same (placed_at places (suc i)) (placed_at others second.place) (placed_at others first.place) second.in_row second.on_member back in
              absurd (not_both (placed_at places i) (placed_at places (suc i)) before
              (after_same (placed_at places (suc i)) (placed_at others first.place) (placed_at places i) first.in_row first.on_member again))
        ]
      ]

  pub no_more : length places ≤ length others
  no_more = elim (cases_eq (length places) 0) [
    | inl none ↦ omega (arith, none)
    | inr some ↦
        let last : length places - 1 < length places = omega (arith, some) in
        omega (arith, least_place (length places - 1) last, (has (length places - 1) last).within)
  ]

-- each place goes somewhere among rising ones

others_from : (places : List Placed) (row member m : ℕ) → ((i : ℕ) → suc m ≤ i → i < length places → ¬ IsBefore (placed_at places i) (spot row member))
    → ¬ IsBefore (placed_at places m) (spot row member) → (i : ℕ) → m ≤ i → i < length places → ¬ IsBefore (placed_at places i) (spot row member)
others_from places row member m others none i from inside = elim (cases_eq i m) [
  | inl same ↦ subst (λ (n : ℕ). ¬ IsBefore (placed_at places n) (spot row member)) (sym same) none
  | inr other ↦ others i (omega (arith, from, other)) inside
]

not_same : (place : Placed) (row member : ℕ) → place.row ≡ row → place.member ≡ member → ¬ IsBefore place (spot row member)
not_same place row member is_row is_member before =
    let none : IsBefore (spot row member) (spot row member) = before_same (spot row member) place (spot row member) is_row is_member before in
    not_both (spot row member) (spot row member) none none

number_in : (places : List Placed) → AreRising places → (row member n : ℕ) → n ≤ length places
    → ((i : ℕ) → n ≤ i → i < length places → ¬ IsBefore (placed_at places i) (spot row member)) → (number : ℕ) × GoesTo places row member number
number_in places rising row member zero within others =
    (0, record { within = omega arith; below = λ i less. absurd (omega (arith, less)); others = others })
number_in places rising row member (suc m) within others = elim (compare_places (placed_at places m) (spot row member)) [
  | Earlier before ↦ (
    suc m,
    record {
      within = within;
      below = λ i less. below_too places rising row member m i (omega (arith, within)) before (omega (arith, less));
      others = others;
    },
  )
  | Later after ↦ number_in places rising row member m (omega (arith, within))
      (others_from places row member m others (λ before. not_both (placed_at places m) (spot row member) before after))
  | Same is_row is_member ↦ number_in places rising row member m (omega (arith, within))
      (others_from places row member m others (not_same (placed_at places m) row member is_row is_member))
]

-- what stages the same sectors has these places too
module _ (geometry : Geometry) (limit : ℕ) (given : Given) (count : ℕ) (all mid : Given) (places some : List Placed) (held : AreHeld geometry all places)
    (added : AreAdded geometry limit given count all mid places some) (few : count ≤ length given) (new : Given) (new_places : List Placed)
    (staged : IsStaged (first_of places all) given new) (placed : ArePlacesOf geometry new new_places) where
  new_has : (k : ℕ) → k < length some → HasLogical new (length new) (logical_at mid k)
  new_has k below = elim (cases_lt k (length places)) [
    | inl less ↦
        let long = held_taken geometry all places held in
        record {
          which = k;
          within = omega (arith, less, long, staged.least);
          is = staged.kept k (omega (arith, less, long)) ∙ logical_taken all (length places) k less ∙ sym (ap (λ (s : ℕ × List ℕ). s.0) (added.kept k less));
        }
    | inr from ↦
        let has = added.only k from below in
        let there = staged.taken has.which (omega (arith, has.within, few)) in
        record { which = there.which; within = there.within; is = ap (λ (s : ℕ × List ℕ). s.0) there.is ∙ has.is }
  ]

  some_there : (row member : ℕ) → IsPlaced some row member → IsPlaced new_places row member
  some_there row member is =
      let waits = placed_is_given geometry (first_of some mid) some added.held.placed row member is in
      let below : waits.which < length some = omega (arith, waits.within, held_taken geometry mid some added.held) in
      let has = new_has waits.which below in
      given_is_placed geometry new new_places placed row member (record {
        which = has.which;
        within = has.within;
        lies = subst (λ (l : ℕ). LiesAt geometry l row member) (logical_taken mid (length some) waits.which below ∙ sym has.is) waits.lies;
      })

  -- no more of them fit than there is room for
  pub too_many : (inside : count < length given) → limit ≤ length some → ¬ HasLogical mid (length some) (logical_at given count) → length new ≤ limit → ⊥
  too_many inside full none fits =
      let there = staged.taken count inside in
      let has = placed.each there.which there.within in
      let p : Placed = placed_at new_places has.place in
      let logical : logical_at new p.at ≡ logical_at given count = ap (logical_at new) has.is ∙ ap (λ (s : ℕ × List ℕ). s.0) there.is in
      let lies = placed.lies has.place has.within in
      let alone : ¬ IsPlaced some p.row p.member = λ is.
      (let waits = placed_is_given geometry (first_of some mid) some added.held.placed p.row p.member is in
      let below : waits.which < length some = omega (arith, waits.within, held_taken geometry mid some added.held) in
      none (record {
        which = waits.which;
        within = below;
        is = sym (logical_taken mid (length some) waits.which below) ∙ logical_is_one geometry.limits waits.lies lies ∙ logical;
      })) in
      let number = number_in some added.held.placed.rising p.row p.member (length some) (omega arith) (λ i from within. absurd (omega (arith, from, within))) in
      let more : List Placed = insert some number.0 p in
      let least = no_more more new_places (still_rise some p number.0 number.1.within added.held.placed.rising number.1 alone) placed.rising
      (λ i within. elim (only_new some p number.0 number.1.within i within) [
        | inl was ↦ some_there (placed_at more i).row (placed_at more i).member
            (record { place = was.place; within = was.within; in_row = ap (λ (q : Placed). q.row) was.is; on_member = ap (λ (q : Placed). q.member) was.is })
        | inr is ↦ record {
          place = has.place;
          within = has.within;
          in_row = sym (ap (λ (q : Placed). q.row) is);
          on_member = sym (ap (λ (q : Placed). q.member) is);
        }
      ]) in
      omega (arith, least, one_longer some p number.0 number.1.within, placed.as_many, fits, full)

  module _ (all_added : count ≡ length given) where
    new_there : (row member : ℕ) → IsPlaced new_places row member → IsPlaced some row member
    new_there row member is =
        let waits = placed_is_given geometry new new_places placed row member is in
        waits_placed geometry mid some added.held (logical_at new waits.which) row member waits.lies (elim (staged.only waits.which waits.within) [
          | inl before ↦
              let long = held_taken geometry all places held in
              let less : waits.which < length places = omega (arith, before, long) in
              record {
                which = waits.which;
                within = omega (arith, less, added.least);
                is = ap (λ (s : ℕ × List ℕ). s.0) (added.kept waits.which less) ∙ sym (logical_taken all (length places) waits.which less)
                    ∙ sym (staged.kept waits.which before);
              }
          | inr was ↦
              let has = added.has was.which (omega (arith, was.within, all_added)) in
              record { which = has.which; within = has.within; is = has.is ∙ was.is }
        ])

    -- and the same rows
    pub planned_there : (rows masks : List ℕ) → ArePlanned geometry new_places rows masks → ArePlanned geometry some rows masks
    planned_there rows masks planned =
        let least = no_more new_places some placed.rising added.held.placed.rising (λ i inside.
        new_there (placed_at new_places i).row (placed_at new_places i).member (own_place new_places i inside)) in
        record {
          rising = planned.rising;
          as_many = planned.as_many;
          few = omega (arith, planned.few, least);
          each = λ j inside.
              let there = some_there (placed_at some j).row (placed_at some j).member (own_place some j inside) in
              let has = planned.each there.place there.within in
              record { place = has.place; within = has.within; is = has.is ∙ there.in_row };
          only = λ i inside.
              let touched = planned.only i inside in
              let p : Placed = placed_at new_places touched.place in
              let there = new_there p.row p.member (own_place new_places touched.place touched.within) in
              record { place = there.place; within = there.within; is = there.in_row ∙ touched.is };
          bits = λ i member inside. (
            λ has. elim ((planned.bits i member inside).0 has) [
              | inl is ↦ inl (new_there (row_of rows i) member is)
              | inr parity ↦ inr parity
            ],
            λ changed. (planned.bits i member inside).1 (elim changed [
              | inl is ↦ inl (some_there (row_of rows i) member is)
              | inr parity ↦ inr parity
            ]),
          );
        }
