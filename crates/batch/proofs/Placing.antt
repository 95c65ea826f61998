-- Places that rise, and one more put among them.
use Rattle.std.proofs.Common.{◌≡◌, ◌⊎◌, inl, inr, ℕ, ◌+◌, ◌-◌, ◌<◌, ◌≤◌, List, length, take, refl, sym, ◌∙◌, ap, subst, arith, []}
use Rattle.std.specs.List.{insert}
use Rattle.std.proofs.lemmas.Bool.{cases_eq, cases_lt}
use Rattle.std.proofs.lemmas.List.{get_or-take, length-take-le}
use Rattle.std.proofs.lemmas.List.Edits.{get_or-insert_above, get_or-insert_at, get_or-insert_below, length-insert}
use Rattle.layout_map.specs.declared.geometry.Geometry.{Geometry}
use Rattle.layout_map.proofs.Places.{logical_is_one}
use Rattle.batch.specs.declared.placed.Placed.{Placed}
use Rattle.batch.specs.Among.{GoesTo, HasPlaced, spot}
use Rattle.batch.specs.Places.{ArePlacesOf, AreRising, Given, IsBefore, IsPlaced, LiesAt, logical_at, placed_at}
use Rattle.batch.proofs.Order.{Earlier, Later, Same, compare_places}

module _ (places : List Placed) (placed : Placed) (number : ℕ) (within : number ≤ length places) where
  -- those before the new one have their numbers still
  pub at_below : (i : ℕ) → i < number → placed_at (insert places number placed) i ≡ placed_at places i
  at_below i before = get_or-insert_below places number placed (record { row = 0; member = 0; at = 0 }) i before within

  -- the new one has its own
  pub at_own : (i : ℕ) → i ≡ number → placed_at (insert places number placed) i ≡ placed
  at_own i is = ap (placed_at (insert places number placed)) is ∙ get_or-insert_at places number placed (record { row = 0; member = 0; at = 0 }) within

  -- those after it have the next
  pub at_above : (i : ℕ) → number < i → placed_at (insert places number placed) i ≡ placed_at places (i - 1)
  at_above i beyond =
      let next : i ≡ (i - 1) + 1 = omega arith in
      ap (placed_at (insert places number placed)) next
      ∙ get_or-insert_above places number placed (record { row = 0; member = 0; at = 0 }) (i - 1) (omega arith) within

  pub one_longer : length (insert places number placed) ≡ length places + 1
  one_longer = length-insert places number placed within

  -- the new one is among them
  pub new_has : HasPlaced (insert places number placed) placed
  new_has = record { place = number; within = omega (arith, one_longer, within); is = at_own number refl }

  -- and each that was
  pub still_has : (other : Placed) → HasPlaced places other → HasPlaced (insert places number placed) other
  still_has other has = elim (cases_lt has.place number) [
    | inl before ↦ record { place = has.place; within = omega (arith, one_longer, has.within); is = at_below has.place before ∙ has.is }
    | inr from ↦
        let back : has.place + 1 - 1 ≡ has.place = omega arith in
        record {
          place = has.place + 1;
          within = omega (arith, one_longer, has.within);
          is = at_above (has.place + 1) (omega (arith, from)) ∙ ap (placed_at places) back ∙ has.is;
        }
  ]

  -- and no other
  pub only_new : (i : ℕ) → i < length (insert places number placed) → HasPlaced places (placed_at (insert places number placed) i)
      ⊎ (placed_at (insert places number placed) i ≡ placed)
  only_new i inside = elim (cases_lt i number) [
    | inl before ↦ inl (record { place = i; within = omega (arith, before, within); is = sym (at_below i before) })
    | inr from ↦ elim (cases_eq i number) [
      | inl is ↦ inr (at_own i is)
      | inr other ↦ inl (record { place = i - 1; within = omega (arith, one_longer, inside, from, other); is = sym (at_above i (omega (arith, from, other))) })
    ]
  ]

  -- it comes before those after it
  before_rest : GoesTo places placed.row placed.member number → ¬ IsPlaced places placed.row placed.member → (i : ℕ) → number ≤ i → i < length places
      → IsBefore placed (placed_at places i)
  before_rest goes none i from inside = elim (compare_places (spot placed.row placed.member) (placed_at places i)) [
    | Earlier before ↦ before
    | Later after ↦ absurd (goes.others i from inside after)
    | Same row member ↦ absurd (none (record { place = i; within = inside; in_row = sym row; on_member = sym member }))
  ]

  -- so all rise
  pub still_rise : AreRising places → GoesTo places placed.row placed.member number → ¬ IsPlaced places placed.row placed.member
      → AreRising (insert places number placed)
  still_rise rising goes none = λ i j less inside. elim (cases_lt j number) [
    | inl before ↦ both i j (placed_at places i) (placed_at places j) (at_below i (omega (arith, less, before))) (at_below j before)
        (rising i j less (omega (arith, before, within)))
    | inr from ↦ elim (cases_eq j number) [
      | inl is ↦ both i j (placed_at places i) placed (at_below i (omega (arith, less, is))) (at_own j is) (goes.below i (omega (arith, less, is)))
      | inr other ↦
          let beyond : number < j = omega (arith, from, other) in
          let last : j - 1 < length places = omega (arith, one_longer, inside, beyond) in
          elim (cases_lt i number) [
            | inl before ↦ both i j (placed_at places i) (placed_at places (j - 1)) (at_below i before) (at_above j beyond)
                (rising i (j - 1) (omega (arith, before, beyond)) last)
            | inr after ↦ elim (cases_eq i number) [
              | inl here ↦ both i j placed (placed_at places (j - 1)) (at_own i here) (at_above j beyond)
                  (before_rest goes none (j - 1) (omega (arith, beyond)) last)
              | inr more ↦ both i j (placed_at places (i - 1)) (placed_at places (j - 1)) (at_above i (omega (arith, after, more))) (at_above j beyond)
                  (rising (i - 1) (j - 1) (omega (arith, after, more, less)) last)
            ]
          ]
    ]
  ]
    where
      both : (i j : ℕ) (first second : Placed) → placed_at (insert places number placed) i ≡ first → placed_at (insert places number placed) j ≡ second
          → IsBefore first second → IsBefore (placed_at (insert places number placed) i) (placed_at (insert places number placed) j)
      both i j first second is_first is_second before =
          subst (λ (p : Placed). IsBefore p (placed_at (insert places number placed) j)) (sym is_first)
          (subst (λ (p : Placed). IsBefore first p) (sym is_second) before)

-- what of given sectors lies where a logical sector does is that one
pub none_placed : (geometry : Geometry) (sectors : Given) (places : List Placed) (logical row member : ℕ) → ArePlacesOf geometry sectors places
    → LiesAt geometry logical row member → ((k : ℕ) → k < length sectors → ¬ (logical_at sectors k ≡ logical)) → ¬ IsPlaced places row member
none_placed geometry sectors places logical row member are lies none is =
    let k = (placed_at places is.place).at in
    let there : LiesAt geometry (logical_at sectors k) row member =
    subst (λ (r : ℕ). LiesAt geometry (logical_at sectors k) r member) is.in_row
    (subst (λ (m : ℕ). LiesAt geometry (logical_at sectors k) (placed_at places is.place).row m) is.on_member (are.lies is.place is.within)) in
    none k (are.within is.place is.within) (logical_is_one geometry.limits there lies)

-- given sectors, and one more after them
pub record OneMore (sectors more : Given) : Type 0 where
  pub long : length more ≡ length sectors + 1
  pub same : (k : ℕ) → k < length sectors → logical_at more k ≡ logical_at sectors k

-- the first of given sectors are those
pub logical_taken : (sectors : Given) (n k : ℕ) → k < n → logical_at (take n sectors) k ≡ logical_at sectors k
logical_taken sectors n k before = ap (λ (sector : ℕ × List ℕ). sector.0) (get_or-take n sectors k (0, []) before)

pub taken_more : (sectors : Given) (n : ℕ) → n < length sectors → OneMore (take n sectors) (take (n + 1) sectors)
taken_more sectors n inside =
    let long = length-take-le n sectors (omega (arith, inside)) in
    record {
      long = omega (arith, long, length-take-le (n + 1) sectors (omega (arith, inside)));
      same = λ k before. logical_taken sectors (n + 1) k (omega (arith, before, long)) ∙ sym (logical_taken sectors n k (omega (arith, before, long)));
    }

-- places with one more, as `Places::insert` makes them
pub record IsInserted (old : List Placed) (placed : Placed) (new : List Placed) : Type 0 where
  pub more : length new ≡ length old + 1
  pub has : HasPlaced new placed
  pub keeps : (other : Placed) → HasPlaced old other → HasPlaced new other
  pub only : (j : ℕ) → j < length new → HasPlaced old (placed_at new j) ⊎ (placed_at new j ≡ placed)

-- they are those of the given sectors with one more
pub placed_more : (geometry : Geometry) (sectors more : Given) (old new : List Placed) (placed : Placed) → ArePlacesOf geometry sectors old
    → OneMore sectors more → IsInserted old placed new → AreRising new → placed.at ≡ length sectors
    → LiesAt geometry (logical_at more (length sectors)) placed.row placed.member → ArePlacesOf geometry more new
placed_more geometry sectors more old new placed are one inserted rising at lies = record {
  as_many = omega (arith, inserted.more, are.as_many, one.long);
  rising = rising;
  within = λ j inside. elim (inserted.only j inside) [
    | inl was ↦
        let before : (placed_at new j).at < length sectors = subst (λ (p : Placed). p.at < length sectors) was.is (are.within was.place was.within) in
        omega (arith, before, one.long)
    | inr is ↦ omega (arith, ap (λ (p : Placed). p.at) is, at, one.long)
  ];
  lies = λ j inside. elim (inserted.only j inside) [
    | inl was ↦
        let k : ℕ = (placed_at old was.place).at in
        let before = are.lies was.place was.within in
        subst (λ (p : Placed). LiesAt geometry (logical_at more p.at) p.row p.member) was.is
        (subst (λ (l : ℕ). LiesAt geometry l (placed_at old was.place).row (placed_at old was.place).member)
        (sym (one.same k (are.within was.place was.within))) before)
    | inr is ↦ subst (λ (p : Placed). LiesAt geometry (logical_at more p.at) p.row p.member) (sym is)
        (subst (λ (k : ℕ). LiesAt geometry (logical_at more k) placed.row placed.member) (sym at) lies)
  ];
  each = λ k inside. elim (cases_lt k (length sectors)) [
    | inl before ↦
        let has = are.each k before in
        let now = inserted.keeps (placed_at old has.place) (record { place = has.place; within = has.within; is = refl }) in
        record { place = now.place; within = now.within; is = ap (λ (p : Placed). p.at) now.is ∙ has.is }
    | inr from ↦ record {
      place = inserted.has.place;
      within = inserted.has.within;
      is = ap (λ (p : Placed). p.at) inserted.has.is ∙ at ∙ omega (arith, from, inside, one.long);
    }
  ];
}

-- at first there are none
pub none_given : (geometry : Geometry) (sectors : Given) (places : List Placed) → length sectors ≡ 0 → length places ≡ 0 → ArePlacesOf geometry sectors places
none_given geometry sectors places none empty = record {
  as_many = omega (arith, none, empty);
  rising = λ i j less inside. absurd (omega (arith, inside, empty));
  within = λ j inside. absurd (omega (arith, inside, empty));
  lies = λ j inside. absurd (omega (arith, inside, empty));
  each = λ k inside. absurd (omega (arith, inside, none));
}
