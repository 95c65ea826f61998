-- Places have one list of rows, with one mask each.
use Rattle.std.proofs.Common.{◌≡◌, ◌⊎◌, ◌↔◌, inl, inr, ℕ, zero, suc, ◌+◌, ◌<◌, ◌≤◌, ◌==◌, true, false, List, [], ◌∷◌, ◌++◌, length, take}
use Rattle.std.proofs.Common.{refl, sym, ◌∙◌, ap, subst, arith}
use Rattle.std.specs.Int.{bit_at}
use Rattle.std.specs.Prelude.{slice_index_or}
use Rattle.std.specs.List.Sorted.{IsStrictlyIncreasing}
use Rattle.std.proofs.lemmas.Bool.{cases_Bool, cases_eq, cases_lt, eqb-true, false≢true}
use Rattle.std.proofs.lemmas.List.{ext_get_or, get_or-take, length-take-le}
use Rattle.std.proofs.lemmas.Nat.Bits.{bit_at-lt, same_from_bits}
use Rattle.layout_map.specs.declared.geometry.Geometry.{Geometry}
use Rattle.entry_runs.specs.declared.run.Run.{Run}
use Rattle.entry_runs.specs.Body.{has_bit}
use Rattle.entry_runs.specs.Runs.{FitEntry}
use Rattle.entry_runs.specs.WrittenOut.{masks_of_runs, rows_of_runs}
use Rattle.batch.specs.declared.placed.Placed.{Placed}
use Rattle.batch.specs.declared.planning.NextRow.{NextRow}
use Rattle.batch.specs.Places.{ArePlanned, HasParityOn, HasRow, row_of}
use Rattle.batch.specs.Rows.{IsNextRow, StartsRow}
use Rattle.batch.proofs.Cuts.{cut_at, cut_fits}
use Rattle.batch.proofs.PlannedRows.{ArePlannedBy, planned_more}

-- each is below those after it
abbrev Rises : List ℕ → Type 0
Rises rows = (i j : ℕ) → i < j → j < length rows → row_of rows i < row_of rows j

pub rises : (rows : List ℕ) → IsStrictlyIncreasing rows → (i j : ℕ) → i < j → j < length rows → row_of rows i < row_of rows j
rises rows rising i zero less inside = absurd (omega (arith, less))
rises rows rising i (suc j) less inside =
    let next : row_of rows (j + 1) ≡ row_of rows (suc j) = ap (row_of rows) (omega arith) in
    elim (cases_eq i j) [
      | inl same ↦ omega (arith, ap (row_of rows) same, rising j (omega (arith, inside)), next)
      | inr other ↦ omega (arith, rises rows rising i j (omega (arith, less, other)) (omega (arith, inside)), rising j (omega (arith, inside)), next)
    ]

rest_rises : (row : ℕ) (rows : List ℕ) → Rises (row ∷ rows) → Rises rows
rest_rises row rows rising = λ i j less inside. rising (suc i) (suc j) (omega (arith, less)) (omega (arith, inside))

-- a row of a list is the first or one after it

first_or_rest : (first : ℕ) (rows : List ℕ) (row place : ℕ) → place < length (first ∷ rows) → row_of (first ∷ rows) place ≡ row
    → (first ≡ row) ⊎ HasRow rows row
first_or_rest first rows row zero inside is = inl is
first_or_rest first rows row (suc k) inside is = inr (record { place = k; within = omega (arith, inside); is = is })

-- the first is the lowest
lowest : (first : ℕ) (rows : List ℕ) (row : ℕ) → Rises (first ∷ rows) → HasRow (first ∷ rows) row → first ≤ row
lowest first rows row rising has = elim (first_or_rest first rows row has.place has.within has.is) [
  | inl same ↦ omega (arith, same)
  | inr later ↦ omega (arith, rising 0 (suc later.place) (omega arith) (omega (arith, later.within)), later.is)
]

-- rows that others have, which have no other up to the last of them, are the first of those
pub prefix_is : (rows all : List ℕ) → Rises rows → Rises all → ((i : ℕ) → i < length rows → HasRow all (row_of rows i))
    → ((j : ℕ) → j < length all → HasRow rows (row_of all j) ⊎ ((i : ℕ) → i < length rows → row_of rows i < row_of all j))
    → (length rows ≤ length all) × (take (length rows) all ≡ rows)
prefix_is [] all rising rising' has only = (omega arith, refl)
prefix_is (row ∷ rows) [] rising rising' has only = absurd (omega (arith, (has 0 (omega arith)).within))
prefix_is (row ∷ rows) (other ∷ all) rising rising' has only =
    let least : other ≤ row = lowest other all row rising' (has 0 (omega arith)) in
    let same : row ≡ other = elim (only 0 (omega arith)) [
      | inl is ↦ omega (arith, least, lowest row rows other rising is)
      | inr above ↦ omega (arith, least, above 0 (omega arith))
    ] in
    let rest = prefix_is rows all (rest_rises row rows rising) (rest_rises other all rising')
    (λ i inside.
    let found = has (suc i) (omega (arith, inside)) in
    elim (first_or_rest other all (row_of rows i) found.place found.within found.is) [
      | inl is ↦ absurd (omega (arith, is, same, rising 0 (suc i) (omega arith) (omega (arith, inside))))
      | inr later ↦ later
    ])
    (λ j inside. elim (only (suc j) (omega (arith, inside))) [
      | inl found ↦ elim (first_or_rest row rows (row_of all j) found.place found.within found.is) [
        | inl is ↦ absurd (omega (arith, is, same, rising' 0 (suc j) (omega arith) (omega (arith, inside))))
        | inr later ↦ inl later
      ]
      | inr above ↦ inr (λ i within. above (suc i) (omega (arith, within)))
    ]) in
    (omega (arith, rest.0), ap (λ (list : List ℕ). other ∷ list) rest.1 ∙ ap (λ (r : ℕ). r ∷ rows) (sym same))

-- a mask is known by its bits

bit_of : (mask member : ℕ) → has_bit mask member ≡ false → bit_at mask member ≡ 0
bit_of mask member isnt = elim (cases_eq (bit_at mask member) 1) [
  | inl is ↦ absurd (false≢true (sym isnt ∙ ap (λ (n : ℕ). n == 1) is))
  | inr other ↦ omega (arith, bit_at-lt mask member, other)
]

pub same_mask : (mask other : ℕ) → ((member : ℕ) → (has_bit mask member ≡ true) ↔ (has_bit other member ≡ true)) → mask ≡ other
same_mask mask other same = same_from_bits mask other (λ member. elim (cases_Bool (has_bit mask member)) [
  | inl is ↦ eqb-true (bit_at mask member) 1 is ∙ sym (eqb-true (bit_at other member) 1 ((same member).0 is))
  | inr isnt ↦ elim (cases_Bool (has_bit other member)) [
    | inl is ↦ absurd (false≢true (sym isnt ∙ (same member).1 is))
    | inr is_not ↦ bit_of mask member isnt ∙ sym (bit_of other member is_not)
  ]
])

module _ (geometry : Geometry) (places : List Placed) (first : ℕ) (next : NextRow) (rows masks all all_masks : List ℕ) (starts : StartsRow places first)
    (is : IsNextRow geometry places first next) (are : ArePlannedBy geometry places first rows masks)
    (planned : ArePlanned geometry places all all_masks) where
  so_far : ArePlannedBy geometry places next.end (rows ++ next.row ∷ []) (masks ++ next.mask ∷ [])
  so_far = planned_more geometry places first next rows masks starts is are

  -- rows so far are no higher than the last
  most : (i : ℕ) → i < length (rows ++ next.row ∷ []) → row_of (rows ++ next.row ∷ []) i ≤ next.row
  most i inside =
      let touched = so_far.only i inside in
      elim (cases_lt touched.0 first) [
        | inl before ↦ omega (arith, touched.2, starts.starts touched.0 before, is.row)
        | inr from ↦ omega (arith, touched.2, is.here touched.0 from touched.1)
      ]

  -- they are the first of all
  first_rows : (length (rows ++ next.row ∷ []) ≤ length all) × (take (length (rows ++ next.row ∷ [])) all ≡ rows ++ next.row ∷ [])
  first_rows = prefix_is (rows ++ next.row ∷ []) all (rises (rows ++ next.row ∷ []) so_far.rising) (rises all planned.rising)
      (λ i inside.
      let touched = so_far.only i inside in
      let has = planned.each touched.0 (omega (arith, touched.1, is.within)) in
      record { place = has.place; within = has.within; is = has.is ∙ touched.2 })
      (λ j inside.
      let touched = planned.only j inside in
      elim (cases_lt touched.place next.end) [
        | inl before ↦
            let has = so_far.each touched.place before in
            inl (record { place = has.place; within = has.within; is = has.is ∙ touched.is })
        | inr from ↦ inr (λ i within. omega (arith, most i within, is.later touched.place from touched.within, touched.is))
      ])

  one_row : (i : ℕ) → i < length (rows ++ next.row ∷ []) → row_of all i ≡ row_of (rows ++ next.row ∷ []) i
  one_row i inside = sym (get_or-take (length (rows ++ next.row ∷ [])) all i 0 inside) ∙ ap (λ (list : List ℕ). row_of list i) first_rows.1

  -- with the same masks
  one_mask : (i : ℕ) → i < length (rows ++ next.row ∷ []) → slice_index_or all_masks i 0 ≡ slice_index_or (masks ++ next.mask ∷ []) i 0
  one_mask i inside = same_mask (slice_index_or all_masks i 0) (slice_index_or (masks ++ next.mask ∷ []) i 0) (λ member.
      let row = one_row i inside in
      let here = planned.bits i member (omega (arith, inside, first_rows.0)) in
      let there = so_far.bits i member inside in (
        λ has. there.1 (elim (here.0 has) [
          | inl placed ↦ inl (record {
            place = placed.place;
            within = elim (cases_lt placed.place next.end) [
              | inl before ↦ before
              | inr from ↦ absurd (omega (arith, is.later placed.place from placed.within, placed.in_row, row, most i inside))
            ];
            in_row = placed.in_row ∙ row;
            on_member = placed.on_member;
          })
          | inr parity ↦ inr (subst (λ (r : ℕ). HasParityOn geometry r member) row parity)
        ]),
        λ has. here.1 (elim (there.0 has) [
          | inl placed ↦ inl (record {
            place = placed.place;
            within = omega (arith, placed.within, is.within);
            in_row = placed.in_row ∙ sym row;
            on_member = placed.on_member;
          })
          | inr parity ↦ inr (subst (λ (r : ℕ). HasParityOn geometry r member) (sym row) parity)
        ]),
      ))

  first_masks : take (length (rows ++ next.row ∷ [])) all_masks ≡ masks ++ next.mask ∷ []
  first_masks =
      let n : ℕ = length (rows ++ next.row ∷ []) in
      let long = length-take-le n all_masks (omega (arith, first_rows.0, planned.as_many)) in
      ext_get_or 0 (take n all_masks) (masks ++ next.mask ∷ []) (omega (arith, long, so_far.as_many)) (λ i inside.
      let below : i < n = omega (arith, inside, long) in
      get_or-take n all_masks i 0 below ∙ one_mask i below)

-- where no runs of an entry have the rows so far, none have all
pub none_fit : (geometry : Geometry) (places : List Placed) (first : ℕ) (next : NextRow) (rows masks : List ℕ) → StartsRow places first
    → IsNextRow geometry places first next → ArePlannedBy geometry places first rows masks
    → ((runs : List Run) → rows_of_runs runs ≡ rows ++ next.row ∷ [] → masks_of_runs runs ≡ masks ++ next.mask ∷ [] → ¬ FitEntry runs)
    → (fit : List Run) → FitEntry fit → ¬ ArePlanned geometry places (rows_of_runs fit) (masks_of_runs fit)
none_fit geometry places first next rows masks starts is are none fit fits planned =
    let all = rows_of_runs fit in
    let all_masks = masks_of_runs fit in
    let its_rows = first_rows geometry places first next rows masks all all_masks starts is are planned in
    let its_masks = first_masks geometry places first next rows masks all all_masks starts is are planned in
    let cut = cut_at fit (length (rows ++ next.row ∷ [])) its_rows.0 in
    none cut.0 (cut.1.rows ∙ its_rows.1) (cut.1.masks ∙ its_masks) (cut_fits fit cut.0 (length (rows ++ next.row ∷ [])) cut.1 fits)
