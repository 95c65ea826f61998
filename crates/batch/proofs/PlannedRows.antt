-- Rows of places, one after another.
use Rattle.std.proofs.Common.{◌≡◌, ◌≢◌, ◌↔◌, inl, inr, ℕ, ◌+◌, ◌<◌, ◌≤◌, true, List, [], ◌∷◌, ◌++◌, length, refl, sym, ◌∙◌, ap, subst, arith}
use Rattle.std.specs.Prelude.{slice_index_or}
use Rattle.std.specs.List.Sorted.{IsStrictlyIncreasing}
use Rattle.std.proofs.lemmas.Bool.{cases_eq, cases_lt}
use Rattle.std.proofs.lemmas.List.{get_or_append_left, length-append}
use Rattle.std.proofs.Math.Seq.{get_or-append_seam}
use Rattle.layout_map.specs.declared.geometry.Geometry.{Geometry}
use Rattle.layout_map.specs.Placement.{rows_of}
use Rattle.layout_map.proofs.Places.{place_beside_parity, place_member_below, place_row_below}
use Rattle.entry_runs.specs.Body.{has_bit}
use Rattle.batch.specs.declared.placed.Placed.{Placed}
use Rattle.batch.specs.declared.planning.NextRow.{NextRow}
use Rattle.batch.specs.Places.{AreDataPlaces, ArePlanned, AreRising, HasParityOn, HasRow, IsDataPlace, placed_at, row_of}
use Rattle.batch.specs.Rows.{IsChangedBy, IsNextRow, StartsRow}
use Rattle.batch.proofs.Masks.{bit_more, no_bits, two_bits}

-- what lies at a place is within the set

pub data_row : (geometry : Geometry) (row member : ℕ) → IsDataPlace geometry row member → row < rows_of geometry.chunk geometry.stripes
data_row geometry row member is = place_row_below geometry.limits is.below is.lies

pub data_member : (geometry : Geometry) (row member : ℕ) → IsDataPlace geometry row member → member < geometry.members
data_member geometry row member is = place_member_below geometry.limits is.lies

-- and not on the member with the parity
pub data_beside : (geometry : Geometry) (row member parity : ℕ) → IsDataPlace geometry row member → HasParityOn geometry row parity → member ≢ parity
data_beside geometry row member parity is there = place_beside_parity geometry.limits is.lies there

-- rows of places don't fall
pub rows_rise : (places : List Placed) (i j : ℕ) → AreRising places → i ≤ j → j < length places → (placed_at places i).row ≤ (placed_at places j).row
rows_rise places i j rising least inside = elim (cases_eq i j) [
  | inl same ↦ omega (arith, ap (λ (n : ℕ). (placed_at places n).row) same)
  | inr other ↦ elim (rising i j (omega (arith, least, other)) inside) [
    | inl below ↦ omega (arith, below)
    | inr here ↦ omega (arith, here.0)
  ]
]

module _ (geometry : Geometry) (places : List Placed) where
  module _ (row : ℕ) where
    -- at first the bit of the parity alone
    pub parity_bit : (new parity : ℕ) → has_bit new parity ≡ true → ((member : ℕ) → member ≢ parity → has_bit new member ≡ has_bit 0 member)
        → HasParityOn geometry row parity → ((member : ℕ) → HasParityOn geometry row member → member ≡ parity)
        → (first : ℕ) → ((j : ℕ) → j < first → (placed_at places j).row < row)
        → (member : ℕ) → (has_bit new member ≡ true) ↔ IsChangedBy geometry places first row member
    parity_bit new parity has others here only first starts =
        bit_more 0 new parity (λ member. ⊥) (IsChangedBy geometry places first row) has others (inr here)
        (λ member none. absurd none) (λ member changed. elim changed [
          | inl placed ↦ absurd (omega (arith, starts placed.place placed.within, placed.in_row))
          | inr is ↦ inl (only member is)
        ])
        (λ member. (no_bits member, λ none. absurd none))

    -- then that of one more place of the row
    pub placed_bit : (mask new count : ℕ) → (placed_at places count).row ≡ row → has_bit new (placed_at places count).member ≡ true
        → ((member : ℕ) → member ≢ (placed_at places count).member → has_bit new member ≡ has_bit mask member)
        → ((member : ℕ) → (has_bit mask member ≡ true) ↔ IsChangedBy geometry places count row member)
        → (member : ℕ) → (has_bit new member ≡ true) ↔ IsChangedBy geometry places (count + 1) row member
    placed_bit mask new count in_row has others before =
        bit_more mask new (placed_at places count).member (IsChangedBy geometry places count row) (IsChangedBy geometry places (count + 1) row) has others
        (inl (record { place = count; within = omega arith; in_row = in_row; on_member = refl }))
        (λ member changed. elim changed [
          | inl placed ↦ inl (record { place = placed.place; within = omega (arith, placed.within); in_row = placed.in_row; on_member = placed.on_member })
          | inr is ↦ inr is
        ])
        (λ member changed. elim changed [
          | inl placed ↦ elim (cases_eq placed.place count) [
            | inl same ↦ inl (sym placed.on_member ∙ ap (λ (n : ℕ). (placed_at places n).member) same)
            | inr other ↦ inr
                (inl (record { place = placed.place; within = omega (arith, placed.within, other); in_row = placed.in_row; on_member = placed.on_member }))
          ]
          | inr is ↦ inr (inr is)
        ]) before

    -- no place after those of the row is in it
    pub row_ends : (first end : ℕ) → AreRising places → (placed_at places first).row ≡ row → first ≤ end
        → (end < length places → (placed_at places end).row ≢ row)
        → (j : ℕ) → end ≤ j → j < length places → row < (placed_at places j).row
    row_ends first end rising in_row least ends j from inside =
        let inside_end : end < length places = omega (arith, from, inside) in
        omega (arith, rows_rise places first end rising least inside_end, in_row, ends inside_end, rows_rise places end j rising from inside)

  -- such is the row of the first of some places
  pub next_is : (first end mask parity : ℕ) → AreRising places → AreDataPlaces geometry places → StartsRow places first → first < end → end ≤ length places
      → ((j : ℕ) → first ≤ j → j < end → (placed_at places j).row ≡ (placed_at places first).row)
      → ((member : ℕ) → (has_bit mask member ≡ true) ↔ IsChangedBy geometry places end (placed_at places first).row member)
      → (end < length places → (placed_at places end).row ≢ (placed_at places first).row) → HasParityOn geometry (placed_at places first).row parity
      → IsNextRow geometry places first (record { row = (placed_at places first).row; mask = mask; end = end })
  next_is first end mask parity rising are_data starts some within here bits ends there =
      let row : ℕ = (placed_at places first).row in
      let member : ℕ = (placed_at places first).member in
      record {
        row = refl;
        some = some;
        within = within;
        here = here;
        later = row_ends row first end rising refl (omega (arith, some)) ends;
        bits = bits;
        two = two_bits mask member parity (data_beside geometry row member parity (are_data first starts.within) there)
            ((bits member).1 (inl (record { place = first; within = some; in_row = refl; on_member = refl }))) ((bits parity).1 (inr there));
      }

  -- The first so many places, which end with those of a row, have these rows, and a commit of them changes this.
  pub record ArePlannedBy (count : ℕ) (rows masks : List ℕ) : Type 0 where
    pub rising : IsStrictlyIncreasing rows
    pub as_many : length masks ≡ length rows
    pub few : length rows ≤ count
    pub each : (j : ℕ) → j < count → HasRow rows (placed_at places j).row
    pub only : (i : ℕ) → i < length rows → (j : ℕ) × (j < count) × ((placed_at places j).row ≡ row_of rows i)
    pub bits : (i member : ℕ) → i < length rows
        → (has_bit (slice_index_or masks i 0) member ≡ true) ↔ IsChangedBy geometry places count (row_of rows i) member

  -- at first none
  pub planned_none : (rows masks : List ℕ) → length rows ≡ 0 → length masks ≡ 0 → ArePlannedBy 0 rows masks
  planned_none rows masks none empty = record {
    rising = λ k inside. absurd (omega (arith, inside, none));
    as_many = omega (arith, none, empty);
    few = omega (arith, none);
    each = λ j inside. absurd (omega (arith, inside));
    only = λ i inside. absurd (omega (arith, inside, none));
    bits = λ i member inside. absurd (omega (arith, inside, none));
  }

  -- in the end all
  pub planned_all : (count : ℕ) (rows masks : List ℕ) → count ≡ length places → ArePlannedBy count rows masks → ArePlanned geometry places rows masks
  planned_all count rows masks all are = record {
    rising = are.rising;
    as_many = are.as_many;
    few = omega (arith, are.few, all);
    each = λ j inside. are.each j (omega (arith, inside, all));
    only = λ i inside. let touched = are.only i inside in record { place = touched.0; within = omega (arith, touched.1, all); is = touched.2 };
    bits = λ i member inside. (
      λ is. elim ((are.bits i member inside).0 is) [
        | inl placed ↦ inl
            (record { place = placed.place; within = omega (arith, placed.within, all); in_row = placed.in_row; on_member = placed.on_member })
        | inr parity ↦ inr parity
      ],
      λ changed. (are.bits i member inside).1 (elim changed [
        | inl placed ↦ inl
            (record { place = placed.place; within = omega (arith, placed.within, all); in_row = placed.in_row; on_member = placed.on_member })
        | inr parity ↦ inr parity
      ]),
    );
  }

  module _ (first : ℕ) (next : NextRow) (rows masks : List ℕ) (starts : StartsRow places first) (is : IsNextRow geometry places first next)
      (are : ArePlannedBy first rows masks) where
    -- the rows so far are below it
    pub rows_below : (i : ℕ) → i < length rows → row_of rows i < next.row
    rows_below i inside = let touched = are.only i inside in omega (arith, touched.2, starts.starts touched.0 touched.1, is.row)

    longer_rows : length (rows ++ next.row ∷ []) ≡ length rows + 1
    longer_rows = length-append rows (next.row ∷ [])

    row_before : (i : ℕ) → i < length rows → row_of (rows ++ next.row ∷ []) i ≡ row_of rows i
    row_before i inside = get_or_append_left rows (next.row ∷ []) 0 i inside

    row_last : (i : ℕ) → i ≡ length rows → row_of (rows ++ next.row ∷ []) i ≡ next.row
    row_last i last = ap (row_of (rows ++ next.row ∷ [])) last ∙ get_or-append_seam rows next.row [] 0

    mask_before : (i : ℕ) → i < length rows → slice_index_or (masks ++ next.mask ∷ []) i 0 ≡ slice_index_or masks i 0
    mask_before i inside = get_or_append_left masks (next.mask ∷ []) 0 i (omega (arith, inside, are.as_many))

    mask_last : (i : ℕ) → i ≡ length rows → slice_index_or (masks ++ next.mask ∷ []) i 0 ≡ next.mask
    mask_last i last = ap (λ (n : ℕ). slice_index_or (masks ++ next.mask ∷ []) n 0) (last ∙ sym are.as_many) ∙ get_or-append_seam masks next.mask [] 0

    bits_before : (i member : ℕ) → i < length rows
        → (has_bit (slice_index_or masks i 0) member ≡ true) ↔ IsChangedBy geometry places next.end (row_of rows i) member
    bits_before i member inside = (
      λ has. elim ((are.bits i member inside).0 has) [
        | inl placed ↦ inl (record {
          place = placed.place;
          within = omega (arith, placed.within, is.some);
          in_row = placed.in_row;
          on_member = placed.on_member;
        })
        | inr parity ↦ inr parity
      ],
      λ changed. (are.bits i member inside).1 (elim changed [
        | inl placed ↦ elim (cases_lt placed.place first) [
          | inl before ↦ inl (record { place = placed.place; within = before; in_row = placed.in_row; on_member = placed.on_member })
          | inr from ↦ absurd (omega (arith, is.here placed.place from placed.within, placed.in_row, rows_below i inside))
        ]
        | inr parity ↦ inr parity
      ]),
    )

    -- so the places up to the next row's have these, and this one
    pub planned_more : ArePlannedBy next.end (rows ++ next.row ∷ []) (masks ++ next.mask ∷ [])
    planned_more = record {
      rising = λ k inside. elim (cases_lt (k + 1) (length rows)) [
        | inl before ↦ omega (arith, row_before k (omega (arith, before)), row_before (k + 1) before, are.rising k before)
        | inr from ↦
            let last : k + 1 ≡ length rows = omega (arith, from, inside, longer_rows) in
            omega (arith, row_before k (omega (arith, last)), row_last (k + 1) last, rows_below k (omega (arith, last)))
      ];
      as_many = omega (arith, longer_rows, length-append masks (next.mask ∷ []), are.as_many);
      few = omega (arith, longer_rows, are.few, is.some);
      each = λ j inside. elim (cases_lt j first) [
        | inl before ↦
            let has = are.each j before in
            record { place = has.place; within = omega (arith, longer_rows, has.within); is = row_before has.place has.within ∙ has.is }
        | inr from ↦ record { place = length rows; within = omega (arith, longer_rows); is = row_last (length rows) refl ∙ sym (is.here j from inside) }
      ];
      only = λ i inside. elim (cases_lt i (length rows)) [
        | inl before ↦ let touched = are.only i before in (touched.0, omega (arith, touched.1, is.some), touched.2 ∙ sym (row_before i before))
        | inr from ↦ (first, is.some, sym is.row ∙ sym (row_last i (omega (arith, from, inside, longer_rows))))
      ];
      bits = λ i member inside. elim (cases_lt i (length rows)) [
        | inl before ↦ both i member (slice_index_or masks i 0) (row_of rows i) (mask_before i before) (row_before i before) (bits_before i member before)
        | inr from ↦
            let last : i ≡ length rows = omega (arith, from, inside, longer_rows) in
            both i member next.mask next.row (mask_last i last) (row_last i last) (is.bits member)
      ];
    }
      where
        both : (i member mask row : ℕ) → slice_index_or (masks ++ next.mask ∷ []) i 0 ≡ mask → row_of (rows ++ next.row ∷ []) i ≡ row
            → (has_bit mask member ≡ true) ↔ IsChangedBy geometry places next.end row member
            → (has_bit (slice_index_or (masks ++ next.mask ∷ []) i 0) member ≡ true)
            ↔ IsChangedBy geometry places next.end (row_of (rows ++ next.row ∷ []) i) member
        both i member mask row is_mask is_row iff =
            subst (λ (m : ℕ). (has_bit m member ≡ true) ↔ IsChangedBy geometry places next.end (row_of (rows ++ next.row ∷ []) i) member) (sym is_mask)
            (subst (λ (r : ℕ). (has_bit mask member ≡ true) ↔ IsChangedBy geometry places next.end r member) (sym is_row) iff)

    -- and the next place, if there is one, begins its row
    pub starts_next : next.end < length places → StartsRow places next.end
    starts_next inside = record {
      within = inside;
      starts = λ j before. elim (cases_lt j first) [
        | inl earlier ↦ omega (arith, starts.starts j earlier, is.row, is.later next.end (omega arith) inside)
        | inr from ↦ omega (arith, is.here j from before, is.later next.end (omega arith) inside)
      ];
    }
