-- What a scrub tells of the rows so far, from row to row.
use Rattle.std.proofs.Common.{◌≡◌, inl, inr, ℕ, ◌+◌, ◌-◌, ◌<◌, ◌≤◌, Bool, true, false, List, [], ◌∷◌, ◌++◌, length, Option, refl, sym, ◌∙◌, ap, subst, arith}
use Rattle.std.specs.Prelude.{IsTrue, ◌↔◌, Contains, get_or, slice_get}
use Rattle.std.specs.List.Sorted.{IsStrictlyIncreasing}
use Rattle.std.proofs.lemmas.Bool.{cases_eq}
use Rattle.std.proofs.lemmas.List.{get_or_default, length-append}
use Rattle.std.proofs.lemmas.List.Elements.{Contains-append_left, Contains-push, Contains-push_cases}
use Rattle.std.proofs.lemmas.List.FromFn.{map-range_with_len_more}
use Rattle.std.proofs.Math.ListN.{get_or-append}
use Rattle.std.proofs.Math.Nat.{le-min, min-le_left, min-le_right}
use Rattle.std.proofs.Math.Seq.{get_or-append_seam}
use Rattle.sector_model.specs.History.{Bytes, Slots, disk_of, sector_of}
use Rattle.layout_map.specs.declared.sizes.TheConstants.{FIRST_ROW}
use Rattle.parity.specs.Xor.{IsSoundRow, xor_of, xor_of_all, zero_sector}
use Rattle.parity.proofs.Laws.{length-xor_of, xor_of-assoc, xor_of-zero_right, xor_of_all-append}
use Rattle.superblock.specs.declared.table.Table.{Table}
use Rattle.array_io.specs.Believed.Holds.{row_count}
use Rattle.scrub.specs.Reports.{TellsBelow, counted, first_in_row, first_or, no_row_yet}
use Rattle.scrub.specs.Scrubbing.{IsInPart, IsPartReport, IsReport, Report, row_in, rows_in_part}

-- ---- the sum of a row

-- a sector after others adds itself to their sum
sum_after : (sectors : List Bytes) (sector : Bytes) → xor_of_all (sectors ++ sector ∷ []) ≡ xor_of
    (xor_of_all sectors) sector
sum_after sectors sector =
    xor_of_all-append sectors (sector ∷ [])
    ∙ sym (xor_of-assoc (xor_of_all sectors) sector zero_sector)
    ∙ xor_of-zero_right (xor_of (xor_of_all sectors) sector) (length-xor_of (xor_of_all sectors) sector)

-- so the sum over the first members goes on
pub sum_next : (image : Slots) (row count : ℕ) (sum own : Bytes) → sum ≡ xor_of_all (first_in_row image row count)
    → own ≡ sector_of (disk_of (image count)) (FIRST_ROW + row)
    → xor_of sum own ≡ xor_of_all (first_in_row image row (count + 1))
sum_next image row count sum own is own_is =
    ap (λ (s : Bytes). xor_of s own) is
    ∙ ap (xor_of (xor_of_all (first_in_row image row count))) own_is
    ∙ sym (sum_after (first_in_row image row count) (sector_of (disk_of (image count)) (FIRST_ROW + row)))
    ∙ ap xor_of_all (sym (map-range_with_len_more (λ member. sector_of (disk_of (image member)) (FIRST_ROW + row)) 0 count
    count (omega arith)))

-- ---- the report

no_row : (row : ℕ) → Contains [] row → ⊥
no_row row (k, below, is) = omega (arith, below)

-- before the first row
pub tells_none : (honest : Type 0) (table : Table) (image : Slots) (first : ℕ)
    → TellsBelow honest table image first first no_row_yet
tells_none honest table image first = record {
  rows = [];
  rising = λ k below. omega (arith, below);
  between = λ bad among. absurd (no_row bad among);
  few = omega arith;
  looked_at = omega arith;
  bad = refl;
  first_bad = refl;
  unsound = λ fair bad among. absurd (no_row bad among);
  all = λ fair other from below. absurd (omega (arith, from, below));
}

-- a sound row
tells_sound : (honest : Type 0) (table : Table) (image : Slots) (first row : ℕ) (report : Report)
    → TellsBelow honest table image first row report → (honest → IsSoundRow (row_in table image row))
    → TellsBelow honest table image first (row + 1) (counted report row true)
tells_sound honest table image first row report is sound = record {
  rows = is.rows;
  rising = is.rising;
  between = λ bad among. let (from, below) = is.between bad among in (from, omega (arith, below));
  few = omega (arith, is.few);
  looked_at = omega (arith, is.looked_at);
  bad = is.bad;
  first_bad = is.first_bad;
  unsound = is.unsound;
  all = λ fair other from below. elim (cases_eq other row) [
    | inl same ↦ inr (subst (λ (r : ℕ). IsSoundRow (row_in table image r)) (sym same) (sound fair))
    | inr apart ↦ is.all fair other from (omega (arith, below, apart))
  ];
}

first_next : (rows : List ℕ) (row : ℕ) → first_or (slice_get rows 0) row ≡ slice_get (rows ++ row ∷ []) 0
first_next [] row = refl
first_next (first ∷ rows) row = refl

get_or_among : (rows : List ℕ) (k : ℕ) → k < length rows → Contains rows (get_or rows k 0)
get_or_among rows k here = (k, here, get_or_default rows k (get_or rows k 0) 0 here)

-- rows rise with one more that is above them all
rises_on : (rows : List ℕ) (row : ℕ) → IsStrictlyIncreasing rows → ((bad : ℕ) → Contains rows bad → bad < row)
    → IsStrictlyIncreasing (rows ++ row ∷ [])
rises_on rows row rising below = λ k inside.
    let long = length-append rows (row ∷ []) in
    let here : k < length rows = omega (arith, inside, long) in
    let same = get_or-append rows (row ∷ []) 0 k here in
    elim (cases_eq (k + 1) (length rows)) [
      | inl last ↦
          let at = ap (λ (n : ℕ). get_or (rows ++ row ∷ []) n 0) last ∙ get_or-append_seam rows row [] 0 in
          omega (arith, same, at, below (get_or rows k 0) (get_or_among rows k here))
      | inr within ↦ omega (
        arith,
        same,
        get_or-append rows (row ∷ []) 0 (k + 1) (omega (arith, here, within)),
        rising
            k (omega (arith, here, within)),
      )
    ]

-- a row that is not
tells_bad : (honest : Type 0) (table : Table) (image : Slots) (first row : ℕ) (report : Report)
    → TellsBelow honest table image first row report → (honest → ¬ IsSoundRow (row_in table image row))
    → TellsBelow honest table image first (row + 1) (counted report row false)
tells_bad honest table image first row report is unsound = record {
  rows = is.rows ++ row ∷ [];
  rising = rises_on is.rows row is.rising (λ bad among. (is.between bad among).1);
  between = λ bad among. elim (Contains-push_cases is.rows row bad among) [
    | inl before ↦ let (from, below) = is.between bad before in (from, omega (arith, below))
    | inr same ↦ (omega (arith, same, is.looked_at), omega (arith, same))
  ];
  few = omega (arith, is.few, length-append is.rows (row ∷ []));
  looked_at = omega (arith, is.looked_at);
  bad = omega (arith, is.bad, length-append is.rows (row ∷ []));
  first_bad = ap (λ (o : Option ℕ). first_or o row) is.first_bad ∙ first_next is.rows row;
  unsound = λ fair bad among. elim (Contains-push_cases is.rows row bad among) [
    | inl before ↦ is.unsound fair bad before
    | inr same ↦ subst (λ (r : ℕ). ¬ IsSoundRow (row_in table image r)) same (unsound fair)
  ];
  all = λ fair other from below. elim (cases_eq other row) [
    | inl same ↦ inl (subst (Contains (is.rows ++ row ∷ [])) (sym same) (Contains-push is.rows row))
    | inr apart ↦ elim (is.all fair other from (omega (arith, below, apart))) [
      | inl among ↦ inl (Contains-append_left is.rows (row ∷ []) other among)
      | inr sound ↦ inr sound
    ]
  ];
}

-- a row whose sum is zero or not
pub tells_next : (honest : Type 0) (table : Table) (image : Slots) (first row : ℕ) (report : Report) (sum : Bytes)
    (is_sound : Bool) → TellsBelow honest table image first row report
    → (honest → sum ≡ xor_of_all (row_in table image row)) → IsTrue is_sound ↔ (sum ≡ zero_sector) → TellsBelow honest
    table image first (row + 1) (counted report row is_sound)
tells_next honest table image first row report sum true is summed zero =
    tells_sound honest table image first row report is (λ fair. sym (summed fair) ∙ zero.0 refl)
tells_next honest table image first row report sum false is summed zero =
    tells_bad honest table image first row report is (λ fair sound. let never : false ≡ true = zero.1
    (summed fair ∙ sound) in cc)

-- ---- the rows of a part

-- a row is of the part if it is below where the part ends in the set
in_part : (all first count row : ℕ) → first ≤ row → row < first + rows_in_part all first count
    → IsInPart all first count row
in_part all first count row from below = record {
  from_first = from;
  before_end = omega (arith, below, min-le_left count (all - first));
  of_set = omega (arith, from, below, min-le_right count (all - first));
}

-- and only then
below_end : (all first count row : ℕ) → IsInPart all first count row → row < first + rows_in_part all first count
below_end all first count row of_part =
    let few : row - first + 1 ≤ count = omega (arith, of_part.from_first, of_part.before_end) in
    let left : row - first + 1 ≤ all - first = omega (arith, of_part.from_first, of_part.of_set) in
    omega (arith, of_part.from_first, le-min few left)

-- the report of a part
pub report_of_part : (honest : Type 0) (table : Table) (image : Slots) (first count : ℕ) (report : Report)
    → TellsBelow honest table image first (first + rows_in_part (row_count table) first count) report
    → IsPartReport honest first count table image report
report_of_part honest table image first count report is = record {
  rows = is.rows;
  rising = is.rising;
  of_part = of_part;
  looked_at = omega (arith, is.looked_at);
  bad = is.bad;
  first_bad = is.first_bad;
  are = λ fair. record {
    rising = is.rising;
    unsound = λ row among. (of_part row among, is.unsound fair row among);
    all = λ row of_part. is.all fair row of_part.from_first (below_end (row_count table) first count row of_part);
  };
}
  where
    of_part : (row : ℕ) → Contains is.rows row → IsInPart (row_count table) first count row
    of_part row among =
        let (from, below) = is.between row among in
        in_part (row_count table) first count row from below

-- where a part has all rows, its report is that of the set
pub report_of_all : (honest : Type 0) (table : Table) (image : Slots) (report : Report)
    → IsPartReport honest 0 (row_count table) table image report → IsReport honest table image report
report_of_all honest table image report is = record {
  rows = is.rows;
  rising = is.rising;
  of_set = λ row among. (is.of_part row among).of_set;
  tells = record { rows = is.looked_at ∙ all_rows (row_count table); bad = is.bad; first_bad = is.first_bad };
  are = λ fair. record {
    rising = is.rising;
    unsound = λ row among. let (of_part, unsound) = (is.are fair).unsound row among in (of_part.of_set, unsound);
    all = λ row below. (is.are fair).all row record {
      from_first = omega arith;
      before_end = omega (arith, below);
      of_set = below;
    };
  };
}
  where
    all_rows : (all : ℕ) → rows_in_part all 0 all ≡ all
    all_rows all =
        let same : all ≤ all - 0 = omega arith in
        let itself : all ≤ all = omega arith in
        omega (arith, min-le_left all (all - 0), le-min itself same)
