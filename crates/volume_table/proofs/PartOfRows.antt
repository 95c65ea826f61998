-- The rows that are not sound, where a part of them was looked at: those before the part, those in it, and those after it.
use Rattle.std.proofs.Common.{◌≡◌, ◌⊎◌, inl, inr, ℕ, suc, ◌+◌, ◌-◌, ◌<◌, ◌≤◌, Bool, true, false, cond, ◌&&◌, nat_le, nat_lt, List, [], ◌∷◌, ◌++◌, length}
use Rattle.std.proofs.Common.{refl, ◌∙◌, ap, ap₂, arith}
use Rattle.std.specs.Prelude.{Contains, get_or}
use Rattle.std.specs.List.{filter}
use Rattle.std.specs.List.Sorted.{IsStrictlyIncreasing}
use Rattle.std.proofs.lemmas.Bool.{and_from, cases_lt, le-leb, leb-true, lt-leb, lt-ltb, ltb-true, le-ltb}
use Rattle.std.proofs.lemmas.List.{append-nil, get_or-append_right, get_or_append_left, get_or_default, length-append}
use Rattle.std.proofs.lemmas.List.Elements.{All-contains, All-contains_itself, All-filter, Contains-append_cases, Contains-append_left, Contains-append_right}
use Rattle.std.proofs.lemmas.List.Elements.{filter-append, filter_passes}
use Rattle.std.proofs.lemmas.List.Kept.{IsStrictlyIncreasing-filter}
use Rattle.sector_model.specs.History.{Slots}
use Rattle.superblock.specs.declared.table.Table.{Table}
use Rattle.array_io.specs.Believed.Holds.{row_count}
use Rattle.parity.specs.Xor.{IsSoundRow}
use Rattle.scrub.specs.Scrubbing.{AreUnsound, AreUnsoundIn, row_in}
use Rattle.volume_table.specs.SetReplies.{rows_within}
use Rattle.volume_table.proofs.StoreSteps.{kept}

-- ---- lists

later : (first : ℕ) (rows : List ℕ) (row : ℕ) → Contains rows row → Contains (first ∷ rows) row
later first rows row (k, below, is) = (suc k, omega (arith, below), is)

filter_all : (test : ℕ → Bool) (rows : List ℕ) → ((row : ℕ) → Contains rows row → test row ≡ true) → filter test rows ≡ rows
filter_all test [] each = refl
filter_all test (first ∷ rows) each =
    ap (λ (b : Bool). cond b (first ∷ filter test rows) (filter test rows)) (each first (0, omega arith, refl))
    ∙ ap (λ (rest : List ℕ). first ∷ rest) (filter_all test rows (λ row among. each row (later first rows row among)))

filter_none : (test : ℕ → Bool) (rows : List ℕ) → ((row : ℕ) → Contains rows row → test row ≡ false) → filter test rows ≡ []
filter_none test [] each = refl
filter_none test (first ∷ rows) each =
    ap (λ (b : Bool). cond b (first ∷ filter test rows) (filter test rows)) (each first (0, omega arith, refl))
    ∙ filter_none test rows (λ row among. each row (later first rows row among))

-- what a test keeps passes it
passes : (test : ℕ → Bool) (rows : List ℕ) (row : ℕ) → Contains (filter test rows) row → test row ≡ true
passes test rows row among = All-contains (λ r. test r ≡ true) (filter test rows) row (filter_passes test rows) among

-- and was there
was_there : (test : ℕ → Bool) (rows : List ℕ) (row : ℕ) → Contains (filter test rows) row → Contains rows row
was_there test rows row among = All-contains (Contains rows) (filter test rows) row (All-filter test (Contains rows) rows (All-contains_itself rows)) among

at_place : (rows : List ℕ) (k : ℕ) → k < length rows → Contains rows (get_or rows k 0)
at_place rows k here = (k, here, get_or_default rows k (get_or rows k 0) 0 here)

-- rows rise with others after them that are all above them
rises_both : (front back : List ℕ) → IsStrictlyIncreasing front → IsStrictlyIncreasing back
    → ((row above : ℕ) → Contains front row → Contains back above → row < above) → IsStrictlyIncreasing (front ++ back)
rises_both front back first second apart = λ k inside.
    let long = length-append front back in
    elim (cases_lt (k + 1) (length front)) [
      | inl within ↦ omega (
        arith,
        get_or_append_left front back 0 k (omega (arith, within)),
        get_or_append_left front back 0 (k + 1) within,
        first k within,
      )
      | inr beyond ↦ elim (cases_lt k (length front)) [
        | inl here ↦ omega (
          arith,
          get_or_append_left front back 0 k here,
          get_or-append_right front back (length front) (k + 1) 0 refl beyond,
          apart (get_or front k 0) (get_or back (k + 1 - length front) 0) (at_place front k here)
              (at_place back (k + 1 - length front) (omega (arith, inside, long, beyond))),
        )
        | inr past ↦
            let next : k - length front + 1 ≡ k + 1 - length front = omega (arith, past) in
            omega (
              arith,
              get_or-append_right front back (length front) k 0 refl past,
              get_or-append_right front back (length front) (k + 1) 0 refl beyond,
              ap (λ (n : ℕ). get_or back n 0) next,
              second (k - length front) (omega (arith, inside, long, past)),
            )
      ]
    ]

-- ---- around a part

is_before : (first : ℕ) → ℕ → Bool
is_before first row = nat_lt row first

is_after : (first count : ℕ) → ℕ → Bool
is_after first count row = nat_le (first + count) row

-- these rows of the part, between those of all rows that stand before and after it
pub around : (first count : ℕ) (all part : List ℕ) → List ℕ
around first count all part = filter (is_before first) all ++ (part ++ filter (is_after first count) all)

before_is : (first : ℕ) (all : List ℕ) (row : ℕ) → Contains (filter (is_before first) all) row → row < first
unfolding is_before
before_is first all row among = ltb-true row first (passes (is_before first) all row among)

after_is : (first count : ℕ) (all : List ℕ) (row : ℕ) → Contains (filter (is_after first count) all) row → first + count ≤ row
unfolding is_after
after_is first count all row among = leb-true (first + count) row (passes (is_after first count) all row among)

-- a row is where one of the three lists has it
by_place : (P : Type 0) (first count : ℕ) (all part : List ℕ) (row : ℕ) → Contains (around first count all part) row
    → (Contains (filter (is_before first) all) row → P) → (Contains part row → P) → (Contains (filter (is_after first count) all) row → P) → P
unfolding around
by_place P first count all part row among before within after =
    elim (Contains-append_cases (filter (is_before first) all) (part ++ filter (is_after first count) all) row among) [
      | inl here ↦ before here
      | inr rest ↦ elim (Contains-append_cases part (filter (is_after first count) all) row rest) [
        | inl here ↦ within here
        | inr here ↦ after here
      ]
    ]

-- what is within the part are these rows of it
pub within_around : (first count : ℕ) (all part : List ℕ) → ((row : ℕ) → Contains part row → (first ≤ row) × (row < first + count))
    → rows_within first count (around first count all part) ≡ part
unfolding around
within_around first count all part of_part =
    filter-append test before (part ++ after)
    ∙ ap₂ (λ (front back : List ℕ). front ++ back)
    (filter_none test before (λ row among. ap (λ (b : Bool). b && nat_lt row (first + count)) (lt-leb first row (before_is first all row among))))
    (filter-append test part after ∙ ap₂ (λ (front back : List ℕ). front ++ back)
    (filter_all test part (λ row among. let (from, below) = of_part row among in
    and_from (nat_le first row) (nat_lt row (first + count)) (le-leb first row from) (lt-ltb row (first + count) below)))
    (filter_none test after (λ row among. not_below (nat_le first row) (le-ltb row (first + count) (after_is first count all row among)))))
    ∙ append-nil part
  where
    test : ℕ → Bool
    test row = nat_le first row && nat_lt row (first + count)

    before : List ℕ
    before = filter (is_before first) all

    after : List ℕ
    after = filter (is_after first count) all

    not_below : (b : Bool) {c : Bool} → c ≡ false → (b && c) ≡ false
    not_below true is = is
    not_below false is = refl

-- ---- the unsound rows

module _ (table : Table) (image : Slots) (first count : ℕ) (all part : List ℕ) (are : AreUnsound table image all)
    (are_in : AreUnsoundIn table image first count part) where
  rises : IsStrictlyIncreasing (around first count all part)
  unfolding around
  rises =
      let before = filter (is_before first) all in
      let after = filter (is_after first count) all in
      rises_both before (part ++ after) (IsStrictlyIncreasing-filter (is_before first) all are.rising)
      (rises_both part after are_in.rising (IsStrictlyIncreasing-filter (is_after first count) all are.rising)
      (λ row above here there. omega (arith, (are_in.unsound row here).0.before_end, after_is first count all above there)))
      (λ row above here there. elim (Contains-append_cases part after above there) [
        | inl within ↦ omega (arith, before_is first all row here, (are_in.unsound above within).0.from_first)
        | inr past ↦ omega (arith, before_is first all row here, after_is first count all above past)
      ])

  -- by where the row stands
  has_all : (row : ℕ) → row < row_count table → Contains (around first count all part) row ⊎ IsSoundRow (row_in table image row)
  unfolding around is_before is_after
  has_all row of_set =
      let before = filter (is_before first) all in
      let after = filter (is_after first count) all in
      elim (cases_lt row first) [
        | inl low ↦ elim (are.all row of_set) [
          | inl among ↦ inl (Contains-append_left before (part ++ after) row (kept (is_before first) all row among (lt-ltb row first low)))
          | inr sound ↦ inr sound
        ]
        | inr from ↦ elim (cases_lt row (first + count)) [
          | inl below ↦ elim (are_in.all row record { from_first = from; before_end = below; of_set = of_set }) [
            | inl among ↦ inl (Contains-append_right before (part ++ after) row (Contains-append_left part after row among))
            | inr sound ↦ inr sound
          ]
          | inr high ↦ elim (are.all row of_set) [
            | inl among ↦ inl (Contains-append_right before (part ++ after) row (Contains-append_right part after row
                (kept (is_after first count) all row among (le-leb (first + count) row high))))
            | inr sound ↦ inr sound
          ]
        ]
      ]

  -- with the unsound rows of a part in their place these are still all unsound rows
  pub unsound_around : AreUnsound table image (around first count all part)
  unsound_around = record {
    rising = rises;
    unsound = λ row among. by_place ((row < row_count table) × ¬ IsSoundRow (row_in table image row)) first count all part row among
        (λ before. are.unsound row (was_there (is_before first) all row before))
        (λ within. let (of_part, unsound) = are_in.unsound row within in (of_part.of_set, unsound))
        (λ after. are.unsound row (was_there (is_after first count) all row after));
    all = has_all;
  }
