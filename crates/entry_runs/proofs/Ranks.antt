-- Places in a body.
use Rattle.std.proofs.Common.{◌≡◌, inl, inr, ℕ, suc, ◌+◌, ◌-◌, ◌*◌, ◌/◌, ◌%◌, ◌<◌, ◌≤◌, true, List, [], ◌∷◌, length, refl, sym, subst, ap, ◌∙◌, arith}
use Rattle.std.proofs.Math.Nat.{div-add-mod', div-lt_iff_lt-mul, mod-lt, mul-le-mul_right}
use Rattle.std.proofs.lemmas.Bool.{cases_Bool, cases_lt, cases_order, false≢true}
use Rattle.std.specs.Int.RustNames.{count_ones}
use Rattle.entry_runs.specs.declared.run.Run.{Run}
use Rattle.entry_runs.specs.Body.{bits_below, has_bit, has_row, in_body, rank, rank_in_run, run_of}
use Rattle.entry_runs.specs.Law.{Before}
use Rattle.entry_runs.specs.Runs.{held_in, held_of, run_at}
use Rattle.entry_runs.proofs.Bits.{all_bits, bits_within}
use Rattle.entry_runs.proofs.Counts.{count_beyond, member_counted}
use Rattle.entry_runs.proofs.Lookups.{Rise, in_here, in_later, later_row, rank_here, rank_later, rise_rest, row_beyond, row_in, row_is_in, run_in_body}

-- the masks of runs are bytes
abbrev pub AreBytes : List Run → Type 0
AreBytes runs = (i : ℕ) → i < length runs → (run_at runs i).mask < 256

bytes_rest : (run : Run) (runs : List Run) → AreBytes (run ∷ runs) → AreBytes runs
bytes_rest run runs bytes i within = bytes (suc i) (omega (arith, within))

-- places by rows of one width

row_below : (a b w c : ℕ) → a < b → c < w → a * w + c < b * w
row_below a b w c below within = omega (arith, mul-le-mul_right {m = a + 1} {n = b} w (omega (arith, below)), within)

row_split : (k n w : ℕ) → k < n * w → (a : ℕ) × (c : ℕ) × (a < n) × (c < w) × (a * w + c ≡ k)
row_split k n w within = elim (cases_lt 0 w) [
  | inl some ↦ (k / w, k % w, (div-lt_iff_lt-mul {k = w} {x = k} {y = n} some).1 within, mod-lt k some, div-add-mod' k w)
  | inr none ↦ let no : w ≡ 0 = omega (arith, none) in absurd (omega (arith, subst (λ (v : ℕ). k < n * v) no within))
]

sum_below : (x a b c : ℕ) → x ≡ a → a < b → x < b + c
sum_below x a b c is below = omega arith

rest_below : (x a b c : ℕ) → x ≡ b + a → a < c → x < b + c
rest_below x a b c is below = omega arith

-- a place in a run is below the count of what it holds
in_run_within : (run : Run) (row member : ℕ) → run.mask < 256 → has_row run row ≡ true → has_bit run.mask member ≡ true
    → rank_in_run run row member < held_of run
in_run_within run row member byte here bit =
    let rows = row_in run row here in
    row_below (row - run.first) run.length (count_ones run.mask) (bits_below run.mask member) (omega (arith, rows.0, rows.1))
    (bits_within run.mask member byte bit)

-- and rises by row and member
in_run_rise : (run : Run) (row member row' member' : ℕ) → run.mask < 256 → has_row run row ≡ true → has_bit run.mask member ≡ true
    → Before row member row' member' → rank_in_run run row member < rank_in_run run row' member'
in_run_rise run row member row' member' byte here bit (inl lower) =
    let rows = row_in run row here in
    let step = row_below (row - run.first) (row' - run.first) (count_ones run.mask) (bits_below run.mask member) (omega (arith, rows.0, lower))
    (bits_within run.mask member byte bit) in
    sum_below (rank_in_run run row member) (rank_in_run run row member) ((row' - run.first) * count_ones run.mask) (bits_below run.mask member') refl step
in_run_rise run row member row' member' byte here bit (inr (same, lower)) =
    let step = count_beyond (has_bit run.mask) member member' bit lower in
    rest_below (rank_in_run run row member) (bits_below run.mask member) ((row' - run.first) * count_ones run.mask) (bits_below run.mask member')
    (ap (λ (r : ℕ). (r - run.first) * count_ones run.mask + bits_below run.mask member) same) step

-- a place is below the count of what all hold
pub rank_within : (runs : List Run) (row member : ℕ) → AreBytes runs → in_body runs row member ≡ true → rank runs row member < held_in runs
rank_within [] row member bytes is = absurd (false≢true is)
rank_within (run ∷ runs) row member bytes is = elim (cases_Bool (has_row run row)) [
  | inl here ↦ sum_below (rank (run ∷ runs) row member) (rank_in_run run row member) (held_of run) (held_in runs) (rank_here run runs row member here)
      (in_run_within run row member (bytes 0 (omega arith)) here (sym (in_here run runs row member here) ∙ is))
  | inr later ↦ rest_below (rank (run ∷ runs) row member) (rank runs row member) (held_of run) (held_in runs) (rank_later run runs row member later)
      (rank_within runs row member (bytes_rest run runs bytes) (sym (in_later run runs row member later) ∙ is))
]

-- a sector before another is of a row no higher
row_before : (row member row' member' : ℕ) → Before row member row' member' → row ≤ row'
row_before row member row' member' (inl lower) = omega (arith, lower)
row_before row member row' member' (inr (same, lower)) = omega (arith, same)

-- places rise by row and member
pub rank_rises : (runs : List Run) (row member row' member' : ℕ) → Rise runs → AreBytes runs → in_body runs row member ≡ true
    → in_body runs row' member' ≡ true → Before row member row' member' → rank runs row member < rank runs row' member'
rank_rises [] row member row' member' rise bytes is is' before = absurd (false≢true is)
rank_rises (run ∷ runs) row member row' member' rise bytes is is' before = elim (cases_Bool (has_row run row)) [
  | inl here ↦
      let bit = sym (in_here run runs row member here) ∙ is in
      let at = rank_here run runs row member here in
      elim (cases_Bool (has_row run row')) [
        | inl here' ↦ subst (λ (k : ℕ). rank (run ∷ runs) row member < k) (sym (rank_here run runs row' member' here'))
            (subst (λ (k : ℕ). k < rank_in_run run row' member') (sym at) (in_run_rise run row member row' member' (bytes 0 (omega arith)) here bit before))
        | inr later' ↦ subst (λ (k : ℕ). rank (run ∷ runs) row member < k) (sym (rank_later run runs row' member' later'))
            (sum_below (rank (run ∷ runs) row member) (rank_in_run run row member) (held_of run) (rank runs row' member') at
            (in_run_within run row member (bytes 0 (omega arith)) here bit))
      ]
  | inr later ↦
      let is_later = sym (in_later run runs row member later) ∙ is in
      elim (cases_Bool (has_row run row')) [
        | inl here' ↦
            let found = run_in_body (run_of runs row) member is_later in
            absurd (omega (arith, later_row run runs row found.0 rise found.1, (row_in run row' here').1, row_before row member row' member' before))
        | inr later' ↦ subst (λ (k : ℕ). rank (run ∷ runs) row member < k) (sym (rank_later run runs row' member' later'))
            (rest_below (rank (run ∷ runs) row member) (rank runs row member) (held_of run) (rank runs row' member') (rank_later run runs row member later)
            (rank_rises runs row member row' member' (rise_rest run runs rise) (bytes_rest run runs bytes) is_later
            (sym (in_later run runs row' member' later') ∙ is') before))
      ]
]

-- so a place is that of one sector
pub one_rank : (runs : List Run) (row member row' member' : ℕ) → Rise runs → AreBytes runs → in_body runs row member ≡ true
    → in_body runs row' member' ≡ true → rank runs row member ≡ rank runs row' member' → (row ≡ row') × (member ≡ member')
one_rank runs row member row' member' rise bytes is is' same =
    let forth : Before row member row' member' → ⊥ = λ before. omega (arith, rank_rises runs row member row' member' rise bytes is is' before, same) in
    let back : Before row' member' row member → ⊥ = λ before. omega (arith, rank_rises runs row' member' row member rise bytes is' is before, same) in
    elim (cases_order row row') [
      | inr (inl lower) ↦ absurd (forth (inl lower))
      | inr (inr higher) ↦ absurd (back (inl higher))
      | inl one ↦ elim (cases_order member member') [
        | inr (inl lower) ↦ absurd (forth (inr (one, lower)))
        | inr (inr higher) ↦ absurd (back (inr (sym one, higher)))
        | inl both ↦ (one, both)
      ]
    ]

-- and each place is one's
pub rank_filled : (runs : List Run) (k : ℕ) → Rise runs → AreBytes runs → k < held_in runs
    → (row : ℕ) × (member : ℕ) × (in_body runs row member ≡ true) × (rank runs row member ≡ k)
rank_filled [] k rise bytes within = absurd (omega (arith, within))
rank_filled (run ∷ runs) k rise bytes within = elim (cases_lt k (held_of run)) [
  | inl below ↦
      let split = row_split k run.length (count_ones run.mask) below in
      let counted = member_counted (has_bit run.mask) 8 split.1 (omega (arith, split.3, all_bits run.mask (bytes 0 (omega arith)))) in
      let row = run.first + split.0 in
      let here = row_is_in run row (omega arith) (omega (arith, split.2)) in
      let back : row - run.first ≡ split.0 = omega arith in (
        row,
        counted.0,
        in_here run runs row counted.0 here ∙ counted.2,
        rank_here run runs row counted.0 here ∙ ap (λ (a : ℕ). a * count_ones run.mask + bits_below run.mask counted.0) back
            ∙ ap (λ (c : ℕ). split.0 * count_ones run.mask + c) counted.3 ∙ split.4,
      )
  | inr beyond ↦
      let rest : k - held_of run < held_in runs = take_rest k (held_of run) (held_in runs) within beyond in
      let found = rank_filled runs (k - held_of run) (rise_rest run runs rise) (bytes_rest run runs bytes) rest in
      let row = found.0 in
      let member = found.1 in
      let of_run = run_in_body (run_of runs row) member found.2 in
      let later = row_beyond run row (later_row run runs row of_run.0 rise of_run.1) in (
        row,
        member,
        in_later run runs row member later ∙ found.2,
        rank_later run runs row member later ∙ put_back k (held_of run) (rank runs row member) beyond found.3,
      )
]
  where
    take_rest : (k a b : ℕ) → k < a + b → a ≤ k → k - a < b
    take_rest k a b within beyond = omega arith

    put_back : (k a r : ℕ) → a ≤ k → r ≡ k - a → a + r ≡ k
    put_back k a r beyond is = omega arith
