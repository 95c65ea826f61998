-- Where rows stand in a seal's list of rows.
use Rattle.std.proofs.Common.{◌≡◌, ◌≢◌, ℕ, zero, suc, ◌+◌, ◌<◌, ◌≤◌, Bool, true, false, cond, ◌==◌, List, [], ◌∷◌, length, refl, sym, subst, ap, ◌∙◌, arith}
use Rattle.std.proofs.Common.{Option, Some, None}
use Rattle.std.specs.Prelude.{option_map}
use Rattle.std.specs.List.Sorted.{IsStrictlyIncreasing}
use Rattle.std.proofs.lemmas.Bool.{eq-eqb, eqb-true, false≢true}
use Rattle.sector_model.proofs.Replay.{eqb_other}
use Rattle.stripe_journal.specs.Body.{place_in}
use Rattle.stripe_journal.specs.Seals.{row_at}

-- the rows after the first rise too
pub rising_tail : (first : ℕ) (rows : List ℕ) → IsStrictlyIncreasing (first ∷ rows) → IsStrictlyIncreasing rows
rising_tail first rows rising = λ k within.
    let next : suc k + 1 ≡ suc (k + 1) = omega arith in
    subst (λ (n : ℕ). row_at rows k < row_at (first ∷ rows) n) next (rising (suc k) (omega arith))

-- the first is below each of them
pub first_below : (first : ℕ) (rows : List ℕ) (i : ℕ) → IsStrictlyIncreasing (first ∷ rows) → i < length rows → first < row_at rows i
first_below first [] i rising within = absurd (omega arith)
first_below first (second ∷ rows) zero rising within = rising 0 (omega arith)
first_below first (second ∷ rows) (suc i) rising within =
    omega (arith, rising 0 (omega arith), first_below second rows i (rising_tail first (second ∷ rows) rising) (omega arith))

-- a place in rising rows is below another where its row is
pub rising_order : (rows : List ℕ) (i j : ℕ) → IsStrictlyIncreasing rows → i < j → j < length rows → row_at rows i < row_at rows j
rising_order [] i j rising below within = absurd (omega arith)
rising_order (first ∷ rows) i zero rising below within = absurd (omega arith)
rising_order (first ∷ rows) zero (suc j) rising below within = first_below first rows j rising (omega arith)
rising_order (first ∷ rows) (suc i) (suc j) rising below within = rising_order rows i j (rising_tail first rows rising) (omega arith) (omega arith)

one_on : (i : ℕ) → i + 1 ≡ suc i
one_on i = omega arith

-- the row at a place stands there
pub place_of_row : (rows : List ℕ) (i : ℕ) → IsStrictlyIncreasing rows → i < length rows → place_in rows (row_at rows i) ≡ Some i
place_of_row [] i rising within = absurd (omega arith)
place_of_row (first ∷ rows) zero rising within = ap (λ (b : Bool). cond b (Some 0) (option_map (λ i. i + 1) (place_in rows first))) (eq-eqb first first refl)
place_of_row (first ∷ rows) (suc i) rising within =
    let row = row_at rows i in
    let below = first_below first rows i rising (omega arith) in
    ap (λ (b : Bool). cond b (Some 0) (option_map (λ i. i + 1) (place_in rows row))) (eqb_other first row (omega arith))
    ∙ ap (option_map (λ i. i + 1)) (place_of_row rows i (rising_tail first rows rising) (omega arith))
    ∙ ap Some (one_on i)

-- the place that is found is the row's

found_after : (first row i : ℕ) (rows : List ℕ) (place : Option ℕ) → ((k : ℕ) → place ≡ Some k → (k < length rows) × (row_at rows k ≡ row))
    → option_map (λ i. i + 1) place ≡ Some i → (i < length (first ∷ rows)) × (row_at (first ∷ rows) i ≡ row)
found_after first row i rows None there found = absurd (cc)
found_after first row i rows (Some k) there found =
    let is : k + 1 ≡ i = cc in
    let next : i ≡ suc k = omega arith in
    (omega (arith, (there k refl).0), ap (row_at (first ∷ rows)) next ∙ (there k refl).1)

found_by : (first row i : ℕ) (rows : List ℕ) (b : Bool) → (first == row) ≡ b
    → ((k : ℕ) → place_in rows row ≡ Some k → (k < length rows) × (row_at rows k ≡ row))
    → cond b (Some 0) (option_map (λ i. i + 1) (place_in rows row)) ≡ Some i → (i < length (first ∷ rows)) × (row_at (first ∷ rows) i ≡ row)
found_by first row i rows true same there found =
    let is : 0 ≡ i = cc in
    (omega arith, subst (λ (n : ℕ). row_at (first ∷ rows) n ≡ row) is (eqb-true first row same))
found_by first row i rows false other there found = found_after first row i rows (place_in rows row) there found

pub row_of_place : (rows : List ℕ) (row i : ℕ) → place_in rows row ≡ Some i → (i < length rows) × (row_at rows i ≡ row)
row_of_place [] row i found = absurd (cc)
row_of_place (first ∷ rows) row i found = found_by first row i rows (first == row) refl (λ k is. row_of_place rows row k is) found

-- where no place is found, no row is this one

none_beyond_end : (place : Option ℕ) → option_map (λ i. i + 1) place ≡ None → place ≡ None
none_beyond_end None none = refl
none_beyond_end (Some k) none = absurd (cc)

not_first : (first row : ℕ) (place : Option ℕ) (b : Bool) → (first == row) ≡ b → cond b (Some 0) place ≡ None → (first ≢ row) × (place ≡ None)
not_first first row place true same none = absurd (cc)
not_first first row place false other none = (λ is. absurd (false≢true (sym other ∙ eq-eqb first row is)), none)

pub no_row_without_place : (rows : List ℕ) (row i : ℕ) → place_in rows row ≡ None → i < length rows → row_at rows i ≢ row
no_row_without_place [] row i none within = absurd (omega arith)
no_row_without_place (first ∷ rows) row zero none within = (not_first first row _ (first == row) refl none).0
no_row_without_place (first ∷ rows) row (suc i) none within =
    no_row_without_place rows row i (none_beyond_end (place_in rows row) (not_first first row _ (first == row) refl none).1) (omega arith)

-- where a search for the first place of a row ends

pub place_first : (rows : List ℕ) (place row : ℕ) → ((k : ℕ) → k < place → row_at rows k ≢ row) → place < length rows → row_at rows place ≡ row
    → place_in rows row ≡ Some place
place_first [] place row before within is = absurd (omega arith)
place_first (first ∷ rows) zero row before within is = ap (λ (b : Bool). cond b (Some 0) (option_map (λ i. i + 1) (place_in rows row))) (eq-eqb first row is)
place_first (first ∷ rows) (suc place) row before within is =
    ap (λ (b : Bool). cond b (Some 0) (option_map (λ i. i + 1) (place_in rows row))) (eqb_other first row (before 0 (omega arith)))
    ∙ ap (option_map (λ i. i + 1)) (place_first rows place row (λ k below. before (suc k) (omega arith)) (omega arith) is)
    ∙ ap Some (one_on place)

pub place_none : (rows : List ℕ) (n row : ℕ) → ((k : ℕ) → k < n → row_at rows k ≢ row) → length rows ≤ n → place_in rows row ≡ None
place_none [] n row before all = refl
place_none (first ∷ rows) n row before all =
    ap (λ (b : Bool). cond b (Some 0) (option_map (λ i. i + 1) (place_in rows row))) (eqb_other first row (before 0 (omega arith)))
    ∙ ap (option_map (λ i. i + 1)) (place_none rows (length rows) row (λ k below. before (suc k) (omega arith)) (omega arith))
