-- The run of a row, and what comes before it.
use Rattle.std.proofs.Common.{◌≡◌, inl, inr, ℕ, suc, ◌+◌, ◌<◌, ◌≤◌, Bool, true, false, cond, nat_le, nat_lt, List, [], ◌∷◌, length, Option, Some, None}
use Rattle.std.proofs.Common.{refl, sym, ap, ◌∙◌, arith}
use Rattle.std.proofs.lemmas.Bool.{and_parts, and_from, cases_Bool, false_from_ne_true, false≢true, leb-true, ltb-true, le-leb, lt-ltb}
use Rattle.entry_runs.specs.declared.run.Run.{Run}
use Rattle.entry_runs.specs.Body.{has_bit, has_row, in_body, in_body_by, rank, rank_in_run, run_of}
use Rattle.entry_runs.specs.Runs.{FitEntry, Follows, end_of, held_of, run_at}

-- runs with rows, each after the one before: what runs of an entry are, and those that are too many or too long
pub record Rise (runs : List Run) : Type 0 where
  pub long : (i : ℕ) → i < length runs → 1 ≤ (run_at runs i).length
  pub follow : (i : ℕ) → suc i < length runs → Follows (run_at runs i) (run_at runs (suc i))

pub fit_rise : (runs : List Run) → FitEntry runs → Rise runs
fit_rise runs fit = record {
  long = λ i within. (fit.each i within).long;
  follow = fit.follow;
}

-- so do the runs after the first
pub rise_rest : (run : Run) (runs : List Run) → Rise (run ∷ runs) → Rise runs
rise_rest run runs rise = record {
  long = λ i within. rise.long (suc i) (omega (arith, within));
  follow = λ i within. rise.follow (suc i) (omega (arith, within));
}

-- the tests of a row

pub row_in : (run : Run) (row : ℕ) → has_row run row ≡ true → (run.first ≤ row) × (row < end_of run)
row_in run row is =
    let parts = and_parts (nat_le run.first row) (nat_lt row (end_of run)) is in
    (leb-true run.first row parts.0, ltb-true row (end_of run) parts.1)

pub row_is_in : (run : Run) (row : ℕ) → run.first ≤ row → row < end_of run → has_row run row ≡ true
row_is_in run row least below =
    and_from (nat_le run.first row) (nat_lt row (end_of run)) (le-leb run.first row least) (lt-ltb row (end_of run) below)

pub row_beyond : (run : Run) (row : ℕ) → end_of run ≤ row → has_row run row ≡ false
row_beyond run row beyond = false_from_ne_true (has_row run row) (λ is. omega (arith, (row_in run row is).1, beyond))

-- the first run, and those after it

pub run_here : (run : Run) (runs : List Run) (row : ℕ) → has_row run row ≡ true → run_of (run ∷ runs) row ≡ Some run
run_here run runs row is = ap (λ (b : Bool). cond b (Some run) (run_of runs row)) is

pub run_later : (run : Run) (runs : List Run) (row : ℕ) → has_row run row ≡ false → run_of (run ∷ runs) row ≡ run_of runs row
run_later run runs row isnt = ap (λ (b : Bool). cond b (Some run) (run_of runs row)) isnt

pub in_here : (run : Run) (runs : List Run) (row member : ℕ) → has_row run row ≡ true → in_body (run ∷ runs) row member ≡ has_bit run.mask member
in_here run runs row member is = ap (λ (o : Option Run). in_body_by o member) (run_here run runs row is)

pub in_later : (run : Run) (runs : List Run) (row member : ℕ) → has_row run row ≡ false → in_body (run ∷ runs) row member ≡ in_body runs row member
in_later run runs row member isnt = ap (λ (o : Option Run). in_body_by o member) (run_later run runs row isnt)

pub rank_here : (run : Run) (runs : List Run) (row member : ℕ) → has_row run row ≡ true → rank (run ∷ runs) row member ≡ rank_in_run run row member
rank_here run runs row member is = ap (λ (b : Bool). cond b (rank_in_run run row member) (held_of run + rank runs row member)) is

pub rank_later : (run : Run) (runs : List Run) (row member : ℕ) → has_row run row ≡ false
    → rank (run ∷ runs) row member ≡ held_of run + rank runs row member
rank_later run runs row member isnt = ap (λ (b : Bool). cond b (rank_in_run run row member) (held_of run + rank runs row member)) isnt

-- a row of a run after the first is after the first's rows
pub later_row : (run : Run) (runs : List Run) (row : ℕ) (found : Run) → Rise (run ∷ runs) → run_of runs row ≡ Some found → end_of run ≤ row
later_row run [] row found rise is = absurd (cc)
later_row run (next ∷ runs) row found rise is =
    let follows = rise.follow 0 (omega arith) in
    elim (cases_Bool (has_row next row)) [
      | inl here ↦ omega (arith, follows.above, (row_in next row here).0)
      | inr later ↦
          let beyond = later_row next runs row found (rise_rest run (next ∷ runs) rise) (sym (run_later next runs row later) ∙ is) in
          omega (arith, follows.above, beyond)
    ]

-- what a body has is a run's
pub run_in_body : (o : Option Run) (member : ℕ) → in_body_by o member ≡ true → (run : Run) × (o ≡ Some run) × (has_bit run.mask member ≡ true)
run_in_body None member is = absurd (false≢true is)
run_in_body (Some run) member is = (run, refl, is)

-- a run that is found is one of them
pub run_among : (runs : List Run) (row : ℕ) (found : Run) → run_of runs row ≡ Some found
    → (i : ℕ) × (i < length runs) × (run_at runs i ≡ found) × (has_row found row ≡ true)
run_among [] row found is = absurd (cc)
run_among (run ∷ runs) row found is = elim (cases_Bool (has_row run row)) [
  | inl here ↦
      let same : run ≡ found = one_run (sym (run_here run runs row here) ∙ is) in
      (0, omega arith, same, ap (λ (r : Run). has_row r row) (sym same) ∙ here)
  | inr later ↦
      let rest = run_among runs row found (sym (run_later run runs row later) ∙ is) in
      (suc rest.0, omega (arith, rest.1), rest.2, rest.3)
]
  where
    one_run : {a b : Run} → Some a ≡ Some b → a ≡ b
    one_run is = cc
