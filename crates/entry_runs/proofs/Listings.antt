-- A row by its place among those that are written out, found run by run.
use Rattle.std.proofs.Common.{◌≡◌, ℕ, ◌+◌, ◌-◌, ◌*◌, ◌<◌, ◌≤◌, List, ◌∷◌, length, take, drop, get_or, refl, sym, ap, ◌∙◌, arith, subst}
use Rattle.std.proofs.Math.Nat.{mul-le-mul_right}
use Rattle.std.proofs.lemmas.List.{drop_more}
use Rattle.std.specs.Int.RustNames.{count_ones}
use Rattle.entry_runs.specs.declared.run.Run.{Run}
use Rattle.entry_runs.specs.declared.sizes.TheConstants.{MOST_HELD}
use Rattle.entry_runs.specs.Listed.{IsListed}
use Rattle.entry_runs.specs.Runs.{held_in, held_of, run_at}
use Rattle.entry_runs.specs.WrittenOut.{bits_in, masks_of_runs, rows_of_runs}
use Rattle.entry_runs.proofs.ByRun.{bits_before_first, bits_before_rest}
use Rattle.entry_runs.proofs.Rows.{length-rows, mask_first, mask_rest, row_first, row_rest}

-- the i-th row of runs is one of the last of them, and so many sectors stand before those
pub record IsAmong (runs rest : List Run) (i left before : ℕ) : Type 0 where
  pub within : left < length (rows_of_runs rest)
  pub row : get_or (rows_of_runs runs) i 0 ≡ get_or (rows_of_runs rest) left 0
  pub mask : get_or (masks_of_runs runs) i 0 ≡ get_or (masks_of_runs rest) left 0
  pub bits : bits_in (take i (masks_of_runs runs)) ≡ before + bits_in (take left (masks_of_runs rest))
  pub sum : held_in runs ≡ before + held_in rest

pub among_all : (runs : List Run) (i : ℕ) → i < length (rows_of_runs runs) → IsAmong runs runs i i 0
among_all runs i within = record {
  within = within;
  row = refl;
  mask = refl;
  bits = none (bits_in (take i (masks_of_runs runs)));
  sum = none (held_in runs);
}
  where
    none : (a : ℕ) → a ≡ 0 + a
    none a = omega arith

both : (x a b c d : ℕ) → x ≡ a + b → b ≡ c + d → x ≡ a + c + d
both x a b c d first second = omega arith

-- it is none of the first run's where so many are left
pub among_rest : (runs rest : List Run) (run : Run) (i left before : ℕ) → IsAmong runs (run ∷ rest) i left before → run.length ≤ left
    → IsAmong runs rest i (left - run.length) (before + held_of run)
among_rest runs rest run i left before is beyond = record {
  within = omega (arith, is.within, length-rows run rest, beyond);
  row = is.row ∙ row_rest run rest left beyond;
  mask = is.mask ∙ mask_rest run rest left beyond;
  bits = both (bits_in (take i (masks_of_runs runs))) before (bits_in (take left (masks_of_runs (run ∷ rest)))) (held_of run)
      (bits_in (take (left - run.length) (masks_of_runs rest))) is.bits (bits_before_rest run rest left beyond);
  sum = both (held_in runs) before (held_in (run ∷ rest)) (held_of run) (held_in rest) is.sum refl;
}

-- else it is one of them
pub among_first : (runs rest : List Run) (run : Run) (i left before : ℕ) → IsAmong runs (run ∷ rest) i left before → left < run.length
    → held_in runs ≤ MOST_HELD
    → IsListed runs i (record { row = run.first + left; mask = run.mask; before = before + left * count_ones run.mask })
among_first runs rest run i left before is inner most = record {
  row = sym (is.row ∙ row_first run rest left inner);
  mask = sym (is.mask ∙ mask_first run rest left inner);
  before = sym (is.bits ∙ ap (λ (n : ℕ). before + n) (bits_before_first run rest left (omega (arith, inner))));
  within = fits before (left * count_ones run.mask) (count_ones run.mask) (held_of run) (held_in rest) (held_in runs) is.sum
      (next left (count_ones run.mask) run.length inner) most;
}
  where
    next : (n w long : ℕ) → n < long → n * w + w ≤ long * w
    next n w long inner = omega (arith, mul-le-mul_right {m = n + 1} {n = long} w (omega (arith, inner)))

    fits : (before product width held rest all : ℕ) → all ≡ before + (held + rest) → product + width ≤ held → all ≤ MOST_HELD
        → before + product + width ≤ MOST_HELD
    fits before product width held rest all sum inside most = omega (arith, sum, inside, most)

-- run after run
pub among_next : (runs : List Run) (k i left before : ℕ) → k < length runs → IsAmong runs (drop k runs) i left before
    → IsAmong runs (run_at runs k ∷ drop (k + 1) runs) i left before
among_next runs k i left before within is =
    subst (λ (rest : List Run). IsAmong runs rest i left before) (drop_more runs k (record { first = 0; length = 0; mask = 0 }) within) is

-- how many rows there are, run after run

pub rows_next : (runs : List Run) (k : ℕ) → k < length runs
    → length (rows_of_runs (drop k runs)) ≡ (run_at runs k).length + length (rows_of_runs (drop (k + 1) runs))
rows_next runs k within =
    ap (λ (rest : List Run). length (rows_of_runs rest)) (drop_more runs k (record { first = 0; length = 0; mask = 0 }) within)
    ∙ length-rows (run_at runs k) (drop (k + 1) runs)
