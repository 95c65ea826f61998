-- A row more fits the runs of an entry that has fewer than 32 rows.
use Rattle.std.proofs.Common.{◌≡◌, inl, inr, ℕ, zero, suc, ◌+◌, ◌*◌, ◌^◌, ◌<◌, ◌≤◌, ◌==◌, Bool, true, false, cond, List, [], ◌∷◌, length, refl, sym, subst, ap}
use Rattle.std.proofs.Common.{arith}
use Rattle.std.proofs.Math.Nat.{mul-le-mul_right}
use Rattle.std.proofs.lemmas.Bool.{cases_Bool}
use Rattle.std.specs.Int.RustNames.{count_ones}
use Rattle.entry_runs.specs.declared.run.Run.{Run}
use Rattle.entry_runs.specs.Body.{has_bit}
use Rattle.entry_runs.specs.Joined.{longer, touches, with_run}
use Rattle.entry_runs.specs.Runs.{AreEach, FitEntry, IsRun, end_of_runs, held_in, held_of, masked_in, masked_of}
use Rattle.entry_runs.specs.WrittenOut.{rows_of_runs}
use Rattle.entry_runs.proofs.Bits.{all_bits}
use Rattle.entry_runs.proofs.Builds.{fit_with, longer_run}
use Rattle.entry_runs.proofs.Counts.{count_most}
use Rattle.entry_runs.proofs.Joins.{one_apart, one_touching}
use Rattle.entry_runs.proofs.Rows.{length-rows}

-- so few rows hold few sectors, and are few runs

each_rest : (run : Run) (runs : List Run) → AreEach (run ∷ runs) → AreEach runs
each_rest run runs each i within = each (suc i) (omega (arith, within))

each_cons : (run : Run) (runs : List Run) → IsRun run → AreEach runs → AreEach (run ∷ runs)
each_cons run runs is each zero within = is
each_cons run runs is each (suc i) within = each i (omega (arith, within))

runs_few : (runs : List Run) → AreEach runs → length runs ≤ length (rows_of_runs runs)
runs_few [] each = omega arith
runs_few (run ∷ runs) each =
    omega (arith, runs_few runs (each_rest run runs each), length-rows run runs, (each 0 (omega arith)).long)

masked_few : (runs : List Run) → masked_in runs ≤ length (rows_of_runs runs)
masked_few [] = omega arith
masked_few (run ∷ runs) = omega (arith, masked_few runs, length-rows run runs, one (run.mask == 0))
  where
    one : (b : Bool) → cond b 0 run.length ≤ run.length
    one true = omega arith
    one false = omega arith

pub eight_bits : (mask : ℕ) → mask < 256 → count_ones mask ≤ 8
eight_bits mask byte = omega (arith, all_bits mask byte, count_most (has_bit mask) 8)

held_few : (runs : List Run) → AreEach runs → held_in runs ≤ 8 * length (rows_of_runs runs)
held_few [] each = omega arith
held_few (run ∷ runs) each =
    add (held_of run) (held_in runs) run.length (length (rows_of_runs runs)) (length (rows_of_runs (run ∷ runs)))
    (product run.length (count_ones run.mask) (eight_bits run.mask (each 0 (omega arith)).mask_most)) (held_few runs (each_rest run runs each))
    (length-rows run runs)
  where
    product : (long width : ℕ) → width ≤ 8 → long * width ≤ 8 * long
    product long width few = omega (arith, mul-le-mul_right {m = width} {n = 8} long few)

    add : (held rest long rows all : ℕ) → held ≤ 8 * long → rest ≤ 8 * rows → all ≡ long + rows → held + rest ≤ 8 * all
    add held rest long rows all one more is = omega (arith, one, more, is)

-- with a row more each is a run, and there is one more of them at most

each_with : (runs : List Run) (next : Run) → AreEach runs → IsRun next → next.length ≡ 1 → length (rows_of_runs runs) < 65535 → AreEach (with_run runs next)
each_with [] next each is one few = each_cons next [] is (λ i within. absurd (omega (arith, within)))
each_with (run ∷ []) next each is one few = elim (cases_Bool (touches run next)) [
  | inl touch ↦
      let short : run.length + next.length < 2 ^ 16 = omega (arith, few, length-rows run [], one) in
      subst AreEach (sym (one_touching run next touch))
      (each_cons (longer run next.length) [] (longer_run run next (each 0 (omega arith)) is touch short) (λ i within. absurd (omega (arith, within))))
  | inr apart ↦ subst AreEach (sym (one_apart run next apart))
      (each_cons run (next ∷ []) (each 0 (omega arith)) (each_cons next [] is (λ i within. absurd (omega (arith, within)))))
]
each_with (run ∷ after ∷ runs) next each is one few =
    each_cons run (with_run (after ∷ runs) next) (each 0 (omega arith))
    (each_with (after ∷ runs) next (each_rest run (after ∷ runs) each) is one (omega (arith, few, length-rows run (after ∷ runs))))

one_more : (runs : List Run) (next : Run) → length (with_run runs next) ≤ length runs + 1
one_more [] next = omega arith
one_more (run ∷ []) next = elim (cases_Bool (touches run next)) [
  | inl touch ↦ omega (arith, ap length (one_touching run next touch))
  | inr apart ↦ omega (arith, ap length (one_apart run next apart))
]
one_more (run ∷ after ∷ runs) next = omega (arith, one_more (after ∷ runs) next)

-- so a row more fits those of an entry with fewer than 32 rows
pub few_rows_fit : (runs : List Run) (row mask : ℕ) → FitEntry runs → length (rows_of_runs runs) < 32 → end_of_runs runs ≤ row → row < 2 ^ 32 → mask < 256
    → 2 ≤ count_ones mask → FitEntry (with_run runs (record { first = row; length = 1; mask = mask }))
few_rows_fit runs row mask fit few after below byte two =
    let next : Run = record { first = row; length = 1; mask = mask } in
    let is : IsRun next = record { long = omega arith; length_most = omega arith; mask_most = byte; masked = λ some. two; below = omega (arith, below) } in
    let bits = eight_bits mask byte in
    let held = held_few runs fit.each in
    let alone : held_of next ≤ 8 = one_row (count_ones mask) bits in
    let masked : masked_of next ≤ 1 = one (mask == 0) in
    fit_with runs next fit after (omega arith) (omega (arith, masked_few runs, few, masked)) (omega (arith, held, few, alone))
    (omega (arith, one_more runs next, runs_few runs fit.each, few)) (each_with runs next fit.each is refl (omega (arith, few)))
  where
    one_row : (w : ℕ) → w ≤ 8 → 1 * w ≤ 8
    one_row w few = omega (arith, few)

    one : (b : Bool) → cond b 0 1 ≤ 1
    one true = omega arith
    one false = omega arith
