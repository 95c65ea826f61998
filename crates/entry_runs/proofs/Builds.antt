-- What runs with the rows of one more keep of the rules of an entry.
use Rattle.std.proofs.Common.{◌≡◌, inl, inr, ℕ, zero, suc, ◌+◌, ◌-◌, ◌*◌, ◌^◌, ◌<◌, ◌≤◌, ◌==◌, Bool, true, false, cond, List, [], ◌∷◌, ◌++◌, length, take}
use Rattle.std.proofs.Common.{refl, sym, subst, ap, ◌∙◌, arith}
use Rattle.std.proofs.Math.Nat.{add-mul}
use Rattle.std.proofs.lemmas.Bool.{cases_Bool}
use Rattle.std.proofs.lemmas.List.{get_or-take, length-take-le}
use Rattle.std.specs.Int.RustNames.{count_ones}
use Rattle.entry_runs.specs.declared.run.Run.{Run}
use Rattle.entry_runs.specs.declared.sizes.TheConstants.{MOST_HELD, MOST_ROWS, MOST_RUNS}
use Rattle.entry_runs.specs.Joined.{Lengthens, longer, touches, with_run}
use Rattle.entry_runs.specs.Runs.{AreEach, FitEntry, IsRun, end_of, end_of_runs, held_in, held_of, masked_in, masked_of, run_at}
use Rattle.entry_runs.proofs.Joins.{end_at, end_with, joined_last, one_apart, one_touching, rise_with, too_long, touching}
use Rattle.entry_runs.proofs.Lookups.{fit_rise}

-- what both have is counted

add_none : (x a b : ℕ) → x ≡ a + b → x + 0 ≡ a + 0 + b
add_none x a b is = omega arith

move_none : (a b : ℕ) → a + (b + 0) ≡ a + 0 + b
move_none a b = omega arith

add_first : (a x b c : ℕ) → x ≡ b + c → a + x ≡ a + b + c
add_first a x b c is = omega arith

both_masked : (m n mask : ℕ) (b : Bool) → cond b 0 (m + n) ≡ cond b 0 m + cond b 0 n
both_masked m n mask true = refl
both_masked m n mask false = refl

pub masked_with : (runs : List Run) (next : Run) → masked_in (with_run runs next) ≡ masked_in runs + masked_of next
masked_with [] next = omega arith
masked_with (run ∷ []) next = elim (cases_Bool (touches run next)) [
  | inl is ↦
      let both : masked_of (longer run next.length) ≡ masked_of run + masked_of next =
      both_masked run.length next.length run.mask (run.mask == 0) ∙ ap (λ (m : ℕ). masked_of run + cond (m == 0) 0 next.length) (touching run next is).1 in
      ap masked_in (one_touching run next is) ∙ add_none (masked_of (longer run next.length)) (masked_of run) (masked_of next) both
  | inr isnt ↦ ap masked_in (one_apart run next isnt) ∙ move_none (masked_of run) (masked_of next)
]
masked_with (run ∷ after ∷ runs) next = add_first (masked_of run) _ _ _ (masked_with (after ∷ runs) next)

pub held_with : (runs : List Run) (next : Run) → held_in (with_run runs next) ≡ held_in runs + held_of next
held_with [] next = add_zero (held_of next)
  where
    add_zero : (a : ℕ) → a + 0 ≡ 0 + a
    add_zero a = omega arith
held_with (run ∷ []) next = elim (cases_Bool (touches run next)) [
  | inl is ↦
      let both : held_of (longer run next.length) ≡ held_of run + held_of next =
      add-mul run.length next.length (count_ones run.mask) ∙ ap (λ (m : ℕ). held_of run + next.length * count_ones m) (touching run next is).1 in
      ap held_in (one_touching run next is) ∙ add_none (held_of (longer run next.length)) (held_of run) (held_of next) both
  | inr isnt ↦ ap held_in (one_apart run next isnt) ∙ move_none (held_of run) (held_of next)
]
held_with (run ∷ after ∷ runs) next = add_first (held_of run) _ _ _ (held_with (after ∷ runs) next)

-- each is a run

pub each_more : (front : List Run) (one : Run) → AreEach front → IsRun one → AreEach (front ++ one ∷ [])
each_more [] one each is zero within = is
each_more [] one each is (suc i) within = absurd (omega (arith, within))
each_more (run ∷ front) one each is zero within = each 0 (omega arith)
each_more (run ∷ front) one each is (suc i) within = each_more front one (λ k below. each (suc k) (omega (arith, below))) is i (omega (arith, within))

each_taken : (runs : List Run) (n : ℕ) → n ≤ length runs → AreEach runs → AreEach (take n runs)
each_taken runs n within each i below =
    let long = length-take-le n runs within in
    subst IsRun (sym (get_or-take n runs i (record { first = 0; length = 0; mask = 0 }) (omega (arith, below, long))))
    (each i (omega (arith, below, long, within)))

pub longer_run : (run next : Run) → IsRun run → IsRun next → touches run next ≡ true → run.length + next.length < 2 ^ 16 → IsRun (longer run next.length)
longer_run run next is is_next touch short = record {
  long = omega (arith, is.long);
  length_most = short;
  mask_most = is.mask_most;
  masked = is.masked;
  below = omega (arith, (touching run next touch).0, is_next.below);
}

pub each_longer : (runs : List Run) (next : Run) → AreEach runs → IsRun next → 1 ≤ length runs → touches (run_at runs (length runs - 1)) next ≡ true
    → (run_at runs (length runs - 1)).length + next.length < 2 ^ 16
    → AreEach (take (length runs - 1) runs ++ longer (run_at runs (length runs - 1)) next.length ∷ [])
each_longer runs next each is some touch short =
    let i = length runs - 1 in
    each_more (take i runs) (longer (run_at runs i) next.length) (each_taken runs i (omega arith) each)
    (longer_run (run_at runs i) next (each i (omega (arith, some))) is touch short)

-- so all fit that are few enough

pub fit_with : (runs : List Run) (next : Run) → FitEntry runs → end_of_runs runs ≤ next.first → 1 ≤ next.length → masked_in runs + masked_of next ≤ MOST_ROWS
    → held_in runs + held_of next ≤ MOST_HELD → length (with_run runs next) ≤ MOST_RUNS → AreEach (with_run runs next) → FitEntry (with_run runs next)
fit_with runs next fit after some rows held few each = record {
  few = few;
  each = each;
  follow = (rise_with runs next (fit_rise runs fit) after some).follow;
  rows_most = omega (arith, masked_with runs next, rows);
  held_most = omega (arith, held_with runs next, held);
}

-- and none that are too many

pub too_many_rows : (runs : List Run) (next : Run) → MOST_ROWS < masked_in runs + masked_of next → FitEntry (with_run runs next) → ⊥
too_many_rows runs next many fit = omega (arith, masked_with runs next, fit.rows_most, many)

pub too_many_held : (runs : List Run) (next : Run) → MOST_HELD < held_in runs + held_of next → FitEntry (with_run runs next) → ⊥
too_many_held runs next many fit = omega (arith, held_with runs next, fit.held_most, many)

pub fit_end : (runs : List Run) → FitEntry runs → end_of_runs runs ≤ 2 ^ 32
fit_end [] fit = omega arith
fit_end (run ∷ runs) fit =
    let last = end_at (run ∷ runs) (length runs) (omega arith) in
    omega (arith, last, (fit.each (length runs) (omega arith)).below)

pub too_high : (runs : List Run) (next : Run) → 2 ^ 32 < end_of next → FitEntry (with_run runs next) → ⊥
too_high runs next high fit = omega (arith, fit_end (with_run runs next) fit, end_with runs next, high)

-- what lengthening the last run comes to

pub lengthened : (runs new : List Run) (next : Run) (result : Bool) → 1 ≤ length runs → touches (run_at runs (length runs - 1)) next ≡ true
    → Lengthens runs next.length new result → result ≡ true → new ≡ with_run runs next
lengthened runs new next result some touch to is = to.taken is ∙ sym (joined_last runs next (length runs - 1) (omega (arith, some)) touch)

pub lengthened_each : (runs new : List Run) (next : Run) (result : Bool) → AreEach runs → IsRun next → 1 ≤ length runs
    → touches (run_at runs (length runs - 1)) next ≡ true → Lengthens runs next.length new result → result ≡ true → AreEach new
lengthened_each runs new next result each is_next some touch to is =
    subst AreEach (sym (to.taken is)) (each_longer runs next each is_next some touch (to.fits is))

pub not_lengthened : (runs new : List Run) (next : Run) (result : Bool) → 1 ≤ length runs → touches (run_at runs (length runs - 1)) next ≡ true
    → Lengthens runs next.length new result → result ≡ false → FitEntry (with_run runs next) → ⊥
not_lengthened runs new next result some touch to isnt fit =
    let last : suc (length runs - 1) ≡ length runs = omega (arith, some) in
    too_long runs (with_run runs next) next (length runs - 1) last (joined_last runs next (length runs - 1) last touch) (to.too_long isnt) fit
