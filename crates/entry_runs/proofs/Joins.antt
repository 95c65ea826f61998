-- Runs with the rows of one more after them.
use Rattle.std.proofs.Common.{◌≡◌, inl, inr, ℕ, zero, suc, ◌+◌, ◌^◌, ◌<◌, ◌≤◌, ◌==◌, Bool, true, false, cond, List, [], ◌∷◌, ◌++◌, length, take, replicate}
use Rattle.std.proofs.Common.{refl, sym, subst, ap, ◌∙◌}
use Rattle.std.proofs.Common.{append_assoc, length-append, arith}
use Rattle.std.specs.List.{range_with_len}
use Rattle.std.proofs.Math.Seq.{get_or-append_seam}
use Rattle.std.proofs.lemmas.Bool.{and_from, and_parts, cases_Bool, eq-eqb, eqb-true, false≢true}
use Rattle.std.proofs.lemmas.List.{append-nil, length-take-le}
use Rattle.entry_runs.specs.declared.run.Run.{Run}
use Rattle.entry_runs.specs.declared.sizes.TheConstants.{MOST_RUNS}
use Rattle.entry_runs.specs.Joined.{longer, touches, with_run}
use Rattle.entry_runs.specs.Runs.{FitEntry, Follows, end_of, end_of_runs, run_at}
use Rattle.entry_runs.specs.WrittenOut.{masks_of_runs, rows_of_runs}
use Rattle.entry_runs.proofs.Lookups.{Rise, fit_rise, rise_rest}
use Rattle.entry_runs.proofs.Rows.{one_list}

-- the rows end where those of the last run do
pub end_at : (runs : List Run) (i : ℕ) → suc i ≡ length runs → end_of_runs runs ≡ end_of (run_at runs i)
end_at [] i last = absurd (omega (arith, last))
end_at (run ∷ []) zero last = refl
end_at (run ∷ []) (suc i) last = absurd (omega (arith, last))
end_at (run ∷ next ∷ runs) zero last = absurd (omega (arith, last))
end_at (run ∷ next ∷ runs) (suc i) last = end_at (next ∷ runs) i (omega (arith, last))

-- what touches two runs
pub touching : (run next : Run) → touches run next ≡ true → (end_of run ≡ next.first) × (run.mask ≡ next.mask)
touching run next is =
    let parts = and_parts (end_of run == next.first) (run.mask == next.mask) is in
    (eqb-true (end_of run) next.first parts.0, eqb-true run.mask next.mask parts.1)

-- a run is joined to the last one where it touches that, else it stands after it

pub one_touching : (run next : Run) → touches run next ≡ true → with_run (run ∷ []) next ≡ longer run next.length ∷ []
one_touching run next is = ap (λ (b : Bool). cond b (longer run next.length ∷ []) (run ∷ next ∷ [])) is

pub one_apart : (run next : Run) → touches run next ≡ false → with_run (run ∷ []) next ≡ run ∷ next ∷ []
one_apart run next isnt = ap (λ (b : Bool). cond b (longer run next.length ∷ []) (run ∷ next ∷ [])) isnt

pub joined_last : (runs : List Run) (next : Run) (i : ℕ) → suc i ≡ length runs → touches (run_at runs i) next ≡ true
    → with_run runs next ≡ take i runs ++ longer (run_at runs i) next.length ∷ []
joined_last [] next i last is = absurd (omega (arith, last))
joined_last (run ∷ []) next zero last is = one_touching run next is
joined_last (run ∷ []) next (suc i) last is = absurd (omega (arith, last))
joined_last (run ∷ after ∷ runs) next zero last is = absurd (omega (arith, last))
joined_last (run ∷ after ∷ runs) next (suc i) last is = ap (λ (rest : List Run). run ∷ rest) (joined_last (after ∷ runs) next i (omega (arith, last)) is)

pub put_last : (runs : List Run) (next : Run) (i : ℕ) → suc i ≡ length runs → touches (run_at runs i) next ≡ false
    → with_run runs next ≡ runs ++ next ∷ []
put_last [] next i last isnt = absurd (omega (arith, last))
put_last (run ∷ []) next zero last isnt = one_apart run next isnt
put_last (run ∷ []) next (suc i) last isnt = absurd (omega (arith, last))
put_last (run ∷ after ∷ runs) next zero last isnt = absurd (omega (arith, last))
put_last (run ∷ after ∷ runs) next (suc i) last isnt =
    ap (λ (rest : List Run). run ∷ rest) (put_last (after ∷ runs) next i (omega (arith, last)) isnt)

-- one more than 58 runs do not fit, nor a run of 65,536 rows

pub too_many : (runs all : List Run) (next : Run) → length runs ≡ MOST_RUNS → all ≡ runs ++ next ∷ [] → FitEntry all → ⊥
too_many runs all next full is fit = omega (arith, ap length is, length-append runs (next ∷ []), full, fit.few)

pub too_long : (runs all : List Run) (next : Run) (i : ℕ) → suc i ≡ length runs → all ≡ take i runs ++ longer (run_at runs i) next.length ∷ []
    → 2 ^ 16 ≤ (run_at runs i).length + next.length → FitEntry all → ⊥
too_long runs all next i last is long fit =
    let front = take i runs in
    let one = longer (run_at runs i) next.length in
    let front_long : length front ≡ i = length-take-le i runs (omega (arith, last)) in
    let within : i < length all = omega (arith, ap length is, length-append front (one ∷ []), front_long) in
    let at : run_at all i ≡ one = ap (λ (xs : List Run). run_at xs i) is ∙ ap (λ (k : ℕ). run_at (front ++ one ∷ []) k) (sym front_long)
    ∙ get_or-append_seam front one [] (record { first = 0; length = 0; mask = 0 }) in
    omega (arith, (fit.each i within).length_most, ap (λ (r : Run). r.length) at, long)

-- the rows of both are written out

range_both : (a m n : ℕ) → range_with_len a (m + n) ≡ range_with_len a m ++ range_with_len (a + m) n
range_both a zero n = ap (range_with_len a) (omega arith) ∙ ap (λ (b : ℕ). range_with_len b n) (omega arith)
range_both a (suc m) n =
    ap (range_with_len a) (suc_first m n)
    ∙ ap (λ (rest : List ℕ). a ∷ rest) (range_both (a + 1) m n ∙ ap (λ (b : ℕ). range_with_len (a + 1) m ++ range_with_len b n) (omega arith))
  where
    suc_first : (m n : ℕ) → suc m + n ≡ suc (m + n)
    suc_first m n = omega arith

same_both : (m n mask : ℕ) → replicate (m + n) mask ≡ replicate m mask ++ replicate n mask
same_both zero n mask = ap (λ (k : ℕ). replicate k mask) (omega arith)
same_both (suc m) n mask = ap (λ (k : ℕ). replicate k mask) (suc_first m n) ∙ ap (λ (rest : List ℕ). mask ∷ rest) (same_both m n mask)
  where
    suc_first : (m n : ℕ) → suc m + n ≡ suc (m + n)
    suc_first m n = omega arith

pub rows_with : (runs : List Run) (next : Run) → rows_of_runs (with_run runs next) ≡ rows_of_runs runs ++ range_with_len next.first next.length
rows_with [] next = append-nil (range_with_len next.first next.length)
rows_with (run ∷ []) next = elim (cases_Bool (touches run next)) [
  | inl is ↦
      let both = touching run next is in
      ap rows_of_runs (one_touching run next is)
      ∙ append-nil (range_with_len run.first (run.length + next.length))
      ∙ range_both run.first run.length next.length
      ∙ ap (λ (b : ℕ). range_with_len run.first run.length ++ range_with_len b next.length) both.0
      ∙ ap (λ (xs : List ℕ). xs ++ range_with_len next.first next.length) (sym (append-nil (range_with_len run.first run.length)))
  | inr isnt ↦ ap rows_of_runs (one_apart run next isnt) ∙ simp (append-nil {A = ℕ})
]
rows_with (run ∷ after ∷ runs) next =
    ap (λ (xs : List ℕ). range_with_len run.first run.length ++ xs) (rows_with (after ∷ runs) next)
    ∙ sym (append_assoc (range_with_len run.first run.length) (rows_of_runs (after ∷ runs)) (range_with_len next.first next.length))

pub masks_with : (runs : List Run) (next : Run) → masks_of_runs (with_run runs next) ≡ masks_of_runs runs ++ replicate next.length next.mask
masks_with [] next = append-nil (replicate next.length next.mask)
masks_with (run ∷ []) next = elim (cases_Bool (touches run next)) [
  | inl is ↦
      let both = touching run next is in
      ap masks_of_runs (one_touching run next is)
      ∙ append-nil (replicate (run.length + next.length) run.mask)
      ∙ same_both run.length next.length run.mask
      ∙ ap (λ (b : ℕ). replicate run.length run.mask ++ replicate next.length b) both.1
      ∙ ap (λ (xs : List ℕ). xs ++ replicate next.length next.mask) (sym (append-nil (replicate run.length run.mask)))
  | inr isnt ↦ ap masks_of_runs (one_apart run next isnt) ∙ simp (append-nil {A = ℕ})
]
masks_with (run ∷ after ∷ runs) next =
    ap (λ (xs : List ℕ). replicate run.length run.mask ++ xs) (masks_with (after ∷ runs) next)
    ∙ sym (append_assoc (replicate run.length run.mask) (masks_of_runs (after ∷ runs)) (replicate next.length next.mask))

-- what the first run with those after it comes to: it keeps its first row and its mask
record Headed (run : Run) (all : List Run) : Type 0 where
  head : Run
  tail : List Run
  is : all ≡ head ∷ tail
  first : head.first ≡ run.first
  mask : head.mask ≡ run.mask

headed : (run : Run) (runs : List Run) (next : Run) → Headed run (with_run (run ∷ runs) next)
headed run [] next = elim (cases_Bool (touches run next)) [
  | inl is ↦ record { head = longer run next.length; tail = []; is = one_touching run next is; first = refl; mask = refl }
  | inr isnt ↦ record { head = run; tail = next ∷ []; is = one_apart run next isnt; first = refl; mask = refl }
]
headed run (after ∷ runs) next = record { head = run; tail = with_run (after ∷ runs) next; is = refl; first = refl; mask = refl }

-- they end where its rows do
pub end_with : (runs : List Run) (next : Run) → end_of_runs (with_run runs next) ≡ end_of next
end_with [] next = refl
end_with (run ∷ []) next = elim (cases_Bool (touches run next)) [
  | inl is ↦ ap end_of_runs (one_touching run next is) ∙ omega (arith, (touching run next is).0)
  | inr isnt ↦ ap end_of_runs (one_apart run next isnt)
]
end_with (run ∷ after ∷ runs) next =
    let headed_rest = headed after runs next in
    ap (λ (rest : List Run). end_of_runs (run ∷ rest)) headed_rest.is ∙ ap end_of_runs (sym headed_rest.is) ∙ end_with (after ∷ runs) next

-- runs rise, one after another

rise_one : (run : Run) → 1 ≤ run.length → Rise (run ∷ [])
rise_one run some = record {
  long = λ i within. subst (λ (k : ℕ). 1 ≤ (run_at (run ∷ []) k).length) (first_of i within) some;
  follow = λ i within. absurd (omega (arith, within));
}
  where
    first_of : (i : ℕ) → i < 1 → zero ≡ i
    first_of i within = omega arith

rise_more : (run next : Run) (runs : List Run) → 1 ≤ run.length → Follows run next → Rise (next ∷ runs) → Rise (run ∷ next ∷ runs)
rise_more run next runs some follows rise = record { long = long_at; follow = follow_at }
  where
    long_at : (i : ℕ) → i < length (run ∷ next ∷ runs) → 1 ≤ (run_at (run ∷ next ∷ runs) i).length
    long_at zero within = some
    long_at (suc i) within = rise.long i (omega (arith, within))

    follow_at : (i : ℕ) → suc i < length (run ∷ next ∷ runs) → Follows (run_at (run ∷ next ∷ runs) i) (run_at (run ∷ next ∷ runs) (suc i))
    follow_at zero within = follows
    follow_at (suc i) within = rise.follow i (omega (arith, within))

follows_apart : (run next : Run) → end_of run ≤ next.first → touches run next ≡ false → Follows run next
follows_apart run next above isnt = record {
  above = above;
  differs = λ end mask. false≢true (sym isnt ∙ and_from (end_of run == next.first) (run.mask == next.mask) (eq-eqb (end_of run) next.first end)
      (eq-eqb run.mask next.mask mask));
}

follows_head : (run after head : Run) → head.first ≡ after.first → head.mask ≡ after.mask → Follows run after → Follows run head
follows_head run after head first mask follows = record {
  above = omega (arith, follows.above, first);
  differs = λ end same. follows.differs (end ∙ first) (same ∙ mask);
}

pub rise_with : (runs : List Run) (next : Run) → Rise runs → end_of_runs runs ≤ next.first → 1 ≤ next.length → Rise (with_run runs next)
rise_with [] next rise above some = rise_one next some
rise_with (run ∷ []) next rise above some = elim (cases_Bool (touches run next)) [
  | inl is ↦ subst Rise (sym (one_touching run next is)) (rise_one (longer run next.length) (omega (arith, some)))
  | inr isnt ↦ subst Rise (sym (one_apart run next isnt))
      (rise_more run next [] (rise.long 0 (omega arith)) (follows_apart run next above isnt) (rise_one next some))
]
rise_with (run ∷ after ∷ runs) next rise above some =
    let rest = rise_with (after ∷ runs) next (rise_rest run (after ∷ runs) rise) above some in
    let to = headed after runs next in
    subst (λ (all : List Run). Rise (run ∷ all)) (sym to.is)
    (rise_more run to.head to.tail (rise.long 0 (omega arith)) (follows_head run after to.head to.first to.mask (rise.follow 0 (omega arith)))
    (subst Rise to.is rest))

-- runs of an entry with these rows and masks are no others
pub only_with : (runs : List Run) (next : Run) (other : List Run) → FitEntry runs → end_of_runs runs ≤ next.first → 1 ≤ next.length
    → rows_of_runs other ≡ rows_of_runs runs ++ range_with_len next.first next.length
    → masks_of_runs other ≡ masks_of_runs runs ++ replicate next.length next.mask → FitEntry other → FitEntry (with_run runs next)
only_with runs next other fit above some rows masks other_fits =
    subst FitEntry
    (one_list other (with_run runs next) (fit_rise other other_fits) (rise_with runs next (fit_rise runs fit) above some) (rows ∙ sym (rows_with runs next))
    (masks ∙ sym (masks_with runs next)))
    other_fits

-- the first run of all stands alone
pub put_first : (runs : List Run) (next : Run) → length runs ≡ 0 → with_run runs next ≡ runs ++ next ∷ []
put_first [] next none = refl
put_first (run ∷ runs) next none = absurd (omega (arith, none))
