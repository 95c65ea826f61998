-- What can be decided of bytes, rows, masks and runs.
use Rattle.std.proofs.Common.{◌≡◌, ◌≢◌, ◌⊎◌, ◌↔◌, inl, inr, ℕ, zero, suc, ◌+◌, ◌-◌, ◌^◌, ◌<◌, ◌≤◌, List, [], ◌∷◌, length, drop, get_or, refl, sym, ap, ◌∙◌}
use Rattle.std.proofs.Common.{subst, arith}
use Rattle.std.specs.Prelude.{count_ones}
use Rattle.std.proofs.lemmas.List.{get_or_past}
use Rattle.std.proofs.lemmas.Bool.{cases_eq, cases_lt}
use Rattle.entry_runs.specs.declared.run.Run.{Run}
use Rattle.entry_runs.specs.declared.sizes.TheConstants.{MOST_HELD, MOST_ROWS, MOST_RUNS}
use Rattle.entry_runs.specs.Runs.{AreRuns, Follows, IsRun, end_of, held_in, masked_in, run_at}
use Rattle.layout_map.specs.declared.format.Format.{Format}
use Rattle.layout_map.specs.declared.format.Format.TheVariants.{One, Two}
use Rattle.layout_map.specs.declared.sizes.TheConstants.{ENTRY_ROWS}
use Rattle.sector_model.specs.History.{Bytes}
use Rattle.stripe_journal.specs.Forms.{AreMasks, mask_at}
use Rattle.stripe_journal.specs.Seals.{AreRows}

-- two lists of bytes are equal, or they differ
pub same_bytes : (xs ys : Bytes) → (xs ≡ ys) ⊎ (xs ≢ ys)
same_bytes [] [] = inl refl
same_bytes [] (y ∷ ys) = inr (λ is. let no : 0 ≡ suc (length ys) = ap length is in omega (arith, no))
same_bytes (x ∷ xs) [] = inr (λ is. let no : suc (length xs) ≡ 0 = ap length is in omega (arith, no))
same_bytes (x ∷ xs) (y ∷ ys) = elim (cases_eq x y) [
  | inr apart ↦ inr (λ is. apart (ap (λ (l : Bytes). get_or l 0 0) is))
  | inl same ↦ elim (same_bytes xs ys) [
    | inr apart ↦ inr (λ is. apart (ap (λ (l : Bytes). drop 1 l) is))
    | inl rest ↦ inl (ap (λ (z : ℕ). z ∷ xs) same ∙ ap (λ (l : Bytes). y ∷ l) rest)
  ]
]

-- each number below n has a property that can be decided, or not each has

pub each_or_not : (P : ℕ → Type 0) → ((k : ℕ) → P k ⊎ ¬ P k) → (n : ℕ) → ((k : ℕ) → k < n → P k) ⊎ ¬ ((k : ℕ) → k < n → P k)
each_or_not P decide zero = inl (λ k within. absurd (omega (arith, within)))
each_or_not P decide (suc n) = elim (each_or_not P decide n) [
  | inr not_all ↦ inr (λ all. not_all (λ k within. all k (omega (arith, within))))
  | inl before ↦ elim (decide n) [
    | inr last ↦ inr (λ all. last (all n (omega arith)))
    | inl last ↦ inl (λ k within. elim (cases_eq k n) [
      | inl same ↦ subst P (sym same) last
      | inr apart ↦ before k (omega (arith, within, apart))
    ])
  ]
]

pub below_or_not : (m n : ℕ) → (m < n) ⊎ ¬ (m < n)
below_or_not m n = elim (cases_lt m n) [
  | inl below ↦ inl below
  | inr above ↦ inr (λ below. omega (arith, above, below))
]

-- the first n numbers of a list are below this, or not all are
pub all_below : (rows : List ℕ) (bound n : ℕ) → ((i : ℕ) → i < n → get_or rows i 0 < bound) ⊎ ¬ ((i : ℕ) → i < n → get_or rows i 0 < bound)
all_below rows bound n = each_or_not (λ i. get_or rows i 0 < bound) (λ i. below_or_not (get_or rows i 0) bound) n

-- each of the first n numbers is below the next, or not each is
pub all_rise : (rows : List ℕ) (n : ℕ) → ((k : ℕ) → k < n → get_or rows k 0 < get_or rows (k + 1) 0) ⊎ ¬ ((k : ℕ) → k < n
    → get_or rows k 0 < get_or rows (k + 1) 0)
all_rise rows n = each_or_not (λ k. get_or rows k 0 < get_or rows (k + 1) 0) (λ k. below_or_not (get_or rows k 0) (get_or rows (k + 1) 0)) n

-- what follows from facts that can be decided can be decided

pub as_decided : (P Q : Type 0) → P ↔ Q → P ⊎ ¬ P → Q ⊎ ¬ Q
as_decided P Q same (inl is) = inl (same.0 is)
as_decided P Q same (inr isnt) = inr (λ is. isnt (same.1 is))

pub both_or_not : (P Q : Type 0) → P ⊎ ¬ P → Q ⊎ ¬ Q → (P × Q) ⊎ ¬ (P × Q)
both_or_not P Q (inr isnt) other = inr (λ both. isnt both.0)
both_or_not P Q (inl is) (inr isnt) = inr (λ both. isnt both.1)
both_or_not P Q (inl is) (inl other) = inl (is, other)

pub implied_or_not : (P Q : Type 0) → P ⊎ ¬ P → Q ⊎ ¬ Q → (P → Q) ⊎ ¬ (P → Q)
implied_or_not P Q (inr isnt) other = inl (λ is. absurd (isnt is))
implied_or_not P Q (inl is) (inr isnt) = inr (λ all. isnt (all is))
implied_or_not P Q (inl is) (inl other) = inl (λ _. other)

pub most_or_not : (m n : ℕ) → (m ≤ n) ⊎ ¬ (m ≤ n)
most_or_not m n = as_decided (m < suc n) (m ≤ n) ((λ below. omega (arith, below)), (λ most. omega (arith, most))) (below_or_not m (suc n))

other_or_not : (m n : ℕ) → (m ≢ n) ⊎ ¬ (m ≢ n)
other_or_not m n = elim (cases_eq m n) [
  | inl same ↦ inr (λ other. other same)
  | inr other ↦ inl other
]

pub format_or_not : (one other : Format) → (one ≡ other) ⊎ ¬ (one ≡ other)
format_or_not One One = inl refl
format_or_not Two Two = inl refl
format_or_not One Two = inr (λ is. absurd (cc))
format_or_not Two One = inr (λ is. absurd (cc))

-- the rows of an entry
pub are_rows_or_not : (rows : List ℕ) → AreRows rows ⊎ ¬ AreRows rows
are_rows_or_not rows = elim (cases_lt 0 (length rows)) [
  | inr none ↦ inr (λ are. omega (arith, none, are.least))
  | inl some ↦ elim (all_below rows (2 ^ 32) (length rows)) [
    | inr not_all ↦ inr (λ are. not_all are.each)
    | inl below ↦ elim (all_rise rows (length rows - 1)) [
      | inr not_all ↦ inr (λ are. not_all (λ k within. are.rising k (omega (arith, within))))
      | inl rise ↦ inl (record { least = some; each = below; rising = λ k within. rise k (omega (arith, within)) })
    ]
  ]
]

-- the masks of so many rows

pub masks_or_not : (masks : List ℕ) (count : ℕ) → AreMasks masks count ⊎ ¬ AreMasks masks count
masks_or_not masks count = elim (cases_eq (length masks) ENTRY_ROWS) [
  | inr other ↦ inr (λ is. other is.long)
  | inl long ↦ elim (all_below masks 256 ENTRY_ROWS) [
    | inr not_all ↦ inr (λ is. not_all (λ i within. is.bytes i))
    | inl bytes ↦ elim (each_or_not (λ i. 1 < count_ones (mask_at masks i)) (λ i. below_or_not 1 (count_ones (mask_at masks i))) count) [
      | inr not_all ↦ inr (λ is. not_all (λ i within. omega (arith, is.two_bits i within)))
      | inl two ↦ elim (each_or_not (λ i. count ≤ i → mask_at masks i ≡ 0) (λ i. rest_or_not i) ENTRY_ROWS) [
        | inr not_all ↦ inr (λ is. not_all (λ i within. is.rest i))
        | inl rest ↦ inl (record {
          long = long;
          bytes = λ i. elim (cases_lt i ENTRY_ROWS) [
            | inl within ↦ bytes i within
            | inr past ↦ omega (arith, none_past i (omega (arith, long, past)))
          ];
          two_bits = λ i within. omega (arith, two i within);
          rest = λ i beyond. elim (cases_lt i ENTRY_ROWS) [
            | inl within ↦ rest i within beyond
            | inr past ↦ none_past i (omega (arith, long, past))
          ];
        })
      ]
    ]
  ]
]
  where
    none_past : (i : ℕ) → length masks ≤ i → mask_at masks i ≡ 0
    none_past i past = get_or_past masks i 0 past

    rest_or_not : (i : ℕ) → (count ≤ i → mask_at masks i ≡ 0) ⊎ ¬ (count ≤ i → mask_at masks i ≡ 0)
    rest_or_not i = elim (cases_lt i count) [
      | inl below ↦ inl (λ beyond. absurd (omega (arith, below, beyond)))
      | inr beyond ↦ elim (cases_eq (mask_at masks i) 0) [
        | inl none ↦ inl (λ _. none)
        | inr some ↦ inr (λ all. some (all beyond))
      ]
    ]

-- runs

is_run_or_not : (run : Run) → IsRun run ⊎ ¬ IsRun run
is_run_or_not run = as_decided _ (IsRun run) (
  (λ all. record { long = all.0; length_most = all.1.0; mask_most = all.1.1.0; masked = all.1.1.1.0; below = all.1.1.1.1 }),
  (λ is. (is.long, (is.length_most, (is.mask_most, (is.masked, is.below))))),
)
    (both_or_not _ _ (most_or_not 1 run.length)
    (both_or_not _ _ (below_or_not run.length (2 ^ 16))
    (both_or_not _ _ (below_or_not run.mask (2 ^ 8))
    (both_or_not _ _ (implied_or_not _ _ (other_or_not run.mask 0) (most_or_not 2 (count_ones run.mask)))
    (most_or_not (end_of run) (2 ^ 32))))))

follows_or_not : (run next : Run) → Follows run next ⊎ ¬ Follows run next
follows_or_not run next = as_decided _ (Follows run next)
    ((λ all. record { above = all.0; differs = all.1 }), (λ is. (is.above, is.differs)))
    (both_or_not _ _ (most_or_not (end_of run) next.first)
    (implied_or_not _ _ (cases_eq (end_of run) next.first) (other_or_not run.mask next.mask)))

pub are_runs_or_not : (runs : List Run) → AreRuns runs ⊎ ¬ AreRuns runs
are_runs_or_not runs = as_decided _ (AreRuns runs) (
  (λ all. record {
    some = all.0;
    fit = record {
      few = all.1.0;
      each = all.1.1.0;
      follow = λ i within. all.1.1.1.0 i (omega (arith, within));
      rows_most = all.1.1.1.1.0;
      held_most = all.1.1.1.1.1;
    };
  }),
  (λ are. (are.some, (are.fit.few, (are.fit.each, ((λ i within. are.fit.follow i (omega (arith, within))), (are.fit.rows_most, are.fit.held_most)))))),
)
    (both_or_not _ _ (most_or_not 1 (length runs))
    (both_or_not _ _ (most_or_not (length runs) MOST_RUNS)
    (both_or_not _ _ (each_or_not (λ i. IsRun (run_at runs i)) (λ i. is_run_or_not (run_at runs i)) (length runs))
    (both_or_not _ _ (each_or_not (λ i. Follows (run_at runs i) (run_at runs (suc i))) (λ i. follows_or_not (run_at runs i) (run_at runs (suc i)))
    (length runs - 1))
    (both_or_not _ _ (most_or_not (masked_in runs) MOST_ROWS) (most_or_not (held_in runs) MOST_HELD))))))
