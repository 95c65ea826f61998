-- Rows that runs of zeros do not have, and the runs that they touch.
use Rattle.std.proofs.Common.{◌≡◌, inl, inr, ℕ, ◌+◌, ◌-◌, ◌^◌, ◌<◌, ◌≤◌, List, length, ap, arith}
use Rattle.std.proofs.lemmas.Bool.{cases_eq, cases_lt}
use Rattle.entry_runs.specs.declared.run.Run.{Run}
use Rattle.entry_runs.specs.Runs.{end_of, run_at}
use Rattle.batch.specs.ZeroRows.{AreNew, AreZeroRuns, GoesBetween, IsJoined, JoinsAfter, JoinsBefore}
use Rattle.batch.proofs.ZeroOrder.{apart_all, zero_spread}

-- new rows end by the first row of a run that does not end by their first
pub new_below : (runs : List Run) (first count i : ℕ) → AreZeroRuns runs → AreNew runs first count → 1 ≤ count → i < length runs
    → first < end_of (run_at runs i) → first + count ≤ (run_at runs i).first
new_below runs first count i are new some inside later = elim (cases_lt (run_at runs i).first (first + count)) [
  | inr from ↦ from
  | inl overlaps ↦ elim (cases_lt (run_at runs i).first first) [
    | inl lower ↦ absurd (new first (omega arith) (omega (arith, some)) (record { which = i; within = inside; from = omega (arith, lower); below = later }))
    | inr least ↦ absurd (new (run_at runs i).first least overlaps
        (record { which = i; within = inside; from = omega arith; below = omega (arith, (are.fit.each i inside).long) }))
  ]
]

module _ (runs : List Run) (are : AreZeroRuns runs) (number first : ℕ) (between : GoesBetween runs first number) where
  -- the run before touches the rows
  pub before_touching : 1 ≤ number → end_of (run_at runs (number - 1)) ≡ first → JoinsBefore runs number first (number - 1, (run_at runs (number - 1)).first)
  before_touching some touches =
      let inside : number - 1 < length runs = omega (arith, some, between.within) in
      record {
        most = omega arith;
        least = omega (arith, touches);
        before = λ i less. apart_all runs (zero_spread runs are) i (number - 1) less inside;
        inside = λ i from below. omega (arith, ap (λ (k : ℕ). (run_at runs k).first) (last i from below));
        only = λ row from below. record { which = number - 1; within = inside; from = from; below = omega (arith, touches, below) };
      }
    where
      last : (i : ℕ) → number - 1 ≤ i → i < number → i ≡ number - 1
      last i from below = omega (arith, from, below)

  -- it does not
  pub before_apart : (1 ≤ number → end_of (run_at runs (number - 1)) ≡ first → ⊥) → JoinsBefore runs number first (number, first)
  before_apart apart = record {
    most = omega arith;
    least = omega arith;
    before = λ i less. ends i less;
    inside = λ i from below. absurd (omega (arith, from, below));
    only = λ row from below. absurd (omega (arith, from, below));
  }
    where
      last_ends : 1 ≤ number → end_of (run_at runs (number - 1)) < first
      last_ends some = elim (cases_lt (end_of (run_at runs (number - 1))) first) [
        | inl below ↦ below
        | inr from ↦ absurd (apart some (omega (arith, from, between.before (number - 1) (omega (arith, some)))))
      ]

      ends : (i : ℕ) → i < number → end_of (run_at runs i) < first
      ends i less = elim (cases_eq i (number - 1)) [
        | inl is ↦ omega (arith, ap (λ (k : ℕ). end_of (run_at runs k)) is, last_ends (omega (arith, less)))
        | inr other ↦ omega (
          arith,
          apart_all runs (zero_spread runs are) i (number - 1) (omega (arith, less, other)) (omega (arith, less, between.within)),
          last_ends (omega (arith, less)),
        )
      ]

module _ (runs : List Run) (are : AreZeroRuns runs) (number end : ℕ) where
  -- the run after touches the rows
  pub after_touching : number < length runs → (run_at runs number).first ≡ end → JoinsAfter runs number end (number + 1, end_of (run_at runs number))
  after_touching inside touches = record {
    least = omega arith;
    within = omega (arith, inside);
    most = omega (arith, touches);
    after = λ i from within. apart_all runs (zero_spread runs are) number i (omega (arith, from)) within;
    inside = λ i from below. omega (arith, ap (λ (k : ℕ). end_of (run_at runs k)) (only_one i from below));
    only = λ row from below. record { which = number; within = inside; from = omega (arith, touches, from); below = below };
    below = (are.fit.each number inside).below;
  }
    where
      only_one : (i : ℕ) → number ≤ i → i < number + 1 → i ≡ number
      only_one i from below = omega (arith, from, below)

  -- it does not
  pub after_apart : number ≤ length runs → (number < length runs → end ≤ (run_at runs number).first) → end ≤ 2 ^ 32
      → (number < length runs → (run_at runs number).first ≡ end → ⊥) → JoinsAfter runs number end (number, end)
  after_apart within above high apart = record {
    least = omega arith;
    within = within;
    most = omega arith;
    after = λ i from inside. begins i from inside;
    inside = λ i from below. absurd (omega (arith, from, below));
    only = λ row from below. absurd (omega (arith, from, below));
    below = high;
  }
    where
      first_begins : number < length runs → end < (run_at runs number).first
      first_begins inside = elim (cases_lt end (run_at runs number).first) [
        | inl below ↦ below
        | inr from ↦ absurd (apart inside (omega (arith, from, above inside)))
      ]

      begins : (i : ℕ) → number ≤ i → i < length runs → end < (run_at runs i).first
      begins i from inside = elim (cases_eq number i) [
        | inl is ↦ omega (arith, ap (λ (k : ℕ). (run_at runs k).first) is, first_begins (omega (arith, from, inside)))
        | inr other ↦ omega (
          arith,
          apart_all runs (zero_spread runs are) number i (omega (arith, from, other)) inside,
          first_begins (omega (arith, from, inside)),
        )
      ]

-- so both ends of the joined run are known
pub joined_both : (runs : List Run) (first count number end : ℕ) (before after : ℕ × ℕ) → AreZeroRuns runs → AreNew runs first count → 1 ≤ count
    → end ≡ first + count → GoesBetween runs first number → JoinsBefore runs number first before → JoinsAfter runs number end after
    → IsJoined runs first count (record { from = before.0; to = after.0; first = before.1; end = after.1 })
joined_both runs first count number end before after are new some is between one two = record {
  order = omega (arith, one.most, two.least);
  within = two.within;
  least = one.least;
  most = omega (arith, is, two.most);
  before = one.before;
  after = two.after;
  begins = λ i from below. elim (cases_lt i number) [
    | inl lower ↦ one.inside i from lower
    | inr higher ↦
        let inside : i < length runs = omega (arith, below, two.within) in
        omega (arith, one.least, new_below runs first count i are new some inside (between.others i higher inside))
  ];
  ends = λ i from below. elim (cases_lt i number) [
    | inl lower ↦ omega (arith, between.before i lower, is, two.most)
    | inr higher ↦ two.inside i higher below
  ];
  only = λ row from below. elim (cases_lt row first) [
    | inl lower ↦ inl (one.only row from lower)
    | inr least ↦ elim (cases_lt row (first + count)) [
      | inl within ↦ inr (least, within)
      | inr higher ↦ inl (two.only row (omega (arith, is, higher)) below)
    ]
  ];
  below = two.below;
}

-- a run has a row of those that it overlaps
pub overlapping : (runs : List Run) (first count i : ℕ) → 1 ≤ (run_at runs i).length → 1 ≤ count → i < length runs → (run_at runs i).first < first + count
    → first < end_of (run_at runs i) → AreNew runs first count → ⊥
overlapping runs first count i long some inside begins ends new = elim (cases_lt (run_at runs i).first first) [
  | inl lower ↦ new first (omega arith) (omega (arith, some)) (record { which = i; within = inside; from = omega (arith, lower); below = ends })
  | inr least ↦ new (run_at runs i).first least begins (record { which = i; within = inside; from = omega arith; below = omega (arith, long) })
]
