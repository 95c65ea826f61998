-- Runs of zeros rise, and none touches the next.
use Rattle.std.proofs.Common.{◌≡◌, inl, inr, ℕ, zero, suc, ◌<◌, ◌≤◌, List, length, ◌∙◌, sym, ap, arith}
use Rattle.std.proofs.lemmas.Bool.{cases_eq, cases_lt}
use Rattle.entry_runs.specs.declared.run.Run.{Run}
use Rattle.entry_runs.specs.Runs.{end_of, run_at}
use Rattle.entry_runs.proofs.Lookups.{Rise}
use Rattle.batch.specs.ZeroRows.{AreZeroRuns}

-- runs of zeros that rise and none of which touches the next, also those that are too many or too long for an entry
pub record AreSpread (runs : List Run) : Type 0 where
  pub long : (i : ℕ) → i < length runs → 1 ≤ (run_at runs i).length
  pub zeros : (i : ℕ) → i < length runs → (run_at runs i).mask ≡ 0
  pub apart : (i : ℕ) → suc i < length runs → end_of (run_at runs i) < (run_at runs (suc i)).first

pub zero_spread : (runs : List Run) → AreZeroRuns runs → AreSpread runs
zero_spread runs are = record {
  long = λ i inside. (are.fit.each i inside).long;
  zeros = are.zeros;
  apart = λ i inside.
      let follows = are.fit.follow i inside in
      elim (cases_lt (end_of (run_at runs i)) (run_at runs (suc i)).first) [
        | inl below ↦ below
        | inr from ↦ absurd (follows.differs (omega (arith, from, follows.above)) (are.zeros i (omega (arith, inside)) ∙ sym (are.zeros (suc i) inside)))
      ];
}

pub spread_rise : (runs : List Run) → AreSpread runs → Rise runs
spread_rise runs are = record {
  long = are.long;
  follow = λ i inside. record {
    above = omega (arith, are.apart i inside);
    differs = λ touch same. omega (arith, are.apart i inside, touch);
  };
}

-- a run ends before each after it
pub apart_all : (runs : List Run) → AreSpread runs → (i j : ℕ) → i < j → j < length runs → end_of (run_at runs i) < (run_at runs j).first
apart_all runs are i zero less inside = absurd (omega (arith, less))
apart_all runs are i (suc j) less inside = elim (cases_eq i j) [
  | inl same ↦ omega (arith, ap (λ (k : ℕ). end_of (run_at runs k)) same, are.apart j inside)
  | inr other ↦ omega (arith, apart_all runs are i j (omega (arith, less, other)) (omega (arith, inside)), are.apart j inside)
]

module _ (runs : List Run) (are : AreZeroRuns runs) where
  -- those before one that ends by a row end by it too
  pub ends_too : (row middle i : ℕ) → middle < length runs → end_of (run_at runs middle) ≤ row → i ≤ middle → end_of (run_at runs i) ≤ row
  ends_too row middle i within ends least = elim (cases_eq i middle) [
    | inl is ↦ omega (arith, ap (λ (k : ℕ). end_of (run_at runs k)) is, ends)
    | inr other ↦ omega (arith, apart_all runs (zero_spread runs are) i middle (omega (arith, least, other)) within, ends)
  ]

  -- those after one that doesn't do not
  pub ends_later : (row middle i : ℕ) → row < end_of (run_at runs middle) → middle ≤ i → i < length runs → row < end_of (run_at runs i)
  ends_later row middle i later least within = elim (cases_eq middle i) [
    | inl is ↦ omega (arith, ap (λ (k : ℕ). end_of (run_at runs k)) is, later)
    | inr other ↦ omega (arith, apart_all runs (zero_spread runs are) middle i (omega (arith, least, other)) within, later)
  ]
