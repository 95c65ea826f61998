use Rattle.std.proofs.Common.{◌<◌, inl, inr, ℕ, List, length, ap, ◌∙◌, arith, subst, sym}
use Rattle.std.proofs.lemmas.Bool.{cases_eq, false≢true}
use Rattle.entry_runs.specs.declared.run.Run.{Run}
use Rattle.entry_runs.specs.Runs.{end_of, run_at}
use Rattle.stripe_journal.specs.LastSealed.{FitsRun}
use Rattle.stripe_journal.proofs.RunRows.{ends_within}
use Rattle.stripe_journal.proofs.counting.are_runs_of.Goals as goal

pub is_run_of-requires : goal.is_run_of-requires
is_run_of-requires c =
    let items = c.as_slice-run-items.ensures.value in
    let at = c.loop-run.run-index in
    let within : at < length c.args.runs.now.list.items = omega (arith, c.loop-run-test.true, ap length items) in
    omega (
      arith,
      ap (λ (runs : List Run). end_of (run_at runs at)) items,
      ends_within c.args.runs.now.list.items at c.args.runs.now.allowed.fit within,
      c.requires,
    )

pub returns-then-not-is_run_of : goal.returns-then-not-is_run_of
returns-then-not-is_run_of c =
    let items = c.as_slice-run-items.ensures.value in
    let at = c.loop-run.run-index in
    let within : at < length c.args.runs.now.list.items = omega (arith, c.loop-run-test.true, ap length items) in (
      λ is. absurd (false≢true is),
      λ all. absurd (false≢true (sym c.if-not-is_run_of.true
          ∙ c.is_run_of.ensures.1 (subst (λ (runs : List Run). FitsRun c.args.geometry.now (run_at runs at)) (sym items) (all at within)))),
    )

pub loop-run-preserved : goal.loop-run-preserved
loop-run-preserved c = λ k within. elim (cases_eq k c.loop-run.run-index) [
  | inl same ↦ subst (λ (i : ℕ). FitsRun c.args.geometry.now (run_at c.args.runs.now.list.items i)) (sym same)
      (subst (λ (runs : List Run). FitsRun c.args.geometry.now (run_at runs c.loop-run.run-index)) c.as_slice-run-items.ensures.value
      (c.is_run_of.ensures.0 c.if-not-is_run_of.false))
  | inr other ↦ c.loop-run.invariant k (omega (arith, within, other))
]
