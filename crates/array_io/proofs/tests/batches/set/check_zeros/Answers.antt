use Rattle.std.proofs.Common.{rules, arith, ◌≡◌, ◌<◌, ◌+◌, inl, inr, ℕ, length, sym, ◌∙◌, subst, slice_index_or}
use Rattle.std.proofs.lemmas.Bool.{cases_eq}
use Rattle.layout_map.specs.Placement.{rows_of}
use Rattle.entry_runs.specs.Built.{runs_in}
use Rattle.entry_runs.specs.WrittenOut.{masks_of_runs, rows_of_runs}
use Rattle.array_io.proofs.tests.batches.set.check_zeros.Goals as goal

-- what holds below one more
below_one_more : (P : ℕ → Type 0) (n : ℕ) → ((k : ℕ) → k < n → P k) → P n → (k : ℕ) → k < n + 1 → P k
below_one_more P n below here k within = elim (cases_eq k n) [
  | inl same ↦ subst P (sym same) here
  | inr apart ↦ below k (omega (arith, within, apart))
]

pub loop-i-preserved : goal.loop-i-preserved
loop-i-preserved g c =
    let zero : c.listed-row.result.mask ≡ 0 = search rules in
    let within : c.from.result < c.rows.result = search rules in
    record {
      zeros = below_one_more (λ (k : ℕ). slice_index_or (masks_of_runs (runs_in c.args.rows.now)) k 0 ≡ 0) c.loop-i.i c.loop-i.invariant.zeros
          (sym c.listed-row.ensures.mask ∙ zero);
      of_set = below_one_more (λ (k : ℕ). slice_index_or (rows_of_runs (runs_in c.args.rows.now)) k 0
          < rows_of c.args.table.now.geometry.chunk c.args.table.now.geometry.stripes) c.loop-i.i c.loop-i.invariant.of_set
          (omega (arith, within, c.from.ensures, c.rows.ensures, c.listed-row.ensures.row));
    }

pub returns : goal.returns
returns g c = record {
  of_format = search rules;
  some = search rules;
  zeros = λ i below. c.loop-i.invariant.zeros i (omega (arith, below, c.loop-i-test.false, c.count-i-end.ensures));
  of_set = λ i below. c.loop-i.invariant.of_set i (omega (arith, below, c.loop-i-test.false, c.count-i-end.ensures));
}
