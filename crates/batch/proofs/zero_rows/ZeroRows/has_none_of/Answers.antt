use Rattle.std.proofs.Common.{List, ◌<◌, length, ap, arith}
use Rattle.std.proofs.lemmas.Bool.{false≢true}
use Rattle.entry_runs.specs.declared.run.Run.{Run}
use Rattle.entry_runs.specs.Runs.{end_of, run_at}
use Rattle.batch.proofs.ZeroJoins.{overlapping}
use Rattle.batch.proofs.zero_rows.ZeroRows.has_none_of.Goals as goal

pub returns-then-from-end-2 : goal.returns-then-from-end-2
returns-then-from-end-2 c =
    let rows = c.args.self.now in
    let runs = rows.list.items in
    let i = c.loop-run.run-index in
    let same = c.as_slice-run-items.ensures.value in
    let inside : i < length runs = omega (arith, c.loop-run-test.true, ap length same) in (
      λ is. absurd (false≢true is),
      λ new. absurd (overlapping runs c.args.first c.args.count i (rows.zero.fit.each i inside).long c.requires inside
          (omega (arith, c.if-from-end.true, c.from-in-loop-run.ensures, c.from.ensures, c.from-2.ensures, ap (λ (xs : List Run). (run_at xs i).first) same))
          (omega (arith, c.if-from-end-2.true, c.end.ensures, c.from-then-from-end.ensures, ap (λ (xs : List Run). end_of (run_at xs i)) same)) new),
    )
