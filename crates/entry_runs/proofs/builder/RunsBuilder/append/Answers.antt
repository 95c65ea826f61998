use Rattle.std.proofs.Common.{◌≡◌, ℕ, List, ap, sym, subst, ◌∙◌, ◌≤◌, ◌+◌, length, arith}
use Rattle.std.proofs.lemmas.Bool.{false≢true}
use Rattle.entry_runs.specs.declared.run.Run.{Run}
use Rattle.entry_runs.specs.declared.sizes.TheConstants.{MOST_RUNS}
use Rattle.entry_runs.specs.Joined.{with_run}
use Rattle.entry_runs.specs.Runs.{AreEach, FitEntry, held_in, held_of, masked_in, masked_of}
use Rattle.entry_runs.proofs.Builds.{fit_with, held_with, masked_with, too_high, too_many_held, too_many_rows}
use Rattle.entry_runs.proofs.builder.RunsBuilder.append.Goals.{then-rows-gt-MOST_ROWS-via-then-rows-gt-MOST_ROWS}
use Rattle.entry_runs.proofs.builder.RunsBuilder.append.Goals.{then-rows-gt-MOST_ROWS-via-else-rows-gt-MOST_ROWS+then-held-gt-MOST_HELD}
use Rattle.entry_runs.proofs.builder.RunsBuilder.append.Goals.{then-rows-gt-MOST_ROWS-via-else-rows-gt-MOST_ROWS+else-held-gt-MOST_HELD+then-end}
use Rattle.entry_runs.proofs.builder.RunsBuilder.append.Goals as goal

pub returns-then-rows-gt-MOST_ROWS-clause-fits : goal.returns-then-rows-gt-MOST_ROWS-clause-fits
returns-then-rows-gt-MOST_ROWS-clause-fits c = (
  λ is. absurd (false≢true is),
  λ fit.
      let builder = c.args.self.now in
      let runs = builder.list.items in
      let next = c.args.next in
      absurd (elim c.then-rows-gt-MOST_ROWS.branch [
        | then-rows-gt-MOST_ROWS-via-then-rows-gt-MOST_ROWS w ↦
            too_many_rows runs next (omega (arith, builder.rows_are, c.masked.ensures.rows, w.if-rows-gt-MOST_ROWS.true)) fit
        | then-rows-gt-MOST_ROWS-via-else-rows-gt-MOST_ROWS+then-held-gt-MOST_HELD w ↦
            too_many_held runs next (omega (arith, builder.held_is, c.held.ensures.sectors, w.if-held-gt-MOST_HELD.true)) fit
        | then-rows-gt-MOST_ROWS-via-else-rows-gt-MOST_ROWS+else-held-gt-MOST_HELD+then-end w ↦
            too_high runs next (omega (arith, w.end.ensures, w.if-end.true)) fit
      ]),
)

pub invariant_of-self-2 : goal.invariant_of-self-2
invariant_of-self-2 c =
    let builder = c.args.self.now in
    let runs = builder.list.items in
    let next = c.args.next in
    let taken = c.add_run.ensures.taken c.if-not-add_run.false in
    let few : length (with_run runs next) ≤ MOST_RUNS = subst (λ (all : List Run). length all ≤ MOST_RUNS) taken c.add_run.ensures.few in
    let fits = fit_with runs next builder.fit c.requires.after c.requires.some
    (omega (arith, builder.rows_are, c.masked.ensures.rows, c.if-rows-gt-MOST_ROWS.false))
    (omega (arith, builder.held_is, c.held.ensures.sectors, c.if-held-gt-MOST_HELD.false)) few
    (subst AreEach taken (c.add_run.ensures.each c.if-not-add_run.false)) in
    record {
      fit = subst FitEntry (sym taken) fits;
      rows_are = sum_of builder.rows c.masked.result (masked_in runs) (masked_of next) builder.rows_are c.masked.ensures.rows ∙ sym (masked_with runs next)
          ∙ ap masked_in (sym taken);
      held_is = sum_of builder.held c.held.result (held_in runs) (held_of next) builder.held_is c.held.ensures.sectors ∙ sym (held_with runs next)
          ∙ ap held_in (sym taken);
    }
  where
    sum_of : (a b c d : ℕ) → a ≡ c → b ≡ d → a + b ≡ c + d
    sum_of a b c d first second = omega arith
