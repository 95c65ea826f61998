use Rattle.std.proofs.Common.{sym, subst, ◌∙◌}
use Rattle.std.proofs.lemmas.Bool.{false≢true}
use Rattle.stripe_journal.specs.Seals.{AreRows}
use Rattle.stripe_journal.proofs.FormsRead.{formed_as, masked_read, no_rows_read, no_runs_read, runs_formed, runs_read, whole_formed, whole_read}
use Rattle.stripe_journal.proofs.HeldRuns.{runs_rows}
use Rattle.stripe_journal.proofs.codec.read_form.Goals as goal

pub returns-in-Some-clause-formed : goal.returns-in-Some-clause-formed
returns-in-Some-clause-formed c = (runs_formed c.in-Some.runs, runs_rows c.in-Some.runs.list.items c.in-Some.runs.allowed)

pub returns-in-Some-clause-exact : goal.returns-in-Some-clause-exact
returns-in-Some-clause-exact c = runs_read c.args.mark c.args.count c.args.held.now c.in-Some.runs c.if-mark-eq51.true
    (λ runs bytes counted. sym c.in-Some.is ∙ c.decode_runs.ensures.exact runs bytes counted)

pub returns-in-None-clause-exact : goal.returns-in-None-clause-exact
returns-in-None-clause-exact c = no_runs_read c.args.mark c.args.count c.args.held.now c.if-mark-eq51.true
    (λ runs bytes counted. sym c.in-None.is ∙ c.decode_runs.ensures.exact runs bytes counted)

pub returns-then-not-are_rows-clause-exact : goal.returns-then-not-are_rows-clause-exact
returns-then-not-are_rows-clause-exact c = no_rows_read c.args.mark c.args.count c.args.held.now c.read_rows-rows.result.items c.if-mark-eq51.false
    c.read_rows-rows.ensures.exact
    (λ are. absurd (false≢true (sym c.if-not-are_rows.true ∙ c.are_rows.ensures.1 (subst AreRows (sym c.as_slice.ensures.value) are))))

pub returns-then-mark-eq50-clause-formed : goal.returns-then-mark-eq50-clause-formed
returns-then-mark-eq50-clause-formed c =
    formed_as c.read_masks.result c.read_rows-rows.result.items c.read_masks.ensures.formed
    (subst AreRows c.as_slice.ensures.value (c.are_rows.ensures.0 c.if-not-are_rows.false))

pub returns-then-mark-eq50-clause-exact : goal.returns-then-mark-eq50-clause-exact
returns-then-mark-eq50-clause-exact c = masked_read c.args.mark c.args.count c.args.held.now c.read_rows-rows.result c.read_masks.result c.if-mark-eq50.true
    c.read_rows-rows.ensures.exact c.read_masks.ensures.exact

pub returns-else-mark-eq50-clause-formed : goal.returns-else-mark-eq50-clause-formed
returns-else-mark-eq50-clause-formed c = (
  whole_formed c.read_rows-rows.result c.read_rows-rows.ensures.few,
  subst AreRows c.as_slice.ensures.value (c.are_rows.ensures.0 c.if-not-are_rows.false),
)

pub returns-else-mark-eq50-clause-exact : goal.returns-else-mark-eq50-clause-exact
returns-else-mark-eq50-clause-exact c = whole_read c.args.mark c.args.count c.args.held.now c.read_rows-rows.result c.if-mark-eq51.false c.if-mark-eq50.false
    c.read_rows-rows.ensures.exact
