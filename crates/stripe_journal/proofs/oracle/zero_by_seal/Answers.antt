use Rattle.std.proofs.Common.{Bool, ap, sym, ◌∙◌}
use Rattle.std.specs.Prelude.{◌&&◌, nat_lt}
use Rattle.std.proofs.lemmas.Bool.{eq-eqb, ne_eqb}
use Rattle.stripe_journal.specs.declared.form.Form.{Form}
use Rattle.stripe_journal.specs.declared.form.Form.TheVariants.{Runs}
use Rattle.stripe_journal.specs.Body.{place_in, zero_at}
use Rattle.stripe_journal.specs.Forms.{rows_in}
use Rattle.stripe_journal.proofs.RankRuns.{place_of_no_run, zero_of_run}
use Rattle.stripe_journal.proofs.oracle.zero_by_seal.Goals as goal

pub returns-then-run-eq0 : goal.returns-then-run-eq0
returns-then-run-eq0 c =
    let here = zero_of_run c.args.members c.in-Runs.runs c.args.row c.args.member c.in-Some.run' (sym c.run_of.ensures ∙ c.in-Some.is) in
    sym (ap (λ (f : Form). zero_at c.args.members f (place_in (rows_in f) c.args.row) c.args.member) c.in-Runs.is ∙ here
    ∙ ap (λ (b : Bool). b && nat_lt c.args.member c.args.members) (eq-eqb c.in-Some.run'.mask 0 c.if-run-eq0.true))

pub returns-else-run-eq0 : goal.returns-else-run-eq0
returns-else-run-eq0 c =
    let here = zero_of_run c.args.members c.in-Runs.runs c.args.row c.args.member c.in-Some.run' (sym c.run_of.ensures ∙ c.in-Some.is) in
    let none = ne_eqb c.in-Some.run'.mask 0 c.if-run-eq0.false in
    none ∙ sym (ap (λ (f : Form). zero_at c.args.members f (place_in (rows_in f) c.args.row) c.args.member) c.in-Runs.is ∙ here
    ∙ ap (λ (b : Bool). b && nat_lt c.args.member c.args.members) none)

pub returns-in-None : goal.returns-in-None
returns-in-None c =
    let none = place_of_no_run c.in-Runs.runs c.args.row (sym c.run_of.ensures ∙ c.in-None.is) in
    sym (ap (λ (f : Form). zero_at c.args.members f (place_in (rows_in f) c.args.row) c.args.member) c.in-Runs.is
    ∙ ap (λ o. zero_at c.args.members (Runs c.in-Runs.runs) o c.args.member) none)
