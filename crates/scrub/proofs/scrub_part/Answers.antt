use Rattle.std.proofs.Common.{◌∙◌, sym, subst}
use Rattle.std.specs.Prelude.{Ok, Err, Result}
use Rattle.std.proofs.lemmas.Result.{err_from_is_err_and}
use Rattle.sector_model.specs.declared.refusal.Refusal.{Refusal}
use Rattle.array_io.specs.Believed.Views.{view_of}
use Rattle.array_io.specs.Believed.OpenArray.{array_view}
use Rattle.scrub.specs.declared.report.ScrubReport.{ScrubReport}
use Rattle.scrub.specs.Reports.{told_by}
use Rattle.scrub.specs.Scrubbing.{ScrubsPart}
use Rattle.scrub.proofs.Scrubbed.{not_complete_is_refused, scrubs_by_rows}
use Rattle.scrub.proofs.scrub_part.Goals as goal

pub returns-then-not-is_complete-clause-scrubs : goal.returns-then-not-is_complete-clause-scrubs
returns-then-not-is_complete-clause-scrubs g c = not_complete_is_refused (g.B.Bank.honest c.args.array.now.bank) _
    (array_view c.args.array.now)
    (λ complete. let never = sym (c.is_complete.ensures.1 complete) ∙ c.if-not-is_complete.true in cc)

pub returns-in_err-scrub_rows-clause-scrubs : goal.returns-in_err-scrub_rows-clause-scrubs
returns-in_err-scrub_rows-clause-scrubs g c =
    let p = err_from_is_err_and c.from_residual.result c.from_residual.ensures.1 in
    rw (p.1, p.2) (scrubs_by_rows (g.B.Bank.honest c.args.array.now.bank) c.args.first c.args.rows c.args.array.now.entry
    c.args.array.now.table c.scrub_rows.new.table
    (g.B.Bank.panel c.args.array.now.bank) (g.B.Bank.panel c.scrub_rows.new.bank)
    (g.B.Bank.history c.args.array.now.bank) (g.B.Bank.history c.scrub_rows.new.bank)
    (λ fair. g.met.B.Bank.true_to _ fair) (λ fair. g.met.B.Bank.true_to _ (c.scrub_rows.ensures.honest.0 fair))
    c.args.array.now.its_slots (c.is_complete.ensures.0 c.if-not-is_complete.false)
    (Err c.in_err-scrub_rows.field-0.0) c.in_err-scrub_rows.ensures.scans tt)

pub returns-clause-scrubs : goal.returns-clause-scrubs
returns-clause-scrubs g c =
    subst (λ (a : Result ScrubReport Refusal). ScrubsPart (g.B.Bank.honest c.args.array.now.bank) c.args.first c.args.rows
    (array_view c.args.array.now)
    (view_of (g.B.Bank.panel c.scrub_rows.new.bank) (g.B.Bank.history c.scrub_rows.new.bank) c.scrub_rows.new.table
    c.args.array.now.entry) (told_by a)) (sym c.ok_or.ensures.value)
    (scrubs_by_rows (g.B.Bank.honest c.args.array.now.bank) c.args.first c.args.rows c.args.array.now.entry c.args.array.now.table
    c.scrub_rows.new.table
    (g.B.Bank.panel c.args.array.now.bank) (g.B.Bank.panel c.scrub_rows.new.bank)
    (g.B.Bank.history c.args.array.now.bank) (g.B.Bank.history c.scrub_rows.new.bank)
    (λ fair. g.met.B.Bank.true_to _ fair) (λ fair. g.met.B.Bank.true_to _ (c.scrub_rows.ensures.honest.0 fair))
    c.args.array.now.its_slots (c.is_complete.ensures.0 c.if-not-is_complete.false)
    (Ok c.in_ok-scrub_rows.field-0) c.in_ok-scrub_rows.ensures.scans c.in_ok-scrub_rows.ensures.told)
