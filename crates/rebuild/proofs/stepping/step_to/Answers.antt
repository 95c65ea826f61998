use Rattle.std.proofs.Common.{◌≤◌, Ok, sym, ◌∙◌, ap, subst, arith}
use Rattle.std.proofs.lemmas.Result.{err_from_is_err_and}
use Rattle.layout_map.specs.declared.geometry.Geometry.{Geometry}
use Rattle.layout_map.specs.Placement.{rows_of}
use Rattle.superblock.specs.declared.table.Table.{Table}
use Rattle.array_io.specs.Believed.Holds.{row_count}
use Rattle.array_io.specs.Believed.Views.{view_of}
use Rattle.array_io.specs.Believed.OpenArray.{array_view}
use Rattle.rebuild.proofs.JoinedLast.{published_as}
use Rattle.rebuild.proofs.Stepped.{next_step, next_there, rebuilding_fits, rebuilding_out, step_failed, step_not_written, step_worn_out, steps_by}
use Rattle.rebuild.specs.Rebuilding.{IsRebuilding}
use Rattle.rebuild.proofs.stepping.step_to.Goals as goal

pub returns-then-array-ge-GREATEST_COUNT-clause-steps : goal.returns-then-array-ge-GREATEST_COUNT-clause-steps
returns-then-array-ge-GREATEST_COUNT-clause-steps g c rows is least = step_worn_out (g.B.Bank.honest c.args.array.now.bank) rows c.args.member
    (array_view c.args.array.now) c.requires.rebuilding c.if-array-ge-GREATEST_COUNT.true

pub returns-in_err-write_rows-clause-steps : goal.returns-in_err-write_rows-clause-steps
returns-in_err-write_rows-clause-steps g c rows is least =
    let p = err_from_is_err_and c.from_residual.result c.from_residual.ensures.1 in
    rw (p.1, p.2) (step_not_written (g.B.Bank.honest c.args.array.now.bank) c.args.member c.args.end rows
    (array_view c.args.array.now)
    (view_of (g.B.Bank.panel c.write_rows.new.bank) (g.B.Bank.history c.write_rows.new.bank) c.write_rows.new.table c.args.array.now.entry) c.write_rows.result
    c.requires.rebuilding (c.requires.further, is, least) (c.write_rows.ensures.writes c.args.array.now.entry)
    c.in_err-write_rows.field-0.0 c.in_err-write_rows.was)

pub returns-then-not-branch-clause-steps : goal.returns-then-not-branch-clause-steps
returns-then-not-branch-clause-steps g c rows is least = step_failed (g.B.Bank.honest c.args.array.now.bank) c.args.member c.args.end rows
    (array_view c.args.array.now)
    (view_of (g.B.Bank.panel c.write_rows.new.bank) (g.B.Bank.history c.write_rows.new.bank) c.write_rows.new.table c.args.array.now.entry) c.write_rows.result
    c.requires.rebuilding (c.requires.further, is, least) (c.write_rows.ensures.writes c.args.array.now.entry)
    (c.in_ok-write_rows.was ∙ ap Ok c.if-not-branch.true)

pub next_of-next-requires-clause-rebuilding : goal.next_of-next-requires-clause-rebuilding
next_of-next-requires-clause-rebuilding g c = subst (λ (t : Table). IsRebuilding t c.args.member)
    (sym ((c.write_rows.ensures.writes 0).written (c.in_ok-write_rows.was ∙ ap Ok c.if-not-branch.false)).0) c.requires.rebuilding

pub next_of-next-requires-clause-of_set : goal.next_of-next-requires-clause-of_set
next_of-next-requires-clause-of_set g c = subst (λ (t : Table). c.args.end ≤ row_count t)
    (sym ((c.write_rows.ensures.writes 0).written (c.in_ok-write_rows.was ∙ ap Ok c.if-not-branch.false)).0) c.requires.of_set

pub next_of-next-requires-clause-generation : goal.next_of-next-requires-clause-generation
next_of-next-requires-clause-generation g c = omega (
  arith,
  c.if-array-ge-GREATEST_COUNT.false,
  ap (λ (t : Table). t.generation) ((c.write_rows.ensures.writes 0).written (c.in_ok-write_rows.was ∙ ap Ok c.if-not-branch.false)).0,
)

pub publish_last-requires-clause-step : goal.publish_last-requires-clause-step
publish_last-requires-clause-step g c = next_step c.write_rows.new.table c.next_of-next.result c.args.member c.args.end
    (subst (λ (t : Table). IsRebuilding t c.args.member)
    (sym ((c.write_rows.ensures.writes 0).written (c.in_ok-write_rows.was ∙ ap Ok c.if-not-branch.false)).0) c.requires.rebuilding) c.next_of-next.ensures

pub publish_last-requires-clause-out : goal.publish_last-requires-clause-out
publish_last-requires-clause-out g c = rebuilding_out c.write_rows.new.table c.args.member (subst (λ (t : Table). IsRebuilding t c.args.member)
    (sym ((c.write_rows.ensures.writes 0).written (c.in_ok-write_rows.was ∙ ap Ok c.if-not-branch.false)).0) c.requires.rebuilding)

pub publish_last-requires-clause-there : goal.publish_last-requires-clause-there
publish_last-requires-clause-there g c = next_there c.write_rows.new.table c.next_of-next.result c.args.member c.args.end
    (subst (λ (t : Table). IsRebuilding t c.args.member)
    (sym ((c.write_rows.ensures.writes 0).written (c.in_ok-write_rows.was ∙ ap Ok c.if-not-branch.false)).0) c.requires.rebuilding) c.next_of-next.ensures

pub publish_last-requires-clause-up : goal.publish_last-requires-clause-up
publish_last-requires-clause-up g c = ((c.write_rows.ensures.writes 0).written (c.in_ok-write_rows.was ∙ ap Ok c.if-not-branch.false)).1

pub publish_last-requires-clause-fits : goal.publish_last-requires-clause-fits
publish_last-requires-clause-fits g c = rebuilding_fits c.write_rows.new.table c.args.member (g.B.Bank.panel c.write_rows.new.bank)
    (subst (λ (t : Table). IsRebuilding t c.args.member)
    (sym ((c.write_rows.ensures.writes 0).written (c.in_ok-write_rows.was ∙ ap Ok c.if-not-branch.false)).0) c.requires.rebuilding)
    c.write_rows.ensures.its_slots ((c.write_rows.ensures.writes 0).written (c.in_ok-write_rows.was ∙ ap Ok c.if-not-branch.false)).1

pub invariant_of-array-2 : goal.invariant_of-array-2
invariant_of-array-2 g c = record { its_slots = (c.publish_last.ensures.publishes 0).goes_on.its_slots c.write_rows.ensures.its_slots }

pub returns-in_err-publish_last-clause-steps : goal.returns-in_err-publish_last-clause-steps
returns-in_err-publish_last-clause-steps g c rows is least =
    let p = err_from_is_err_and c.from_residual-in_err-publish_last.result c.from_residual-in_err-publish_last.ensures.1 in
    rw (p.1, p.2) ((steps_by (g.B.Bank.honest c.args.array.now.bank) c.args.member c.args.end rows c.args.array.now.entry c.args.array.now.table
    c.write_rows.new.table c.next_of-next.result
    c.publish_last.new.table (g.B.Bank.panel c.args.array.now.bank) (g.B.Bank.panel c.write_rows.new.bank) (g.B.Bank.panel c.publish_last.new.bank)
    (g.B.Bank.history c.args.array.now.bank)
    (g.B.Bank.history c.write_rows.new.bank) (g.B.Bank.history c.publish_last.new.bank) c.write_rows.result c.publish_last.result c.requires.rebuilding
    (c.requires.further, is, least)
    (c.write_rows.ensures.writes c.args.array.now.entry) (c.in_ok-write_rows.was ∙ ap Ok c.if-not-branch.false) c.next_of-next.ensures
    (λ fair. g.met.B.Bank.true_to c.write_rows.new.bank (c.write_rows.ensures.honest.0 fair))
    (published_as c.write_rows.ensures.honest.0 (c.publish_last.ensures.publishes c.args.array.now.entry))).ended c.in_err-publish_last.field-0.0
    c.in_err-publish_last.was)

pub returns-then-not-branch-2-clause-steps : goal.returns-then-not-branch-2-clause-steps
returns-then-not-branch-2-clause-steps g c rows is least =
    (steps_by (g.B.Bank.honest c.args.array.now.bank) c.args.member c.args.end rows c.args.array.now.entry c.args.array.now.table c.write_rows.new.table
    c.next_of-next.result
    c.publish_last.new.table (g.B.Bank.panel c.args.array.now.bank) (g.B.Bank.panel c.write_rows.new.bank) (g.B.Bank.panel c.publish_last.new.bank)
    (g.B.Bank.history c.args.array.now.bank)
    (g.B.Bank.history c.write_rows.new.bank) (g.B.Bank.history c.publish_last.new.bank) c.write_rows.result c.publish_last.result c.requires.rebuilding
    (c.requires.further, is, least)
    (c.write_rows.ensures.writes c.args.array.now.entry) (c.in_ok-write_rows.was ∙ ap Ok c.if-not-branch.false) c.next_of-next.ensures
    (λ fair. g.met.B.Bank.true_to c.write_rows.new.bank (c.write_rows.ensures.honest.0 fair))
    (published_as c.write_rows.ensures.honest.0 (c.publish_last.ensures.publishes c.args.array.now.entry))).failed
    (c.in_ok-publish_last.was ∙ ap Ok c.if-not-branch-2.true)

pub progress_at-requires : goal.progress_at-requires
progress_at-requires g c = subst (λ (x : Geometry). c.args.end ≤ rows_of x.chunk x.stripes)
    (sym ((c.publish_last.ensures.publishes 0).goes_on.not_older.same_geometry ∙ (c.write_rows.ensures.writes 0).goes_on.not_older.same_geometry))
    c.requires.of_set

pub returns-clause-steps : goal.returns-clause-steps
returns-clause-steps g c rows is least = (steps_by (g.B.Bank.honest c.args.array.now.bank) c.args.member c.args.end rows c.args.array.now.entry
    c.args.array.now.table c.write_rows.new.table c.next_of-next.result
    c.publish_last.new.table (g.B.Bank.panel c.args.array.now.bank) (g.B.Bank.panel c.write_rows.new.bank) (g.B.Bank.panel c.publish_last.new.bank)
    (g.B.Bank.history c.args.array.now.bank)
    (g.B.Bank.history c.write_rows.new.bank) (g.B.Bank.history c.publish_last.new.bank) c.write_rows.result c.publish_last.result c.requires.rebuilding
    (c.requires.further, is, least)
    (c.write_rows.ensures.writes c.args.array.now.entry) (c.in_ok-write_rows.was ∙ ap Ok c.if-not-branch.false) c.next_of-next.ensures
    (λ fair. g.met.B.Bank.true_to c.write_rows.new.bank (c.write_rows.ensures.honest.0 fair))
    (published_as c.write_rows.ensures.honest.0 (c.publish_last.ensures.publishes c.args.array.now.entry))).done
    (c.in_ok-publish_last.was ∙ ap Ok c.if-not-branch-2.false) c.progress_at.result c.progress_at.ensures
