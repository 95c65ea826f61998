use Rattle.std.proofs.Common.{◌∙◌, ap, sym, arith}
use Rattle.std.proofs.lemmas.Bool.{false≢true}
use Rattle.entry_runs.specs.declared.run.Run.{Run}
use Rattle.entry_runs.specs.Runs.{end_of_runs}
use Rattle.entry_runs.specs.WrittenOut.{masks_of_runs, rows_of_runs}
use Rattle.entry_runs.proofs.Fits.{few_rows_fit}
use Rattle.entry_runs.proofs.Joins.{end_with, masks_with, only_with, rows_with}
use Rattle.entry_runs.proofs.builder.RunsBuilder.push.Goals as goal

pub returns-clause-rows : goal.returns-clause-rows
returns-clause-rows c = λ is.
    ap rows_of_runs (c.append.ensures.taken is)
    ∙ rows_with c.args.self.now.list.items (record { first = c.args.row; length = 1; mask = c.args.mask })

pub returns-clause-masks : goal.returns-clause-masks
returns-clause-masks c = λ is.
    ap masks_of_runs (c.append.ensures.taken is)
    ∙ masks_with c.args.self.now.list.items (record { first = c.args.row; length = 1; mask = c.args.mask })

pub returns-clause-ends : goal.returns-clause-ends
returns-clause-ends c = λ is.
    ap end_of_runs (c.append.ensures.taken is)
    ∙ end_with c.args.self.now.list.items (record { first = c.args.row; length = 1; mask = c.args.mask })

pub returns-clause-none : goal.returns-clause-none
returns-clause-none c = λ isnt runs rows masks fit.
    let next : Run = record { first = c.args.row; length = 1; mask = c.args.mask } in
    let builder = c.args.self.now in
    false≢true (sym isnt ∙ c.append.ensures.fits.1 (only_with builder.list.items next runs builder.fit c.requires.after (omega arith) rows masks fit))

pub returns-clause-few : goal.returns-clause-few
returns-clause-few c = λ few.
    let builder = c.args.self.now in
    c.append.ensures.fits.1
    (few_rows_fit builder.list.items c.args.row c.args.mask builder.fit few c.requires.after c.ranges.row.fits c.ranges.mask.fits c.requires.two)
