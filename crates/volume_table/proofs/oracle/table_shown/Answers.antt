-- The first sectors are copied, and are a table where there are as many as it has.
use Rattle.std.proofs.Common.{sym, ap, arith}
use Rattle.std.proofs.lemmas.Option.{none-some, same_Some}
use Rattle.extents.specs.declared.volume_table.VolumeTable.{VolumeTable}
use Rattle.extents.specs.Versions.{table_length}
use Rattle.volume_table.proofs.Evaluated.{copied_first, has_table_there, shown_in_copy, spelled_there}
use Rattle.volume_table.proofs.oracle.table_shown.Goals as goal

pub returns-in_err-table-clause-exact : goal.returns-in_err-table-clause-exact
returns-in_err-table-clause-exact c = λ volumes shows.
    let copied = copied_first c.min-there.result c.args.sectors.now _ _ c.min-there.ensures c.copy_from_slice.ensures.after in
    absurd (none-some shows.table (c.in_err-table.ensures.exact shows.table
    (shown_in_copy c.args.extents.now c.min-there.result c.args.sectors.now _ volumes shows c.min-there.ensures copied) shows.of_set))

pub returns-in_err-table-clause-none : goal.returns-in_err-table-clause-none
returns-in_err-table-clause-none c = λ none volumes shows.
    let copied = copied_first c.min-there.result c.args.sectors.now _ _ c.min-there.ensures c.copy_from_slice.ensures.after in
    none-some shows.table (c.in_err-table.ensures.exact shows.table
    (shown_in_copy c.args.extents.now c.min-there.result c.args.sectors.now _ volumes shows c.min-there.ensures copied) shows.of_set)

pub returns-then-table_length-there-clause-some : goal.returns-then-table_length-there-clause-some
returns-then-table_length-there-clause-some c =
    let copied = copied_first c.min-there.result c.args.sectors.now _ _ c.min-there.ensures c.copy_from_slice.ensures.after in
    spelled_there c.min-there.result _ c.args.sectors.now c.in_ok-table.table (sym copied) (omega (arith, c.table_length.ensures, c.if-table_length-there.true))
    c.in_ok-table.ensures.some

pub returns-then-table_length-there-clause-exact : goal.returns-then-table_length-there-clause-exact
returns-then-table_length-there-clause-exact c = λ volumes shows.
    let copied = copied_first c.min-there.result c.args.sectors.now _ _ c.min-there.ensures c.copy_from_slice.ensures.after in
    c.in_ok-table.ensures.exact shows.table (shown_in_copy c.args.extents.now c.min-there.result c.args.sectors.now _ volumes shows c.min-there.ensures copied)
    shows.of_set

pub returns-else-table_length-there-clause-exact : goal.returns-else-table_length-there-clause-exact
returns-else-table_length-there-clause-exact c = λ volumes shows.
    let copied = copied_first c.min-there.result c.args.sectors.now _ _ c.min-there.ensures c.copy_from_slice.ensures.after in
    let same = same_Some c.in_ok-table.table shows.table
    (c.in_ok-table.ensures.exact shows.table (shown_in_copy c.args.extents.now c.min-there.result c.args.sectors.now _ volumes shows c.min-there.ensures copied)
    shows.of_set) in
    absurd (omega (
      arith,
      c.table_length.ensures,
      c.if-table_length-there.false,
      ap (λ (t : VolumeTable). table_length t.version) same,
      has_table_there c.args.extents.now c.min-there.result c.args.sectors.now volumes shows c.min-there.ensures,
    ))

pub returns-else-table_length-there-clause-none : goal.returns-else-table_length-there-clause-none
returns-else-table_length-there-clause-none c = λ none volumes shows. none-some shows.table (returns-else-table_length-there-clause-exact c volumes shows)
