use Rattle.std.proofs.Common.{refl, sym, ◌∙◌}
use Rattle.std.proofs.lemmas.Option.{same_Some}
use Rattle.volume_table.proofs.Evaluated.{no_count, found_count}
use Rattle.volume_table.proofs.oracle.blocks_in_volume.Goals as goal

pub returns-in_err-table : goal.returns-in_err-table
returns-in_err-table c = λ volumes shows. absurd (c.in_err-table.ensures.none refl volumes shows)

pub returns-in_err-found : goal.returns-in_err-found
returns-in_err-found c = λ volumes shows.
    let table = c.in_ok-table.table in
    let same = same_Some table shows.table (c.in_ok-table.ensures.exact volumes shows) in
    c.from_residual-in_err-found.ensures ∙ sym (no_count c.args.extents.now c.args.sectors.now volumes c.args.name.now table shows same c.in_err-found.ensures)

pub returns : goal.returns
returns c = λ volumes shows.
    let table = c.in_ok-table.table in
    let found = c.in_ok-found.found in
    let same = same_Some table shows.table (c.in_ok-table.ensures.exact volumes shows) in
    found_count c.args.extents.now c.args.sectors.now volumes c.args.name.now found.number found.count table shows same c.in_ok-found.ensures
