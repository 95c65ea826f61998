use Rattle.std.proofs.Common.{Some, sym, ap, ◌∙◌, arith}
use Rattle.extents.proofs.Readings.{read_is_at, none_is_at, cell_cut}
use Rattle.extents.proofs.Versions.{cell_sector, cell_room}
use Rattle.extents.proofs.codec.record_at.Goals as goal

pub bounds-from-number : goal.bounds-from-number
bounds-from-number c = cell_sector c.args.version c.args.number c.records_a_sector-each.result c.records_a_sector-each.ensures.number
    (omega (arith, c.most_volumes.ensures, c.if-number-most_volumes.false))

pub slice_bounds-read_record-end : goal.slice_bounds-read_record-end
slice_bounds-read_record-end c =
    omega (
      arith,
      cell_room c.args.version c.args.number c.record_width-width.result c.records_a_sector-each.result c.record_width-width.ensures.number
          c.records_a_sector-each.ensures.number,
      c.type_inv.sector,
    )

pub returns-then-number-most_volumes-clause-some : goal.returns-then-number-most_volumes-clause-some
returns-then-number-most_volumes-clause-some c = none_is_at c.args.version c.args.from.now c.args.number
    (omega (arith, c.most_volumes.ensures, c.if-number-most_volumes.true))

pub returns-then-number-most_volumes-clause-exact : goal.returns-then-number-most_volumes-clause-exact
returns-then-number-most_volumes-clause-exact c = λ r read. ap (λ (one : _). Some one)
    (sym (read.few (omega (arith, c.most_volumes.ensures, c.if-number-most_volumes.true))))

pub returns-clause-some : goal.returns-clause-some
returns-clause-some c =
    read_is_at c.args.version c.args.from.now c.args.number c.record_width-width.result c.records_a_sector-each.result c.read_record.result
    c.record_width-width.ensures.number c.records_a_sector-each.ensures.number
    (omega (arith, c.most_volumes.ensures, c.if-number-most_volumes.false)) c.read_record.ensures.short c.read_record.ensures.some

pub returns-clause-exact : goal.returns-clause-exact
returns-clause-exact c = λ r read.
    c.read_record.ensures.exact r read.short
    (sym (cell_cut c.args.version c.args.from.now c.args.number c.record_width-width.result c.records_a_sector-each.result c.record_width-width.ensures.number
    c.records_a_sector-each.ensures.number)
    ∙ read.spelled (omega (arith, c.most_volumes.ensures, c.if-number-most_volumes.false)))
