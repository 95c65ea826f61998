use Rattle.std.proofs.Common.{ℕ, ◌+◌, sym, ◌∙◌, ap, arith}
use Rattle.layout_map.proofs.Places.{rows_most}
use Rattle.layout_map.specs.declared.sizes.TheConstants.{FIRST_ROW}
use Rattle.superblock.proofs.LeastSectors.{journal_least, member_least}
use Rattle.superblock.proofs.lengths.least_of.Goals as goal

pub overflow_cast-result : goal.overflow_cast-result
overflow_cast-result c = omega (arith, c.rows.ensures, rows_most c.args.geometry.now.limits)

pub overflow_add-result : goal.overflow_add-result
overflow_add-result c = omega (arith, c.rows.ensures, rows_most c.args.geometry.now.limits)

pub returns-then-slot-geometry-clause-least : goal.returns-then-slot-geometry-clause-least
returns-then-slot-geometry-clause-least c =
    ap (λ (n : ℕ). FIRST_ROW + n) c.rows.ensures ∙ sym (member_least c.args.geometry.now c.args.slot c.if-slot-geometry.true)

pub returns-then-slot-geometry-clause-fits : goal.returns-then-slot-geometry-clause-fits
returns-then-slot-geometry-clause-fits c = omega (arith, c.rows.ensures, rows_most c.args.geometry.now.limits)

pub returns-else-slot-geometry-clause-least : goal.returns-else-slot-geometry-clause-least
returns-else-slot-geometry-clause-least c = c.journal_sectors.ensures ∙ sym (journal_least c.args.geometry.now c.args.slot c.if-slot-geometry.false)
