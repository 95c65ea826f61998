use Rattle.std.proofs.Common.{arith}
use Rattle.stripe_journal.proofs.Masks.{fits_by, fits_not}
use Rattle.stripe_journal.proofs.counting.is_mask_of.Goals as goal

pub returns-then-from-geometry-eq0 : goal.returns-then-from-geometry-eq0
returns-then-from-geometry-eq0 c =
    fits_by c.args.geometry.now c.args.row c.args.mask c.from.result c.parity_member-parity.result c.has_bit.result c.from.ensures
    c.parity_member-parity.ensures.parity c.parity_member-parity.ensures.only c.if-from-geometry-eq0.true c.has_bit.ensures

pub returns-else-from-geometry-eq0 : goal.returns-else-from-geometry-eq0
returns-else-from-geometry-eq0 c = fits_not c.args.geometry.now c.args.row c.args.mask c.from.result c.from.ensures (omega arith)
    c.if-from-geometry-eq0.false
