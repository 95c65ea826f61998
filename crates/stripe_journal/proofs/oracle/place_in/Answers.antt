use Rattle.std.proofs.Common.{sym, arith}
use Rattle.stripe_journal.proofs.Places.{place_first, place_none}
use Rattle.stripe_journal.proofs.oracle.place_in.Goals as goal

pub returns-then-from-row-clause-place : goal.returns-then-from-row-clause-place
returns-then-from-row-clause-place c = sym (place_first c.args.rows.now c.loop-place.place c.args.row c.loop-place.invariant
    (omega (arith, c.loop-place-test.true)) (cc (c.from.ensures, c.if-from-row.true)))

pub returns-clause-place : goal.returns-clause-place
returns-clause-place c = sym (place_none c.args.rows.now c.loop-place.place c.args.row c.loop-place.invariant (omega (arith, c.loop-place-test.false)))
