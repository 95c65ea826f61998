use Rattle.std.proofs.Common.{Some, ap, arith}
use Rattle.extents.proofs.FirstSectors.{begins_large, begins_small, large_is, small_is}
use Rattle.extents.proofs.version.version_from.Goals as goal

pub returns-then-byte-lt-LAST_VERSION-clause-some : goal.returns-then-byte-lt-LAST_VERSION-clause-some
returns-then-byte-lt-LAST_VERSION-clause-some c = begins_small c.args.format c.args.byte c.in-One.is c.if-byte-lt-LAST_VERSION.true

pub returns-then-byte-lt-LAST_VERSION-clause-exact : goal.returns-then-byte-lt-LAST_VERSION-clause-exact
returns-then-byte-lt-LAST_VERSION-clause-exact c = λ version is.
    let its = small_is c.args.format c.args.byte version c.in-One.is is in
    ap (λ (n : _). Some n) (omega (arith, its.0, its.2))

pub returns-else-byte-lt-LAST_VERSION-clause-exact : goal.returns-else-byte-lt-LAST_VERSION-clause-exact
returns-else-byte-lt-LAST_VERSION-clause-exact c = λ version is.
    let its = small_is c.args.format c.args.byte version c.in-One.is is in
    absurd (omega (arith, its.0, its.1, its.2, c.if-byte-lt-LAST_VERSION.false))

pub returns-then-byte-eq0-clause-some : goal.returns-then-byte-eq0-clause-some
returns-then-byte-eq0-clause-some c = begins_large c.args.format c.args.byte c.in-Two.is c.if-byte-eq0.true

pub returns-then-byte-eq0-clause-exact : goal.returns-then-byte-eq0-clause-exact
returns-then-byte-eq0-clause-exact c = λ version is.
    let its = large_is c.args.format c.args.byte version c.in-Two.is is in
    ap (λ (n : _). Some n) (omega (arith, its.0))

pub returns-else-byte-eq0-clause-exact : goal.returns-else-byte-eq0-clause-exact
returns-else-byte-eq0-clause-exact c = λ version is.
    let its = large_is c.args.format c.args.byte version c.in-Two.is is in
    absurd (c.if-byte-eq0.false its.1)
