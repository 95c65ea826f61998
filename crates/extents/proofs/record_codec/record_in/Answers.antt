use Rattle.std.proofs.Common.{◌≡◌, None, Some, sym, ap, arith}
use Rattle.extents.proofs.Spelled.{not_used, in_use}
use Rattle.extents.proofs.Versions.{numbers_fit}
use Rattle.extents.proofs.record_codec.record_in.Goals as goal

pub bounds-from-0 : goal.bounds-from-0
bounds-from-0 c = omega (arith, c.requires, (numbers_fit c.args.version).blocks)

pub returns-then-from-eq0-clause-exact : goal.returns-then-from-eq0-clause-exact
returns-then-from-eq0-clause-exact c = λ r short is. ap (λ (one : _). Some one) (sym (not_used c.args.version c.args.from.now r is c.if-from-eq0.true))

pub returns-in_err-read_used-clause-exact : goal.returns-in_err-read_used-clause-exact
returns-in_err-read_used-clause-exact c = λ r short is. absurd (
    let used = in_use c.args.version c.args.from.now r short is c.if-from-eq0.false in
    let some : c.read_used.result ≡ Some used.0 = c.read_used.ensures.exact used.0 used.2 used.3 in
    let none : c.read_used.result ≡ None = c.in_err-read_used.was in
    let no : ⊥ = cc in no)

pub returns-clause-exact : goal.returns-clause-exact
returns-clause-exact c = λ r short is.
    let used = in_use c.args.version c.args.from.now r short is c.if-from-eq0.false in
    let some : c.read_used.result ≡ Some used.0 = c.read_used.ensures.exact used.0 used.2 used.3 in
    let found : c.read_used.result ≡ Some c.in_ok-read_used.field-0 = c.in_ok-read_used.was in
    let one : r ≡ Some used.0 = used.1 in
    cc
