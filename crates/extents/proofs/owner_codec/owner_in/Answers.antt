use Rattle.std.proofs.Common.{◌≡◌, ◌-◌, ◌+◌, ◌%◌, ℕ, Some, sym, ap, ◌∙◌, arith}
use Rattle.extents.specs.TableSpelling.{number_in, place_in}
use Rattle.extents.proofs.Spelled.{free_of_number, number_most, number_read, owner_of_numbers, place_read}
use Rattle.extents.proofs.owner_codec.owner_in.Goals as goal

pub returns-then-number-eq0-clause-exact : goal.returns-then-number-eq0-clause-exact
returns-then-number-eq0-clause-exact c = λ o marked room is.
    let number = number_read c.args.from.now o marked room is in
    let none : number_in o ≡ 0 = sym number ∙ sym c.read_u16-number.ensures ∙ c.if-number-eq0.true in
    ap Some (sym (free_of_number o none))

pub returns-then-number-gt256-clause-exact : goal.returns-then-number-gt256-clause-exact
returns-then-number-gt256-clause-exact c = λ o marked room is.
    absurd (omega (arith, number_read c.args.from.now o marked room is, c.read_u16-number.ensures, c.if-number-gt256.true, number_most o room))

pub returns-clause-exact : goal.returns-clause-exact
returns-clause-exact c = λ o marked room is.
    let number : number_in o ≡ c.read_u16-number.result - 1 + 1 =
    omega (arith, number_read c.args.from.now o marked room is, c.read_u16-number.ensures, c.if-number-eq0.false) in
    let place : place_in o ≡ c.read_u16-place.result % 32768 =
    sym (place_read c.args.from.now o marked room is) ∙ ap (λ (n : ℕ). n % 32768) (sym c.read_u16-place.ensures) in
    ap Some (sym (owner_of_numbers o (c.read_u16-number.result - 1) (c.read_u16-place.result % 32768) number place))
