use Rattle.std.proofs.Common.{◌≡◌, ◌⊎◌, ◌<◌, ◌≤◌, List, length, sym, ap, subst, arith}
use Rattle.batch.specs.declared.placed.Placed.{Placed}
use Rattle.batch.specs.Among.{GoesTo, HasPlaced}
use Rattle.batch.specs.Places.{AreRising, placed_at}
use Rattle.batch.proofs.Placing.{only_new, still_has, still_rise}
use Rattle.batch.proofs.places.Places.insert.Goals as goal

pub invariant_of-self : goal.invariant_of-self
invariant_of-self c =
    let places = c.args.self.now.list.items in
    let goes = subst (λ (list : List Placed). GoesTo list c.args.placed.row c.args.placed.member c.number_of-number.result) c.as_slice.ensures.value
    c.number_of-number.ensures in
    record {
      rising = subst AreRising (sym c.insert.ensures.items)
          (still_rise places c.args.placed c.number_of-number.result goes.within c.args.self.now.rising goes c.requires.apart);
    }

pub returns-clause-keeps : goal.returns-clause-keeps
returns-clause-keeps c = λ other has.
    let within : c.number_of-number.result ≤ length c.args.self.now.list.items =
    omega (arith, ap length c.as_slice.ensures.value, c.number_of-number.ensures.within) in
    subst (λ (list : List Placed). HasPlaced list other) (sym c.insert.ensures.items)
    (still_has c.args.self.now.list.items c.args.placed c.number_of-number.result within other has)

pub returns-clause-only : goal.returns-clause-only
returns-clause-only c = λ j inside.
    let places = c.args.self.now.list.items in
    let within : c.number_of-number.result ≤ length places = omega (arith, ap length c.as_slice.ensures.value, c.number_of-number.ensures.within) in
    subst (λ (list : List Placed). j < length list → HasPlaced places (placed_at list j) ⊎ (placed_at list j ≡ c.args.placed)) (sym c.insert.ensures.items)
    (only_new places c.args.placed c.number_of-number.result within j) inside
