use Rattle.std.proofs.Common.{IsTrue, false}
use Rattle.set_sizes.proofs.Growing.{has_room_grows, lies_on_most}
use Rattle.set_sizes.proofs.choice.least_for.Goals as goal

pub returns-then-not-has_room-clause-none : goal.returns-then-not-has_room-clause-none
returns-then-not-has_room-clause-none c = λ stripes has.
    let most = c.in_ok-most.ensures.most in
    let refused : IsTrue false = c.if-not-has_room.ensures.1 (has_room_grows has (most.most stripes (lies_on_most has.is_set)) most.lies.is_set.rows_fit) in
    cc
