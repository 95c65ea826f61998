use Rattle.std.proofs.Common.{ℕ, ◌-◌, ◌+◌, ◌/◌, IsTrue, false, inl, inr, arith}
use Rattle.std.proofs.lemmas.Bool.{cases_lt}
use Rattle.set_sizes.proofs.Growing.{has_room_grows, rows_fewer}
use Rattle.set_sizes.proofs.choice.least_below.Goals as goal

pub loop-enough-preserved : goal.loop-enough-preserved
loop-enough-preserved c =
    let now = c.loop-enough in
    let middle : ℕ = now.too_few + (now.enough - now.too_few) / 2 in
    record {
      enough = now.invariant.enough;
      too_few = λ other has. elim (cases_lt middle other) [
        | inl more ↦ more
        | inr fewer ↦
            let whole = rows_fewer c.args.chunk middle now.enough (omega (arith, c.loop-enough-test.true)) now.invariant.enough.is_set.rows_fit in
            let refused : IsTrue false = c.if-has_room.ensures.1 (has_room_grows has fewer whole) in
            absurd (cc)
      ];
    }
