use Rattle.std.proofs.Common.{◌≡◌, ◌+◌, ◌-◌, arith}
use Rattle.device_files.proofs.Appended.{zeros_after}
use Rattle.device_files.proofs.growing.append_zeros.Goals as goal

pub loop-left-preserved : goal.loop-left-preserved
loop-left-preserved g c =
    let was = c.loop-left.invariant in
    let n = c.in_ok-left.field-0 in
    let split : (was.done + n) + (c.loop-left.left - n) ≡ c.args.bytes = omega (arith, was.split, c.in_ok-left.ensures.bound) in
    record {
      done = was.done + n;
      split = split;
      grown = λ tells. zeros_after _ _ _ was.done n (was.grown tells) (c.in_ok-left.ensures.grown tells);
    }
