use Rattle.std.proofs.Common.{◌≡◌, replicate}
use Rattle.set_commands.proofs.serving.fresh.zero_device.Given as goal

abbrev pub invariant-loop : goal.invariant-loop
invariant-loop l = l.disk.items ≡ replicate l.counter (replicate 512 0)
