use Rattle.std.proofs.Common.{arith}
use Rattle.entry_runs.specs.Body.{has_bit}
use Rattle.entry_runs.proofs.Counts.{count_most}
use Rattle.entry_runs.proofs.run.bits_below.Goals as goal

pub overflow_add-count : goal.overflow_add-count
overflow_add-count c = omega (arith, c.loop-below.invariant, count_most (has_bit c.args.mask) c.loop-below.below)

pub returns-clause-most : goal.returns-clause-most
returns-clause-most c = omega (arith, c.loop-below.invariant, count_most (has_bit c.args.mask) c.loop-below.below)
