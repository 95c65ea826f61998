-- The runs so far are read.
use Rattle.std.proofs.Common.{◌≡◌}
use Rattle.std.specs.Prelude.{map}
use Rattle.std.specs.List.{range_with_len}
use Rattle.entry_runs.specs.Spelling.{run_in}
use Rattle.entry_runs.proofs.codec.read_list.Given as goal

abbrev pub invariant-loop-number : goal.invariant-loop-number
invariant-loop-number l = l.list.items ≡ map (run_in l.from) (range_with_len 0 l.number)
