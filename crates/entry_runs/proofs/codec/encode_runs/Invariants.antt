-- The bytes so far spell the runs so far, and zeros are left.
use Rattle.std.proofs.Common.{◌≡◌, ◌-◌, ◌*◌, ◌++◌, take, replicate}
use Rattle.std.specs.List.{flat_map}
use Rattle.entry_runs.specs.Spelling.{run_bytes}
use Rattle.entry_runs.proofs.codec.encode_runs.Given as goal

abbrev pub invariant-loop-number : goal.invariant-loop-number
invariant-loop-number l = l.to ≡ flat_map run_bytes (take l.number l.list) ++ replicate (464 - 8 * l.number) 0
