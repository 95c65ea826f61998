use Rattle.std.proofs.Common.{◌≡◌, drop}
use Rattle.sector_model.specs.Memory.{all_written}
use Rattle.sector_model.proofs.memory.after_crash.write_again.Given as goal

abbrev pub invariant-loop-entry : goal.invariant-loop-entry
invariant-loop-entry l = all_written (drop l.entry-index l.log) l.dev l.disk ≡ all_written l.log l.dev l.initial.disk
