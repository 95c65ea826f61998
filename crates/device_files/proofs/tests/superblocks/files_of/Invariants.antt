use Rattle.std.proofs.Common.{◌≡◌, vec_len}
use Rattle.device_files.proofs.tests.superblocks.files_of.Given as goal

abbrev pub invariant-loop-slot : goal.invariant-loop-slot
invariant-loop-slot l = vec_len l.files ≡ l.slot
