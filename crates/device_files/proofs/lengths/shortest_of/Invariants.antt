use Rattle.std.proofs.Common.{◌<◌, ℕ, IsSome, IsTrue}
use Rattle.device_files.specs.DeviceFiles.{IsShortest, file_in}
use Rattle.device_files.proofs.lengths.shortest_of.Given as goal

abbrev pub invariant-loop-slot : goal.invariant-loop-slot
invariant-loop-slot g l = record {
  there : (k : ℕ) → k < l.slot → IsSome (file_in l.files k);
  least : IsTrue g.F.Growing.tells → IsShortest g.F.Growing.told l.files l.slot l.least;
}
