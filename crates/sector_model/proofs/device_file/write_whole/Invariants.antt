use Rattle.std.proofs.Common.{IsTrue, ◌≡◌, ◌≤◌, length}
use Rattle.sector_model.specs.DeviceFiles.{IsWritten}
use Rattle.sector_model.proofs.device_file.write_whole.Given as goal

abbrev pub invariant-loop : goal.invariant-loop
invariant-loop g l = record {
  done : l.done ≤ length l.from;
  written : IsTrue g.F.DeviceFile.tells → IsWritten l.place l.done l.from (g.F.DeviceFile.told l.initial.file) (g.F.DeviceFile.told l.file);
  length : IsTrue g.F.DeviceFile.tells → (g.F.DeviceFile.told l.file).size ≡ (g.F.DeviceFile.told l.initial.file).size;
}
