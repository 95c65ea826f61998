use Rattle.std.proofs.Common.{IsTrue, ◌≡◌, ◌≤◌}
use Rattle.sector_model.specs.DeviceFiles.{AreAt}
use Rattle.sector_model.proofs.device_file.read_whole.Given as goal

abbrev pub invariant-loop : goal.invariant-loop
invariant-loop g l = record {
  done : l.done ≤ 512;
  same : IsTrue g.F.DeviceFile.tells → g.F.DeviceFile.told l.file ≡ g.F.DeviceFile.told l.initial.file;
  read : IsTrue g.F.DeviceFile.tells → AreAt (g.F.DeviceFile.told l.initial.file).byte l.place l.done l.to;
}
