use Rattle.std.proofs.Common.{◌≡◌, ◌<◌, ◌≤◌, IsTrue, length}
use Rattle.sector_model.specs.DeviceFiles.{AreAt}
use Rattle.device_files.specs.BankFiles.{contents_by}
use Rattle.device_files.proofs.finding.read_whole.Given as goal

abbrev pub invariant-loop : goal.invariant-loop
invariant-loop g l = record {
  done : l.done ≤ 512;
  long : length l.sector ≡ 512;
  read : IsTrue g.F.Growing.tells → AreAt (contents_by g.F.Growing.told g.F.BankFile.left l.file).byte l.place l.done l.sector;
  failed : l.done < l.counter → g.F.Growing.has_failed l.file;
}
