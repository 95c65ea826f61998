use Rattle.std.proofs.Common.{◌≡◌, ◌-◌, ◌≤◌, IsTrue, length}
use Rattle.sector_model.specs.DeviceFiles.{IsWritten}
use Rattle.device_files.specs.BankFiles.{contents_by}
use Rattle.device_files.proofs.clearing.write_front.Given as goal

abbrev pub invariant-loop-done : goal.invariant-loop-done
invariant-loop-done g l = record {
  within : l.done ≤ length l.from;
  written : IsTrue g.F.Growing.tells → IsWritten 0 l.done l.from (contents_by g.F.Growing.told g.F.BankFile.left l.initial.file)
      (contents_by g.F.Growing.told g.F.BankFile.left l.file);
  long : IsTrue g.F.Growing.tells → length (g.F.Growing.told l.file) ≡ length (g.F.Growing.told l.initial.file);
}

abbrev pub decreases-loop-done : goal.decreases-loop-done
decreases-loop-done g l = length l.from - l.done
