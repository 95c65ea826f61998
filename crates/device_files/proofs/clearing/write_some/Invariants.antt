use Rattle.std.proofs.Common.{◌≡◌, ◌<◌, IsTrue, length}
use Rattle.device_files.specs.BankFiles.{contents_by}
use Rattle.device_files.proofs.clearing.write_some.Given as goal

abbrev pub invariant-loop : goal.invariant-loop
invariant-loop g l = record {
  same : IsTrue g.F.Growing.tells → contents_by g.F.Growing.told g.F.BankFile.left l.file ≡ contents_by g.F.Growing.told g.F.BankFile.left l.initial.file;
  long : IsTrue g.F.Growing.tells → length (g.F.Growing.told l.file) ≡ length (g.F.Growing.told l.initial.file);
  failed : 0 < l.counter → g.F.Growing.has_failed l.file;
}
