use Rattle.std.proofs.Common.{◌≡◌, ◌<◌, IsTrue}
use Rattle.device_files.proofs.growing.append_some.Given as goal

abbrev pub invariant-loop : goal.invariant-loop
invariant-loop g l = record {
  told : IsTrue g.F.Growing.tells → g.F.Growing.told l.file ≡ g.F.Growing.told l.initial.file;
  failed : 0 < l.counter → g.F.Growing.has_failed l.file;
}
