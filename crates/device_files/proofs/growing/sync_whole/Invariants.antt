use Rattle.std.proofs.Common.{◌≡◌, IsTrue}
use Rattle.device_files.proofs.growing.sync_whole.Given as goal

abbrev pub invariant-loop : goal.invariant-loop
invariant-loop g l = record {
  told : IsTrue g.F.Growing.tells → g.F.Growing.told l.file ≡ g.F.Growing.told l.initial.file;
  locked : g.F.Growing.is_locked l.initial.file → g.F.Growing.is_locked l.file;
}
