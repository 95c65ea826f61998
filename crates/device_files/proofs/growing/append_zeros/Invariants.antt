use Rattle.std.proofs.Common.{◌≡◌, ◌+◌, ◌++◌, IsTrue, replicate, ℕ}
use Rattle.device_files.proofs.growing.append_zeros.Given as goal

abbrev pub invariant-loop-left : goal.invariant-loop-left
invariant-loop-left g l = record {
  done : ℕ;
  split : done + l.left ≡ l.initial.left;
  grown : IsTrue g.F.Growing.tells → g.F.Growing.told l.file ≡ g.F.Growing.told l.initial.file ++ replicate done 0;
}

abbrev pub decreases-loop-left : goal.decreases-loop-left
decreases-loop-left g l = l.left
