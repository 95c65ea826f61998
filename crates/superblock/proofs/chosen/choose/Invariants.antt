-- The best of the places so far.
use Rattle.superblock.proofs.Choice.{IsBest}
use Rattle.superblock.proofs.chosen.choose.Given as goal

abbrev pub invariant-loop-place : goal.invariant-loop-place
invariant-loop-place l = IsBest l.place-index l.found l.best
