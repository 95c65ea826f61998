use Rattle.batch.specs.Listed.{places_in}
use Rattle.batch.specs.Staging.{AreAdded}
use Rattle.batch.specs.ZeroSectors.{with_zeros, zeros_from}
use Rattle.batch.proofs.zero_sectors.list_all.Given as goal

abbrev pub invariant-loop-i : goal.invariant-loop-i
invariant-loop-i l = AreAdded l.geometry l.most (zeros_from l.first l.count) l.i (with_zeros l.initial.sectors) (with_zeros l.sectors)
    (places_in l.initial.places) (places_in l.places)
