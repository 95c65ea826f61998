use Rattle.batch.specs.Listed.{places_in}
use Rattle.batch.specs.Staging.{AreAdded}
use Rattle.batch.proofs.staging.place_all.Given as goal

abbrev pub invariant-loop-sector : goal.invariant-loop-sector
invariant-loop-sector l = AreAdded l.geometry l.most l.sectors l.sector-index l.initial.all l.all (places_in l.initial.places) (places_in l.places)
