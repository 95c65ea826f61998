use Rattle.std.proofs.Common.{take}
use Rattle.batch.specs.Listed.{places_in}
use Rattle.batch.specs.Places.{ArePlacesOf}
use Rattle.batch.proofs.places.Places.of.Given as goal

abbrev pub invariant-loop-at : goal.invariant-loop-at
invariant-loop-at l = ArePlacesOf l.geometry (take l.at l.sectors) (places_in l.places)
