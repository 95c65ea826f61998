-- What a list of places has.
use Rattle.std.specs.Prelude.{List}
use Rattle.batch.specs.declared.placed.Placed.{Placed}
use Rattle.batch.specs.declared.places.Places.{Places}

-- its places
abbrev pub places_in : Places → List Placed
places_in places = places.list.items
