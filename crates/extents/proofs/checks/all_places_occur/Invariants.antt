-- The places of each record so far occur.
use Rattle.std.proofs.Common.{ℕ, ◌<◌}
use Rattle.extents.specs.VolumeTables.{record_of, extents_of}
use Rattle.extents.specs.Checks.{PlacesOccur}
use Rattle.extents.proofs.checks.all_places_occur.Given as goal

abbrev pub invariant-loop-volume : goal.invariant-loop-volume
invariant-loop-volume l = (v : ℕ) → v < l.volume → PlacesOccur l.extents v (extents_of l.layout.blocks (record_of l.records v))
