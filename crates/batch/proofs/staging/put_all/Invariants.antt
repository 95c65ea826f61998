use Rattle.std.proofs.Common.{length}
use Rattle.batch.specs.Listed.{places_in}
use Rattle.batch.specs.Staging.{ArePut}
use Rattle.batch.proofs.staging.put_all.Given as goal

abbrev pub invariant-loop-sector : goal.invariant-loop-sector
invariant-loop-sector l = ArePut l.sectors l.sector-index (length (places_in l.places)) l.initial.all l.all
