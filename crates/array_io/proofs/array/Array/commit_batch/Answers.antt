use Rattle.std.proofs.Common.{◌≡◌, List, sym, subst}
use Rattle.layout_map.specs.declared.geometry.Geometry.{Geometry}
use Rattle.entry_runs.specs.declared.builder.RunsBuilder.{RunsBuilder}
use Rattle.entry_runs.specs.Built.{runs_in}
use Rattle.batch.specs.declared.batch.Batch.{Batch}
use Rattle.batch.specs.declared.placed.Placed.{Placed}
use Rattle.batch.specs.Batches.{waiting}
use Rattle.batch.specs.Listed.{places_in}
use Rattle.batch.specs.Places.{Given}
use Rattle.batch.proofs.Kept.{is_batch}
use Rattle.array_io.specs.Steps.FormingRows.{IsPlanned}
use Rattle.array_io.proofs.array.Array.commit_batch.Goals as goal

-- a batch has planned the rows of what waits
plan_of : (batch : Batch) (geometry : Geometry) (sectors : Given) (places : List Placed) (rows : RunsBuilder) → batch.geometry ≡ geometry
    → sectors ≡ waiting batch → places ≡ places_in batch.places → rows ≡ batch.runs → IsPlanned geometry sectors places (runs_in rows)
plan_of batch geometry sectors places rows same sectors_are places_are rows_are =
    let is = is_batch batch in
    subst (λ (g : Geometry). IsPlanned g sectors places (runs_in rows)) same
    (subst (λ (s : Given). IsPlanned batch.geometry s places (runs_in rows)) (sym sectors_are)
    (subst (λ (p : List Placed). IsPlanned batch.geometry (waiting batch) p (runs_in rows)) (sym places_are)
    (subst (λ (r : RunsBuilder). IsPlanned batch.geometry (waiting batch) (places_in batch.places) (runs_in r)) (sym rows_are)
    (record { placed = is.placed; planned = is.planned }))))

pub commit_planned-requires-clause-planned : goal.commit_planned-requires-clause-planned
commit_planned-requires-clause-planned g c =
    plan_of c.args.batch.now c.args.self.now.table.geometry c.sectors.result.now c.places.result.now c.runs.result.now c.requires.same c.sectors.ensures
    c.places.ensures c.runs.ensures
