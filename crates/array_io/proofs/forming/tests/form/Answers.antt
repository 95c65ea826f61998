use Rattle.std.proofs.Common.{List, sym, subst}
use Rattle.batch.specs.declared.placed.Placed.{Placed}
use Rattle.batch.specs.Places.{ArePlacesOf}
use Rattle.batch.proofs.GivenSectors.{are_data_places}
use Rattle.array_io.proofs.forming.tests.form.Goals as goal

pub plan_rows-requires-clause-rising : goal.plan_rows-requires-clause-rising
plan_rows-requires-clause-rising g c =
    (subst (λ (list : List Placed). ArePlacesOf c.args.table.now.geometry c.args.given.now list) (sym c.as_slice-places.ensures)
    c.of-placed.ensures).rising

pub plan_rows-requires-clause-data : goal.plan_rows-requires-clause-data
plan_rows-requires-clause-data g c =
    are_data_places c.args.table.now.geometry c.args.given.now c.as_slice-places.result.now
    (subst (λ (list : List Placed). ArePlacesOf c.args.table.now.geometry c.args.given.now list) (sym c.as_slice-places.ensures) c.of-placed.ensures)
    c.requires.may.of_set

pub form_rows-requires-clause-planned : goal.form_rows-requires-clause-planned
form_rows-requires-clause-planned g c = record {
  placed = subst (λ (list : List Placed). ArePlacesOf c.args.table.now.geometry c.args.given.now list) (sym c.as_slice-places.ensures)
      c.of-placed.ensures;
  planned = c.plan_rows.ensures.planned c.if-not-plan_rows.false;
}
