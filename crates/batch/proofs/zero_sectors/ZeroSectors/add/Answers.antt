use Rattle.std.proofs.Common.{List, refl, sym, subst}
use Rattle.entry_runs.specs.Built.{runs_in}
use Rattle.entry_runs.specs.WrittenOut.{masks_of_runs, rows_of_runs}
use Rattle.batch.specs.declared.placed.Placed.{Placed}
use Rattle.batch.specs.Listed.{places_in}
use Rattle.batch.specs.Places.{ArePlanned, AreRising}
use Rattle.batch.specs.Staging.{AreHeld}
use Rattle.batch.specs.ZeroSectors.{with_zeros}
use Rattle.batch.proofs.Kept.{keeps_plan}
use Rattle.batch.proofs.ZeroedSectors.{added_keeps, added_staged, held_in, keeps_zeros, no_room, same_zeros, unplanned}
use Rattle.batch.proofs.zero_sectors.ZeroSectors.add.Goals as goal

pub list_all-requires-clause-held : goal.list_all-requires-clause-held
list_all-requires-clause-held c =
    let zeros = c.args.self.now in
    subst (λ (places : List Placed). AreHeld zeros.geometry (with_zeros zeros.sectors) places) (sym c.copy-places.ensures) (held_in zeros)

pub plan_rows-requires-clause-rising : goal.plan_rows-requires-clause-rising
plan_rows-requires-clause-rising c =
    subst (λ (places : List Placed). AreRising places) (sym c.as_slice.ensures) c.list_all.new.places.rising

-- nothing is added

pub invariant_of-self : goal.invariant_of-self
invariant_of-self c = record {
  held = keeps_zeros c.args.self.now (places_in c.copy-places.result) c.list_all.new.sectors c.copy-places.ensures c.list_all.auto.sectors
      c.list_all.ensures.kept;
  planned = c.args.self.now.planned;
}

pub returns-then-not-list_all-clause-kept : goal.returns-then-not-list_all-clause-kept
returns-then-not-list_all-clause-kept c = λ no.
    same_zeros c.args.self.now (places_in c.copy-places.result) c.list_all.new.sectors c.copy-places.ensures c.list_all.auto.sectors c.list_all.ensures.kept

pub returns-then-not-list_all-clause-none : goal.returns-then-not-list_all-clause-none
returns-then-not-list_all-clause-none c = λ no.
    no_room c.args.self.now c.args.first c.args.count c.most_places-most.result (places_in c.copy-places.result) c.list_all.new.sectors
    (places_in c.list_all.new.places) c.copy-places.ensures c.most_places-most.ensures (c.if-not-list_all.ensures.full refl)

pub invariant_of-self-then-not-plan_rows : goal.invariant_of-self-then-not-plan_rows
invariant_of-self-then-not-plan_rows c = record {
  held = keeps_zeros c.args.self.now (places_in c.copy-places.result) c.list_all.new.sectors c.copy-places.ensures c.list_all.auto.sectors
      c.list_all.ensures.kept;
  planned = c.args.self.now.planned;
}

pub returns-then-not-plan_rows-clause-kept : goal.returns-then-not-plan_rows-clause-kept
returns-then-not-plan_rows-clause-kept c = λ no.
    same_zeros c.args.self.now (places_in c.copy-places.result) c.list_all.new.sectors c.copy-places.ensures c.list_all.auto.sectors c.list_all.ensures.kept

pub returns-then-not-plan_rows-clause-none : goal.returns-then-not-plan_rows-clause-none
returns-then-not-plan_rows-clause-none c = λ no.
    unplanned c.args.self.now c.args.first c.args.count c.most_places-most.result (places_in c.copy-places.result) c.list_all.new.sectors
    (places_in c.list_all.new.places) c.copy-places.ensures c.most_places-most.ensures (c.if-not-list_all.ensures.added refl)
    (λ fit fits planned. c.if-not-plan_rows.ensures.none refl fit fits
    (subst (λ (places : List Placed). ArePlanned c.args.self.now.geometry places (rows_of_runs fit) (masks_of_runs fit)) (sym c.as_slice.ensures) planned))

-- all are added

pub invariant_of-self-2 : goal.invariant_of-self-2
invariant_of-self-2 c =
    let geometry = c.args.self.now.geometry in
    let more = places_in c.list_all.new.places in
    let rows = rows_of_runs (runs_in c.plan_rows.new.runs) in
    let masks = masks_of_runs (runs_in c.plan_rows.new.runs) in
    record {
      held = added_keeps c.args.self.now c.args.first c.args.count c.most_places-most.result (places_in c.copy-places.result) c.list_all.new.sectors more
          c.copy-places.ensures c.most_places-most.ensures (c.if-not-list_all.ensures.added refl) c.list_all.auto.sectors;
      planned = keeps_plan geometry more rows masks
          (subst (λ (places : List Placed). ArePlanned geometry places rows masks) c.as_slice.ensures (c.if-not-plan_rows.ensures.planned refl));
    }

pub returns-clause-staged : goal.returns-clause-staged
returns-clause-staged c = λ yes.
    added_staged c.args.self.now c.args.first c.args.count c.most_places-most.result (places_in c.copy-places.result) c.list_all.new.sectors
    (places_in c.list_all.new.places) c.copy-places.ensures c.most_places-most.ensures (c.if-not-list_all.ensures.added refl) c.list_all.auto.sectors
