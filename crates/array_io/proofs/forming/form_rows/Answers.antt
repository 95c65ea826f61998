use Rattle.std.proofs.Common.{◌≡◌, inr, ℕ, ◌<◌, ◌≤◌, Ok, Err, List, length, OnOk, sym, ◌∙◌, ap, subst, arith}
use Rattle.layout_map.proofs.Places.{place_is_no_parity, place_member_below}
use Rattle.layout_map.specs.declared.geometry.Geometry.{Geometry}
use Rattle.layout_map.specs.declared.sizes.TheConstants.{MOST_MEMBERS}
use Rattle.entry_runs.specs.declared.run.Run.{Run}
use Rattle.entry_runs.specs.Built.{runs_in}
use Rattle.batch.specs.declared.placed.Placed.{Placed}
use Rattle.stripe_journal.specs.declared.entry.Entry.{Entry}
use Rattle.stripe_journal.specs.Entries.{form_of, numbers_of, sector_at}
use Rattle.stripe_journal.specs.Seals.{row_at}
use Rattle.array_io.specs.Believed.ArrayCalls.{Answer}
use Rattle.array_io.specs.Steps.FormingRows.{AreOfSet, AreRowsOf, Given, HasParityOn, HasPut, HasSoundRow, HoldsChanged, HoldsGiven}
use Rattle.array_io.specs.Steps.FormingRows.{IsPlanned, LiesAt, logical_at}
use Rattle.array_io.specs.Steps.Contents.{given_of}
use Rattle.array_io.proofs.Commits.ChangedRows.{changed_stays}
use Rattle.array_io.proofs.Commits.PlannedRows.{planned_given, planned_masks, planned_room, planned_rows, same_numbers}
use Rattle.array_io.proofs.forming.form_rows.Goals as goal

-- what holds at Ok of each row, together
at_ok : (answer : Answer) (count : ℕ) (P : ℕ → Type 0) (Q : Type 0) → ((i : ℕ) → i < count → OnOk answer (P i)) → (((i : ℕ) → i < count → P i) → Q)
    → OnOk answer Q
at_ok (Ok done) count P Q each all = all each
at_ok (Err refusal) count P Q each all = tt

in_any_case : (answer : Answer) (Q : Type 0) → Q → OnOk answer Q
in_any_case (Ok done) Q q = q
in_any_case (Err refusal) Q q = tt

-- the rows of an entry are those of a plan
its_plan : (geometry : Geometry) (sectors : Given) (places : List Placed) (runs : List Run) (entry : Entry) → runs_in entry.runs ≡ runs
    → IsPlanned geometry sectors places runs → IsPlanned geometry sectors places (runs_in entry.runs)
its_plan geometry sectors places runs entry same plan = subst (λ (list : List Run). IsPlanned geometry sectors places list) (sym same) plan

pub put_given-requires : goal.put_given-requires
put_given-requires g c =
    planned_room c.args.table.now.geometry (given_of c.args.writes.now.contents) c.args.writes.now.places.now c.set_rows.new.self
    (its_plan c.args.table.now.geometry (given_of c.args.writes.now.contents) c.args.writes.now.places.now (runs_in c.args.writes.now.rows.now)
    c.set_rows.new.self
    c.set_rows.ensures c.requires.planned)

pub form_parities-requires-clause-its_slots : goal.form_parities-requires-clause-its_slots
form_parities-requires-clause-its_slots g c = c.requires.its_slots

-- the rows of an entry of the same form are those of the given sectors, and it holds what changes

rows_of_form : (geometry : Geometry) (sectors : Given) (places : List Placed) (entry new : Entry) → IsPlanned geometry sectors places (runs_in entry.runs)
    → form_of new ≡ form_of entry → 1 ≤ length sectors → AreOfSet geometry sectors → AreRowsOf geometry sectors (numbers_of new)
rows_of_form geometry sectors places entry new plan form some of_set = subst (λ (list : List ℕ). AreRowsOf geometry sectors list)
    (sym (same_numbers new entry form)) (planned_rows geometry sectors places entry plan some of_set)

held_of_form : (geometry : Geometry) (sectors : Given) (places : List Placed) (entry new : Entry) → IsPlanned geometry sectors places (runs_in entry.runs)
    → form_of new ≡ form_of entry → HoldsChanged geometry sectors new
held_of_form geometry sectors places entry new plan form =
    changed_stays geometry sectors entry new (same_numbers new entry form) form (planned_masks geometry sectors places entry plan)

pub form_parities-requires-clause-rows : goal.form_parities-requires-clause-rows
form_parities-requires-clause-rows g c =
    let plan = its_plan c.args.table.now.geometry (given_of c.args.writes.now.contents) c.args.writes.now.places.now (runs_in c.args.writes.now.rows.now)
    c.set_rows.new.self
    c.set_rows.ensures c.requires.planned in
    (rows_of_form c.args.table.now.geometry (given_of c.args.writes.now.contents) c.args.writes.now.places.now c.set_rows.new.self c.put_given.new.entry plan
    c.put_given.ensures.form c.requires.may.least c.requires.may.of_set).of_set

pub form_parities-requires-clause-held : goal.form_parities-requires-clause-held
form_parities-requires-clause-held g c = λ i member inside parity.
    let plan = its_plan c.args.table.now.geometry (given_of c.args.writes.now.contents) c.args.writes.now.places.now (runs_in c.args.writes.now.rows.now)
    c.set_rows.new.self
    c.set_rows.ensures c.requires.planned in
    (held_of_form c.args.table.now.geometry (given_of c.args.writes.now.contents) c.args.writes.now.places.now c.set_rows.new.self c.put_given.new.entry plan
    c.put_given.ensures.form i member inside).1 (inr parity)

pub returns-clause-honest : goal.returns-clause-honest
returns-clause-honest g c = c.form_parities.ensures.honest

pub returns-clause-its_slots : goal.returns-clause-its_slots
returns-clause-its_slots g c = c.form_parities.ensures.its_slots

pub returns-clause-steps : goal.returns-clause-steps
returns-clause-steps g c = c.form_parities.ensures.steps

pub returns-clause-rows : goal.returns-clause-rows
returns-clause-rows g c =
    let plan = its_plan c.args.table.now.geometry (given_of c.args.writes.now.contents) c.args.writes.now.places.now (runs_in c.args.writes.now.rows.now)
    c.set_rows.new.self
    c.set_rows.ensures c.requires.planned in
    in_any_case c.form_parities.result _
    (rows_of_form c.args.table.now.geometry (given_of c.args.writes.now.contents) c.args.writes.now.places.now c.set_rows.new.self
    c.form_parities.new.entry plan (c.form_parities.ensures.form ∙ c.put_given.ensures.form) c.requires.may.least c.requires.may.of_set)

pub returns-clause-held : goal.returns-clause-held
returns-clause-held g c =
    let plan = its_plan c.args.table.now.geometry (given_of c.args.writes.now.contents) c.args.writes.now.places.now (runs_in c.args.writes.now.rows.now)
    c.set_rows.new.self
    c.set_rows.ensures c.requires.planned in
    in_any_case c.form_parities.result _
    (held_of_form c.args.table.now.geometry (given_of c.args.writes.now.contents) c.args.writes.now.places.now c.set_rows.new.self
    c.form_parities.new.entry plan (c.form_parities.ensures.form ∙ c.put_given.ensures.form))

-- what was put stands there still, where no parity does

given_stays : (geometry : Geometry) (sectors : Given) (places : List Placed) (entry put formed : Entry) → IsPlanned geometry sectors places (runs_in entry.runs)
    → form_of formed ≡ form_of put → HasPut sectors places (length places) put
    → ((i member : ℕ) → member < MOST_MEMBERS → ¬ HasParityOn geometry (row_at (numbers_of put) i) member → sector_at formed i member ≡ sector_at put i member)
    → HoldsGiven geometry sectors formed
given_stays geometry sectors places entry put formed plan of_put has others k i member within inside lies =
    let numbers : numbers_of formed ≡ numbers_of put = same_numbers formed put of_put in
    let here = subst (λ (list : List ℕ). LiesAt geometry (logical_at sectors k) (row_at list i) member) numbers lies in
    others i member (omega (arith, place_member_below geometry.limits here, geometry.limits.members_most))
    (λ parity. place_is_no_parity geometry.limits here parity)
    ∙ planned_given geometry sectors places entry plan put has k i member within (omega (arith, inside, ap length numbers)) here

pub returns-clause-formed : goal.returns-clause-formed
returns-clause-formed g c = λ number from honest at.
    let geometry = c.args.table.now.geometry in
    let sectors = (given_of c.args.writes.now.contents) in
    let places = c.args.writes.now.places.now in
    let planned = c.set_rows.new.self in
    let put = c.put_given.new.entry in
    let formed = c.form_parities.new.entry in
    let plan = its_plan geometry sectors places (runs_in c.args.writes.now.rows.now) planned c.set_rows.ensures c.requires.planned in
    let form : form_of formed ≡ form_of planned = c.form_parities.ensures.form ∙ c.put_given.ensures.form in
    let numbers : numbers_of formed ≡ numbers_of put = same_numbers formed put c.form_parities.ensures.form in
    at_ok c.form_parities.result (length (numbers_of put)) (λ i. HasSoundRow geometry from.logical formed i (row_at (numbers_of put) i)) _
    (λ i inside. c.form_parities.ensures.sound number i from honest at inside)
    (λ sound. record {
      rows = rows_of_form geometry sectors places planned formed plan form c.requires.may.least c.requires.may.of_set;
      held = held_of_form geometry sectors places planned formed plan form;
      given = given_stays geometry sectors places planned put formed plan c.form_parities.ensures.form c.put_given.ensures.given
          c.form_parities.ensures.others;
      sound = λ i inside. subst (λ (list : List ℕ). HasSoundRow geometry from.logical formed i (row_at list i)) (sym numbers)
          (sound i (omega (arith, inside, ap length numbers)));
    })
