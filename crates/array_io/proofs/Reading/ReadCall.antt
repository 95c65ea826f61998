-- What a call promises that keeps the list, and what reading a logical sector promises.
use Rattle.std.proofs.Common.{◌≡◌, ℕ, ◌+◌, ◌*◌, ◌/◌, ◌%◌, ◌<◌, List, [], Option, sym, ◌∙◌, ap}
use Rattle.std.specs.Prelude.{Ok, Err, slice_index_or}
use Rattle.sector_model.specs.Bank.{IsTrueTo, Panel}
use Rattle.sector_model.specs.History.{Bytes, History}
use Rattle.sector_model.specs.Readable.{readable}
use Rattle.layout_map.specs.declared.geometry.Geometry.{Geometry}
use Rattle.layout_map.specs.Placement.{IsPlace, data_sectors_of, stripe_of_chunk}
use Rattle.superblock.specs.declared.table.Table.{Table}
use Rattle.superblock.specs.Cases.{Lost}
use Rattle.degraded.specs.RowValue.{logical_list, logical_value, value}
use Rattle.array_io.specs.Believed.ArrayCalls.{Answer, KeepsTheList, Reads}
use Rattle.array_io.specs.Steps.CallSteps.{StepsOf}
use Rattle.array_io.specs.Steps.ReadingOn.{Between, KeepsList}
use Rattle.array_io.specs.Believed.Settled.{rows_by}
use Rattle.array_io.specs.Believed.Views.{ArrayView, HasEnded, RestsOn, view_of}
use Rattle.array_io.specs.Steps.Writable.{IsWritable}
use Rattle.array_io.proofs.Rest.AtRestImages.{LeavesSectors}
use Rattle.array_io.proofs.Calls.CallSteps.{answered_steps, step_is_end}
use Rattle.array_io.proofs.Commits.FormedRows.{sector_of_logical_list}
use Rattle.array_io.proofs.Images.Spellings.{Spellings}
use Rattle.array_io.proofs.Writes.Writable.{writable_at_rest, writable_rests}

-- every sector of an honest bank has 512 bytes
pub sectors_of : (panel : Panel) (h : History) → IsTrueTo panel h → LeavesSectors h
sectors_of panel h is = record { whole = is.whole }

module _ (spellings : Spellings) (honest : Type 0) (number : ℕ) (table new_table : Table) (old_panel new_panel : Panel) (old new : History) (answer : Answer)
    (true_old : honest → IsTrueTo old_panel old) (true_new : honest → IsTrueTo new_panel new) where
  abbrev Was : ArrayView
  Was = view_of old_panel old table number

  abbrev Now : ArrayView
  Now = view_of new_panel new new_table number

  from_rest : honest → (lost : Option Lost) (V : List Bytes) → RestsOn Was lost V → IsWritable old_panel.devices number table table lost V old
  from_rest fair lost V rests = writable_at_rest spellings old_panel.devices number table lost V old rests (sectors_of old_panel old (true_old fair))

  -- steps that keep the list are a call that does
  pub keeps_by_steps : (steps : StepsOf honest (KeepsList old_panel.devices) (Between old_panel.devices number) (Between old_panel.devices number) Was Now
      answer)
      → KeepsTheList honest Was Now (HasEnded answer)
  keeps_by_steps steps = record {
    moments = λ fair lost V rests. steps.moments fair record { base = table; lost = lost; logical = V } (from_rest fair lost V rests);
    rests = λ fair goes lost V rests.
        let ok : answer ≡ Ok tt = answered_steps honest (KeepsList old_panel.devices) (Between old_panel.devices number) (Between old_panel.devices number) Was
        Now answer steps goes in
        writable_rests spellings new_panel old_panel.devices number table new_table lost V new steps.goes_on.later.devices
        (steps.reached fair ok record { base = table; lost = lost; logical = V } (from_rest fair lost V rests)) (sectors_of new_panel new (true_new fair));
  }

  -- and where the value of the sector's place was read before the last step, a read
  pub reads_by_steps : (logical member row : ℕ) (to : Bytes) → logical < data_sectors_of table.geometry.members table.geometry.chunk table.geometry.stripes
      → IsPlace table.geometry.members table.geometry.chunk logical member row
      → (steps : StepsOf honest (KeepsList old_panel.devices) (Between old_panel.devices number) (Between old_panel.devices number) Was Now answer)
      → (honest → answer ≡ Ok tt → to ≡ value (rows_by new_table (readable new)) row member) → Reads honest logical Was Now to answer
  reads_by_steps logical member row to below place steps given = record {
    goes_on = steps.goes_on;
    stays = steps.stays;
    number = steps.number;
    keeps = keeps_by_steps steps;
    sector = λ fair ok lost V rests.
        let after = (keeps_by_steps steps).rests fair (λ ended. not_ended answer ok ended) lost V rests in
        given fair ok ∙ at_place after.rests.listed;
    cause = λ refusal is. step_is_end Was Now refusal (steps.cause refusal is);
  }
    where
      not_ended : (a : Answer) → a ≡ Ok tt → ¬ HasEnded a
      not_ended (Ok done) is ended = ended
      not_ended (Err refusal) is ended = absurd (cc)

      same_geometry : new_table.geometry ≡ table.geometry
      same_geometry = steps.goes_on.not_older.same_geometry

      at_place : {V : List Bytes} → logical_list new_table.geometry (rows_by new_table (readable new)) ≡ V
          → value (rows_by new_table (readable new)) row member ≡ slice_index_or V logical []
      at_place {V} listed =
          let here : value (rows_by new_table (readable new)) row member ≡ logical_value table.geometry (rows_by new_table (readable new)) logical =
          ap (λ (r : ℕ). value (rows_by new_table (readable new)) r member) place.on_row
          ∙ ap (λ (m : ℕ). value (rows_by new_table (readable new))
          (stripe_of_chunk table.geometry.members (logical / table.geometry.chunk) * table.geometry.chunk + logical % table.geometry.chunk) m)
          place.on_member in
          here ∙ sym (sector_of_logical_list table.geometry (rows_by new_table (readable new)) logical below)
          ∙ ap (λ (l : List Bytes). slice_index_or l logical []) (ap (λ (g : Geometry). logical_list g (rows_by new_table (readable new))) (sym same_geometry)
          ∙ listed)
