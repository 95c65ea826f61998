-- What a slot that was marked missing leaves: who got the new table, and that they are up where it was published to the end.
use Rattle.std.proofs.Common.{◌≡◌, ◌≢◌, ℕ, ◌+◌, ◌<◌, Bool, true, false, None, Result, Ok, Err, refl, sym, ◌∙◌, ap, subst}
use Rattle.std.specs.Prelude.{is_ok}
use Rattle.sector_model.specs.declared.sector.Stop.{Stop}
use Rattle.sector_model.specs.declared.sector.Stop.TheVariants.{Down, Worn}
use Rattle.sector_model.specs.Bank.{Panel}
use Rattle.sector_model.specs.Calls.{Made}
use Rattle.sector_model.specs.History.{History, is_down}
use Rattle.sector_model.specs.Moments.{Throughout}
use Rattle.sector_model.proofs.Steps.{throughout_last, throughout_more}
use Rattle.layout_map.specs.declared.geometry.Geometry.{Geometry}
use Rattle.superblock.specs.declared.table.Table.{Table}
use Rattle.superblock.specs.NextTables.{slots_of}
use Rattle.superblock.specs.Publishing.{publish_calls}
use Rattle.superblock.proofs.PublishSteps.{GetsIt, IsInPublish, in_publish}
use Rattle.array_io.specs.Believed.ArrayCalls.{Answer}
use Rattle.array_io.specs.Steps.MarkingOn.{IsMarkedOn, answer_of}
use Rattle.array_io.specs.Steps.CallSteps.{StaysDown}
use Rattle.array_io.proofs.Marks.MarkingCalls.{marking_up}
use Rattle.array_io.proofs.Marks.MarkingHolds.{state_stays}
use Rattle.array_io.proofs.Marks.MarkingImages.{gets_it}

-- the call answered Ok only where the publishing did
pub ok_of : (answer : Answer) (result : Result (Unit {0}) Stop) → answer ≡ answer_of result → answer ≡ Ok tt → result ≡ Ok tt
ok_of answer (Ok done) is ok = refl
ok_of answer (Err (Down device)) is ok = absurd (cc)
ok_of answer (Err Worn) is ok = absurd (cc)

module _ (honest : Type 0) (table new_table : Table) (slot : ℕ) (old_panel new_panel : Panel) (before new : History) (answer : Answer)
    (is : IsMarkedOn honest slot old_panel new_panel table new_table before new answer) (of_set : slot < slots_of table) (is_honest : honest) where
  pub moment : Throughout (IsInPublish new_table None is.publishes.sectors before) before new
  moment = in_publish new_table None is.publishes.sectors (is_ok is.result) before new (is.publishes.made is_honest)

  pub at_end : IsInPublish new_table None is.publishes.sectors before new
  at_end = throughout_last new moment

  -- what was down stays so
  pub stays_throughout : Throughout (StaysDown before) before new
  stays_throughout = throughout_more (λ h in_it. in_it.stays_down) new moment

  -- each other slot of the set gets the new table
  pub gets_others : (other : ℕ) → other < slots_of table → other ≢ slot → GetsIt new_table None other
  gets_others other below apart = gets_it new_table other (subst (λ (g : Geometry). other < g.members + 2) (sym is.marked.same_geometry) below)
      (state_stays table new_table slot is.marked other apart ∙ is.others other below apart)

  module _ (ok : answer ≡ Ok tt) where
    pub result_ok : is.result ≡ Ok tt
    result_ok = ok_of answer is.result is.answered ok

    pub made : Made (publish_calls new_table None is.publishes.sectors) true before new
    made = subst (λ (b : Bool). Made (publish_calls new_table None is.publishes.sectors) b before new) (ap is_ok result_ok) (is.publishes.made is_honest)

    -- and is up
    pub up_then : (device : ℕ) → GetsIt new_table None device → is_down new device ≡ false
    up_then = marking_up new_table is.publishes.sectors before new made
