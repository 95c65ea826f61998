-- While the table is published in which a slot is missing, every case keeps holding; and then each image chooses that table.
use Rattle.std.proofs.Common.{◌≡◌, ◌≢◌, inl, inr, ℕ, ◌<◌, ◌≤◌, true, List, Option, Result, Ok, is_ok, Some, None, sym, ◌∙◌, ap, subst, arith}
use Rattle.sector_model.specs.declared.sector.Stop.{Stop}
use Rattle.sector_model.specs.Bank.{Panel}
use Rattle.sector_model.specs.Calls.{Made}
use Rattle.sector_model.specs.History.{Bytes, History}
use Rattle.sector_model.proofs.Steps.{throughout_last}
use Rattle.superblock.specs.declared.state.State.TheVariants.{InSync}
use Rattle.superblock.specs.declared.table.Table.{Table}
use Rattle.superblock.specs.Cases.{Lost}
use Rattle.superblock.specs.Counted.{IsChosen}
use Rattle.superblock.specs.Losses.{AllChoose, InEachImage}
use Rattle.superblock.specs.NextTables.{IsMarked, slots_of}
use Rattle.superblock.specs.Publishing.{MayPublish, Publishes, publish_calls}
use Rattle.superblock.specs.Tables.{state_at}
use Rattle.superblock.proofs.PublishSteps.{in_publish}
use Rattle.layout_map.specs.declared.geometry.Geometry.{Geometry}
use Rattle.array_io.specs.Believed.Moments.{HoldsNow, HoldsThroughout}
use Rattle.array_io.proofs.Laws.Beginning.{state_in_sync}
use Rattle.array_io.proofs.Laws.Fresh.{in_sync_not_missing}
use Rattle.array_io.proofs.Marks.Marking.{MarksSlot, marking_chosen, marking_throughout}
use Rattle.array_io.proofs.Marks.MarkingCalls.{marking_up}
use Rattle.array_io.proofs.Marks.MarkingHolds.{marked_not_older, missing_then, state_stays}
use Rattle.array_io.proofs.Images.Spellings.{Spellings}

-- The other slots were in sync: by the new table one slot at most is out, and it is the one that is missing.
pub others_in_sync : (old new : Table) (slot : ℕ) → IsMarked old slot new → slot < slots_of old
    → (other : ℕ) → other < slots_of old → other ≢ slot → state_at old.states other ≡ InSync
others_in_sync old new slot marked of_set other other_of_set apart = elim (state_in_sync (state_at old.states other)) [
  | inl in_sync ↦ in_sync
  | inr out ↦ absurd (apart (new.allowed.one_out other slot (of_new other other_of_set) (of_new slot of_set)
      (λ is. out (sym (state_stays old new slot marked other apart) ∙ is))
      (λ is. in_sync_not_missing (sym is ∙ missing_then old new slot marked of_set))))
]
  where
    of_new : (k : ℕ) → k < slots_of old → k < slots_of new
    of_new k below = omega (arith, below, ap (λ (g : Geometry). g.members) marked.same_geometry)

-- A slot of the set, which is the lost one, is marked missing; the bank has the set's slots; and each image chose the old table before.
pub record GivesUp (devices : ℕ) (old_table new_table : Table) (slot : ℕ) (lost : Lost) (old : History) : Type 0 where
  pub marked : IsMarked old_table slot new_table
  pub of_set : slot < slots_of old_table
  pub own : lost.slot ≡ slot
  pub has_slots : slots_of old_table ≤ devices
  pub chosen : InEachImage devices old_table old (Some lost) (λ image. IsChosen old_table.id devices image old_table)

-- so the new table may be published
pub may_publish : (devices : ℕ) (old_table new_table : Table) (slot : ℕ) (lost : Lost) (old : History)
    → GivesUp devices old_table new_table slot lost old → MayPublish devices old_table new_table None lost old
may_publish devices old_table new_table slot lost old gives = record {
  not_older = marked_not_older old_table new_table slot gives.marked;
  generation = gives.marked.generation;
  lost_last = inr (ap (λ (k : ℕ). state_at new_table.states k) gives.own ∙ missing_then old_table new_table slot gives.marked gives.of_set);
  chosen = λ after image lost_at may.
      subst (λ (l : Option Lost). AllChoose devices old_table record { image = image; lost = l }) (sym lost_at.1) (record {
        whole = gives.chosen.whole image may;
        weakened = λ other content out stands. gives.chosen.weakened image other content may out stands;
      });
}

module _ (spellings : Spellings) (honest : Type 0) (devices : ℕ) (old_table new_table : Table) (slot : ℕ) (lost : Lost) (old_panel new_panel : Panel)
    (old new : History)
    (result : Result (Unit {0}) Stop) (published : Publishes honest new_table None old_panel new_panel old new result)
    (gives : GivesUp devices old_table new_table slot lost old) where
  marks : MarksSlot devices old_table new_table slot lost published.sectors
  marks = record {
    marked = gives.marked;
    of_set = gives.of_set;
    others = others_in_sync old_table new_table slot gives.marked gives.of_set;
    own = gives.own;
    has_slots = gives.has_slots;
    spelled = published.spelled;
  }

  -- at each moment all cases hold
  pub published_throughout : honest → (X : List (List Bytes)) → HoldsNow old_table devices (Some lost) X old
      → HoldsThroughout old_table devices (Some lost) X old new
  published_throughout is_honest X now =
      marking_throughout spellings devices old_table new_table slot lost published.sectors old new marks
      (in_publish new_table None published.sectors (is_ok result) old new (published.made is_honest))
      (published.moments is_honest devices old_table lost (may_publish devices old_table new_table slot lost old gives))
      X gives.chosen now

  -- and at Ok each image chooses the new table
  pub published_chosen : honest → result ≡ Ok tt → InEachImage devices new_table new (Some lost) (λ image. IsChosen new_table.id devices image new_table)
  published_chosen is_honest done =
      let made : Made (publish_calls new_table None published.sectors) true old new =
      subst (λ (r : Result (Unit {0}) Stop). Made (publish_calls new_table None published.sectors) (is_ok r) old new) done (published.made is_honest) in
      marking_chosen spellings devices old_table new_table slot lost published.sectors old new marks
      (throughout_last new (in_publish new_table None published.sectors (is_ok result) old new (published.made is_honest)))
      (throughout_last new (published.moments is_honest devices old_table lost (may_publish devices old_table new_table slot lost old gives)))
      (marking_up new_table published.sectors old new made)
      (published.safe is_honest done)
