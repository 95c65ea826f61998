-- A settled array may be written; and one that is written, with its last entry at rest, is settled again.
use Rattle.std.proofs.Common.{◌≡◌, inl, inr, ℕ, ◌+◌, ◌<◌, true, false, List, [], ◌∷◌, Option, Some, None, refl, sym, ◌∙◌, subst}
use Rattle.std.specs.Prelude.{Contains}
use Rattle.std.proofs.lemmas.List.Elements.{Contains-push_cases}
use Rattle.sector_model.specs.Bank.{Panel}
use Rattle.sector_model.specs.History.{Bytes, History}
use Rattle.sector_model.specs.Readable.{readable}
use Rattle.sector_model.proofs.Readable.{readable_left}
use Rattle.layout_map.specs.declared.geometry.Geometry.{Geometry}
use Rattle.superblock.specs.declared.table.Table.{Table}
use Rattle.superblock.specs.Cases.{IsLostAfter, Lost, MayBeOut}
use Rattle.superblock.specs.Counted.{IsChosen}
use Rattle.superblock.specs.Losses.{InEachImage, IsLostAt, IsSingleFailure}
use Rattle.superblock.specs.NextTables.{IsComplete, IsNotOlder, slots_of}
use Rattle.array_io.specs.Steps.Bringing.{CarriesAll}
use Rattle.array_io.specs.Steps.EntryAtRest.{HasEntryAtRest}
use Rattle.array_io.specs.Believed.Settled.{IsLostSlot, IsSettled}
use Rattle.array_io.specs.Believed.Views.{RestsAfter, view_of}
use Rattle.array_io.specs.Steps.Writing.{WritesFrom}
use Rattle.array_io.proofs.Rest.AtRest.{IsChosenWithoutAny, IsResting, Rests, at_rest_is_settled, rests_by_choice}
use Rattle.array_io.proofs.Rest.AtRestImages.{LeavesSectors}
use Rattle.array_io.proofs.Laws.AwayStale.{complete_is_there}
use Rattle.array_io.proofs.Laws.Beginning.{holds_at_rest, live_is_up, one_lost_at_rest}
use Rattle.array_io.proofs.Laws.Begun.{chosen_is_one}
use Rattle.array_io.proofs.Laws.Fresh.{no_device}
use Rattle.array_io.proofs.Images.Spellings.{Spellings}

-- A settled array may be written from there.
pub writes_from_settled : Spellings → (devices : ℕ) (table : Table) (number : ℕ) (h : History) (lost : Option Lost) (V : List Bytes)
    → IsSettled devices table number h lost V → WritesFrom devices table table lost (V ∷ []) h
writes_from_settled spellings devices table number h lost V settled = record {
  nothing_pending = settled.nothing_pending;
  there = settled.there;
  same_id = refl;
  holds = holds_at_rest devices table number h lost V settled;
  chosen = λ after at. subst (λ (l : Option Lost). InEachImage devices table h l (λ image. IsChosen table.id devices image table))
      (sym (one_lost_at_rest spellings devices table number h lost after V settled at)) settled.chosen;
}

module _ (spellings : Spellings) (devices : ℕ) (base table : Table) (lost : Option Lost) (X : List (List Bytes)) (h : History)
    (from : WritesFrom devices base table lost X h) where
  -- what reads give chooses the table
  reads_choose : (after : Option Lost) → IsLostAt (slots_of base) lost h after → IsChosen base.id devices (readable h) table
  reads_choose after at =
      subst (λ (i : List ℕ). IsChosen i devices (readable h) table) from.same_id ((from.chosen after at).whole (readable h) (readable_left h))

  -- the table of a set that is written is not older than the base
  pub written_not_older : (after : Option Lost) → IsLostAt (slots_of base) lost h after → IsNotOlder base table
  written_not_older after at =
      let holds = from.holds after (readable h) at (readable_left h) in
      let same : table ≡ holds.table =
      chosen_is_one devices holds.table X (readable h) holds.whole table
      (subst (λ (i : List ℕ). IsChosen i devices (readable h) table) (sym holds.not_older.same_id) (reads_choose after at)) in
      subst (λ (t : Table). IsNotOlder base t) (sym same) holds.not_older

  -- where it is complete, with none lost before, none is lost
  none_lost : IsComplete table → (after : Option Lost) → IsLostAt (slots_of base) None h after → IsLostAt (slots_of base) lost h after → after ≡ None
  none_lost complete after (inl (none, up)) at = none
  none_lost complete after (inr failure) at = absurd (differ (sym failure.failed ∙ live_is_up spellings devices table h failure.slot
      (from.there failure.slot of_set (complete_is_there table complete failure.slot of_set))))
    where
      differ : true ≡ false → ⊥
      differ is = cc

      of_set : failure.slot < slots_of table
      of_set = subst (λ (g : Geometry). failure.slot < g.members + 2) (sym (written_not_older after at).same_geometry) failure.of_set

  -- so it is chosen without any one slot
  chosen_without_any : IsComplete table → lost ≡ None → IsSingleFailure (slots_of base) lost h → IsChosenWithoutAny devices table h
  chosen_without_any complete none loss image may slot =
      let now = none_lost complete loss.0 (subst (λ (l : Option Lost). IsLostAt (slots_of base) l h loss.0) none loss.1) loss.1 in
      (from.chosen loss.0 loss.1).weakened image slot None may (subst (λ (l : Option Lost). MayBeOut l slot) (sym now) tt) (inl refl)

  resting : (number : ℕ) → HasEntryAtRest devices table number (readable h) → IsSingleFailure (slots_of base) lost h → LeavesSectors h
      → IsResting base table devices number lost X h
  resting number entry loss leaves = record {
    nothing_pending = from.nothing_pending;
    holds = from.holds;
    single_failure = loss;
    chosen = reads_choose loss.0 loss.1;
    there = from.there;
    entry = entry;
    sectors = leaves;
  }

  -- A set that is written is settled again with its last entry at rest: where it is complete, none was lost.
  pub settled_again : (number : ℕ) → HasEntryAtRest devices table number (readable h) → IsSingleFailure (slots_of base) lost h → LeavesSectors h
      → (IsComplete table → lost ≡ None) → Rests base table devices number lost X h
  settled_again number entry loss leaves none =
      rests_by_choice spellings base table devices number lost X h (resting number entry loss leaves)
      (λ complete. chosen_without_any complete (none complete) loss)

  -- or each slot carries the table
  pub settled_again_carried : (number : ℕ) → HasEntryAtRest devices table number (readable h) → IsSingleFailure (slots_of base) lost h → LeavesSectors h
      → (IsComplete table → CarriesAll table (readable h)) → Rests base table devices number lost X h
  settled_again_carried number entry loss leaves carried =
      at_rest_is_settled spellings base table devices number lost X h (resting number entry loss leaves) carried

-- which slot is lost stays, where the one that was lost is the one that the table lacks
pub lost_stays : (table : Table) (before after : Option Lost) → IsLostSlot table before → IsLostAfter before table after → after ≡ before
lost_stays table before after is (inl (complete, none)) = none ∙ sym (is.none complete)
lost_stays table None after is (inr (slot, out, same)) = absurd (differ (is.out slot out).1)
  where
    differ : false ≡ true → ⊥
    differ e = cc
lost_stays table (Some lost) after is (inr (out, same)) = same

-- an array at rest on one list is settled on it
pub rests_one : (panel : Panel) (devices number : ℕ) (base table : Table) (lost : Option Lost) (V : List Bytes) (h : History) → panel.devices ≡ devices
    → Rests base table devices number lost (V ∷ []) h → RestsAfter lost (view_of panel h table number) V
rests_one panel devices number base table lost V h same_devices rests =
    let same : rests.logical ≡ V = one_of V rests.logical rests.among in
    record {
      lost = rests.lost;
      is_lost = rests.is_lost;
      rests = subst (λ (n : ℕ). IsSettled n table number h rests.lost V) (sym same_devices)
          (subst (IsSettled devices table number h rests.lost) same rests.settled);
    }
  where
    one_of : (V other : List Bytes) → Contains (V ∷ []) other → other ≡ V
    one_of V other among = elim (Contains-push_cases [] V other among) [
      | inl none ↦ absurd (no_device other none)
      | inr is ↦ sym is
    ]
