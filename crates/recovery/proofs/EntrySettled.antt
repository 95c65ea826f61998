-- Finding the last entry, copying it to the stale journal and putting its rows on the members settles it.
use Rattle.std.proofs.Common.{◌≡◌, ◌⊎◌, inl, inr, ℕ, ◌%◌, ◌<◌, Bool, true, false, List, refl, sym, ◌∙◌, ap, subst, arith}
use Rattle.std.specs.Prelude.{Option, Some, None, Result, Ok, Err}
use Rattle.sector_model.specs.declared.refusal.Refusal.{Refusal}
use Rattle.sector_model.specs.History.{Bytes, History, disk_of, is_down, sector_of, seen}
use Rattle.sector_model.specs.Readable.{readable}
use Rattle.sector_model.proofs.Readable.{readable_down, readable_up}
use Rattle.layout_map.specs.declared.geometry.Geometry.{Geometry}
use Rattle.layout_map.specs.declared.sizes.TheConstants.{SUPERBLOCK_PLACES}
use Rattle.superblock.specs.declared.state.State.TheVariants.{InSync, Missing}
use Rattle.superblock.specs.declared.table.Table.{Table}
use Rattle.superblock.specs.Cases.{HasNone}
use Rattle.superblock.specs.Counted.{Content}
use Rattle.superblock.specs.NextTables.{IsComplete}
use Rattle.superblock.specs.Publishing.{StandsAt, place_of}
use Rattle.stripe_journal.specs.declared.entry.Entry.{Entry}
use Rattle.stripe_journal.specs.Entries.{body_of}
use Rattle.array_io.specs.Believed.ArrayCalls.{Answer}
use Rattle.array_io.specs.Believed.Views.{ArrayView, HasEnded, StaysButForFailures}
use Rattle.array_io.specs.Steps.Bringing.{CarriesAll}
use Rattle.array_io.specs.Steps.CallSteps.{IsCarriedOn, IsPublishedAnew}
use Rattle.array_io.specs.Steps.Putting.{Copied, HoldsAll, IfSingleFailure, IsComing, IsPut, IsPutBefore, MayWrite}
use Rattle.array_io.specs.Steps.PuttingSteps.{Brings, StepsJournal, StepsMembers}
use Rattle.array_io.proofs.Calls.CallSteps.{steps_both, steps_more, steps_refused}
use Rattle.array_io.proofs.Commits.PuttingSteps.{brings_same}
use Rattle.recovery.specs.declared.latest.Latest.{Latest}
use Rattle.recovery.specs.Replaying.{BringsTo, IsFound, IsStaleJournal, IsLatestOf, SettlesEntry, answer_to, progress_of}
use Rattle.recovery.proofs.AssembledCause.{HasOne, own_counts}
use Rattle.recovery.proofs.BringingTo.{brings_refused, brings_value}
use Rattle.recovery.proofs.LatestEntry.{safe_on_all}
use Rattle.recovery.proofs.LatestFound.{stale_journal_awaits, no_journal_is_stale, then_sealed}

states_differ : ¬ (Missing ≡ InSync)
states_differ is = cc

-- superblocks stay

-- reads of a device that is as up as it was give the same in a place that stays
place_stays : (old new : History) (device at : ℕ) → is_down new device ≡ is_down old device → sector_of (seen new device) at ≡ sector_of (seen old device) at
    → sector_of (disk_of (readable new device)) at ≡ sector_of (disk_of (readable old device)) at
place_stays old new device at down same = by_state (is_down old device) refl
  where
    sector : Content → Bytes
    sector content = sector_of (disk_of content) at

    by_state : (b : Bool) → is_down old device ≡ b → sector (readable new device) ≡ sector (readable old device)
    by_state true is = ap sector (readable_down new device (down ∙ is)) ∙ sym (ap sector (readable_down old device is))
    by_state false is = ap sector (readable_up new device (down ∙ is)) ∙ same ∙ sym (ap sector (readable_up old device is))

-- the places of superblocks give what they gave, and the same devices are up
abbrev KeepsPlaces : History → History → Type 0
KeepsPlaces old new = (device at : ℕ) → at < SUPERBLOCK_PLACES → sector_of (disk_of (readable new device)) at ≡ sector_of (disk_of (readable old device)) at

keeps_none : (id : List ℕ) (devices slot : ℕ) (old new : History) → KeepsPlaces old new → HasNone id devices slot (readable new slot)
    → HasNone id devices slot (readable old slot)
keeps_none id devices slot old new keeps none place superblock counts = none place superblock record {
  stands = keeps slot place below ∙ counts.stands;
  of_set = counts.of_set;
  own_place = counts.own_place;
  own_slot = counts.own_slot;
  has_slots = counts.has_slots;
}
  where
    rest : superblock.table.generation % SUPERBLOCK_PLACES < SUPERBLOCK_PLACES
    rest = omega arith

    below : place < SUPERBLOCK_PLACES
    below = subst (λ (k : ℕ). k < SUPERBLOCK_PLACES) counts.own_place rest

keeps_table : (table : Table) (old new : History) → KeepsPlaces old new → CarriesAll table (readable old) → CarriesAll table (readable new)
keeps_table table old new keeps carries = record {
  stands = λ slot of_set. subst (StandsAt table slot) (sym (keeps slot (place_of table) below)) (carries.stands slot of_set);
}
  where
    below : place_of table < SUPERBLOCK_PLACES
    below = omega arith

-- the entry on the stale journal

-- it is copied there
pub copies : (honest : Type 0) (latest : Latest) (body : List Bytes) (journal : ℕ) (old new : ArrayView) (answer : Answer) → IsLatestOf old.table latest
    → IsStaleJournal old.table latest (Some journal)
    → new.table.geometry ≡ old.table.geometry → StepsJournal honest latest.seal body journal old new answer
    → Brings honest (IsComing Copied latest.seal body (progress_of latest)) (IsPutBefore 0 latest.seal body) old new answer
copies honest latest body journal old new answer of_set is_stale same_geometry steps =
    steps_more honest HoldsAll (IfSingleFailure (IsComing Copied latest.seal body (progress_of latest)))
    (IfSingleFailure (IsComing Copied latest.seal body (progress_of latest))) _
    (IfSingleFailure (IsPutBefore 0 latest.seal body)) old new answer (λ from at. at)
    (λ fair ok from at is loss. safe_on_all latest.seal body _ from new.table new.history (is loss)
    (then_sealed old.table latest journal of_set is_stale new.table same_geometry))
    (steps Copied (progress_of latest) (stale_journal_awaits old.table latest journal of_set is_stale))

-- or it stands on both
pub copied_already : (honest : Type 0) (latest : Latest) (body : List Bytes) (old : ArrayView) → IsStaleJournal old.table latest None
    → Brings honest (IsComing Copied latest.seal body (progress_of latest)) (IsPutBefore 0 latest.seal body) old old (Ok tt)
copied_already honest latest body old none = brings_same honest (IsComing Copied latest.seal body (progress_of latest)) (IsPutBefore 0 latest.seal body)
    old.number old.table old.panel old.history
    (λ from loss is. (is.writes, safe_on_all latest.seal body (progress_of latest) from old.table old.history is (no_journal_is_stale old.table latest none)))

-- the whole

-- one superblock of the set counts, where one was published
has_one : (old new : ArrayView) → IsPublishedAnew old new → HasOne old.table.id old.panel.devices new.history
has_one old new anew = own_counts old.table.id old.panel.devices new.table anew.published.slot anew.published.sector new.history anew.published.same_id
    anew.published.room anew.published.stands
    anew.published.up anew.published.is_there

-- the places of superblocks give what they gave, where no slot was marked
places_stay : (old new : ArrayView) → IsCarriedOn old new → KeepsPlaces old.history new.history
places_stay old new same device at below = place_stays old.history new.history device at (same.down device) (same.front device at below)

-- Steps that lead to the last entry at rest settle it.
module _ (honest : Type 0) (old new : ArrayView) where
  carries : IsCarriedOn old new ⊎ IsPublishedAnew old new → (IsComplete old.table → CarriesAll old.table (readable old.history)) → IsComplete new.table
      → CarriesAll new.table (readable new.history)
  carries (inl same) carried complete = subst (λ (t : Table). CarriesAll t (readable new.history)) (sym same.table)
      (keeps_table old.table old.history new.history (places_stay old new same) (carried (subst IsComplete same.table complete)))
  carries (inr anew) carried complete = absurd (states_differ (sym anew.missing ∙ complete.in_sync anew.slot anew.of_set))

  none_before : IsCarriedOn old new ⊎ IsPublishedAnew old new → ((slot : ℕ) → HasNone old.table.id old.panel.devices slot (readable new.history slot))
      → (slot : ℕ) → HasNone old.table.id old.panel.devices slot (readable old.history slot)
  none_before (inl same) none slot = keeps_none old.table.id old.panel.devices slot old.history new.history (places_stay old new same) (none slot)
  none_before (inr anew) none slot = let one = has_one old new anew in absurd (none one.slot one.place one.superblock one.counts)

  ended_so : (result : Result ℕ Refusal) → StaysButForFailures honest old new (HasEnded (answer_to result))
      → StaysButForFailures honest old new (HasEnded result)
  ended_so (Ok number) stays = stays
  ended_so (Err refusal) stays = stays

  pub settles_by : (result : Result ℕ Refusal) → BringsTo honest MayWrite IsPut old new result → SettlesEntry honest old new result
  settles_by result steps = record {
    goes_on = steps.goes_on;
    stays = ended_so result steps.stays;
    moments = λ fair from may. steps.moments fair from (λ loss. may.writes);
    runs = steps.runs;
    reached = λ fair number is from may loss.
        let put = brings_value honest MayWrite IsPut old new result steps number is in
        let rests = put.reached fair refl from (λ before. may.writes) loss in
        (record { writes = rests.writes; carried = carries (put.carried fair refl) may.carried }, rests);
    cause = λ refusal is. (brings_refused honest MayWrite IsPut old new result steps {B = ℕ} IsPut refusal is).cause refusal refl;
    none_counted = λ fair number is. none_before ((brings_value honest MayWrite IsPut old new result steps number is).carried fair refl);
  }

-- An entry was found, or not.
module _ (honest : Type 0) (entry : Entry) (old mid : ArrayView) (result : Result (Option Latest) Refusal)
    (finds : BringsTo honest MayWrite (IsFound (body_of old.table.geometry.members entry)) old mid result) where
  pub settles_refused : (refusal : Refusal) → result ≡ Err refusal → SettlesEntry honest old mid (Err refusal)
  settles_refused refusal is = settles_by honest old mid (Err refusal)
      (brings_refused honest MayWrite (IsFound (body_of old.table.geometry.members entry)) old mid result finds {B = ℕ} IsPut refusal is)

  pub settles_none : result ≡ Ok None → SettlesEntry honest old mid (Ok 0)
  settles_none is = settles_by honest old mid (Ok 0) (brings_value honest MayWrite (IsFound (body_of old.table.geometry.members entry)) old mid result finds
      None is)

  -- it is copied
  module _ (latest : Latest) (is : result ≡ Ok (Some latest)) (same_geometry : mid.table.geometry ≡ old.table.geometry) (still : Type 0) (more : honest → still)
      (later : ArrayView) (answer : Answer)
      (copies_it : Brings still (IsComing Copied latest.seal (body_of mid.table.geometry.members entry) (progress_of latest))
      (IsPutBefore 0 latest.seal (body_of mid.table.geometry.members entry)) mid later answer) where
    found : Brings honest MayWrite (IsComing Copied latest.seal (body_of mid.table.geometry.members entry) (progress_of latest)) old mid (Ok tt)
    found = subst (λ (g : Geometry). Brings honest MayWrite (IsComing Copied latest.seal (body_of g.members entry) (progress_of latest)) old mid (Ok tt))
        (sym same_geometry)
        (brings_value honest MayWrite (IsFound (body_of old.table.geometry.members entry)) old mid result finds (Some latest) is)

    copied : Brings honest MayWrite (IsPutBefore 0 latest.seal (body_of mid.table.geometry.members entry)) old later answer
    copied = steps_both honest still more HoldsAll (IfSingleFailure MayWrite)
        (IfSingleFailure (IsComing Copied latest.seal (body_of mid.table.geometry.members entry) (progress_of latest)))
        (IfSingleFailure (IsPutBefore 0 latest.seal (body_of mid.table.geometry.members entry))) old mid later answer found copies_it

    pub settles_uncopied : (refusal : Refusal) → answer ≡ Err refusal → SettlesEntry honest old later (Err refusal)
    settles_uncopied refusal ended = settles_by honest old later (Err refusal) (steps_refused honest HoldsAll (IfSingleFailure MayWrite) _ _ old later refusal
        (subst (Brings honest MayWrite (IsPutBefore 0 latest.seal (body_of mid.table.geometry.members entry)) old later) ended copied))

    -- its rows are put on the members
    module _ (ok : answer ≡ Ok tt) (same_geometry' : later.table.geometry ≡ mid.table.geometry) (held : Type 0) (holds : honest → held) (new : ArrayView)
        (last : Answer)
        (puts : StepsMembers held latest.seal (body_of later.table.geometry.members entry) later new last) where
      put : Brings honest MayWrite (IsPut latest.seal.number) old new last
      put = steps_both honest held holds HoldsAll (IfSingleFailure MayWrite)
          (IfSingleFailure (IsPutBefore 0 latest.seal (body_of mid.table.geometry.members entry))) (IfSingleFailure (IsPut latest.seal.number)) old later new
          last
          (subst (Brings honest MayWrite (IsPutBefore 0 latest.seal (body_of mid.table.geometry.members entry)) old later) ok copied)
          (subst (λ (g : Geometry). StepsMembers held latest.seal (body_of g.members entry) later new last) same_geometry' puts)

      pub settles_unput : (refusal : Refusal) → last ≡ Err refusal → SettlesEntry honest old new (Err refusal)
      settles_unput refusal ended = settles_by honest old new (Err refusal) (steps_refused honest HoldsAll (IfSingleFailure MayWrite) _ _ old new refusal
          (subst (Brings honest MayWrite (IsPut latest.seal.number) old new) ended put))

      pub settles : last ≡ Ok tt → SettlesEntry honest old new (Ok latest.seal.number)
      settles done = settles_by honest old new (Ok latest.seal.number) (subst (Brings honest MayWrite (IsPut latest.seal.number) old new) done put)
