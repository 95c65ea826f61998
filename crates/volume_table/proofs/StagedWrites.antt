-- Writes that wait in a batch, and what a commit of them does.
use Rattle.std.proofs.Common.{◌≡◌, ◌≢◌, ◌⊎◌, inl, inr, ℕ, ◌+◌, ◌<◌, ◌≤◌, List, [], ◌∷◌, ◌++◌, length, All, Option, Some, None, Ok, Err, refl, sym, ◌∙◌}
use Rattle.std.proofs.Common.{ap, subst, arith}
use Rattle.std.specs.Prelude.{Bool, Contains, false, slice_index_or, true}
use Rattle.std.proofs.lemmas.Bool.{false≢true}
use Rattle.sector_model.specs.declared.refusal.Refusal.{Refusal}
use Rattle.sector_model.specs.declared.refusal.Refusal.TheVariants.{BadCount, NoVolume, OutOfRange}
use Rattle.superblock.specs.declared.table.Table.{Table}
use Rattle.superblock.specs.Cases.{Lost}
use Rattle.superblock.specs.Tables.{incarnation_at}
use Rattle.batch.specs.Places.{AreOfSet, Given, logical_at}
use Rattle.batch.specs.Staging.{IsStaged}
use Rattle.array_io.specs.Believed.ArrayCalls.{Answer, Commits, written}
use Rattle.array_io.specs.Believed.Views.{ArrayView, HasLostOne, IsEndOf, RestsOn}
use Rattle.sector_model.specs.declared.calls.TheConstants.{GREATEST_COUNT}
use Rattle.array_io.proofs.Commits.FormedEntry.{given_or_not, written_given}
use Rattle.array_io.proofs.Marks.MarkingHolds.{incarnation_stays}
use Rattle.extents.specs.declared.extent_layout.ExtentLayout.{ExtentLayout}
use Rattle.extents.specs.declared.owned.Owned.{Owned}
use Rattle.extents.specs.declared.volume_table.VolumeTable.{VolumeTable}
use Rattle.extents.specs.ExtentMaps.{HasPlace, place_of, sector_of_block}
use Rattle.extents.specs.Owners.{IsAt}
use Rattle.volume_table.specs.Admission.{AreKept, HasRecordAt, ShowsBy}
use Rattle.volume_table.specs.ListChanges.{Change, ChangesList, IsSame, IsSameOr}
use Rattle.volume_table.specs.Shows.{Shows}
use Rattle.volume_table.specs.StagedBlocks.{StagesBlocks}
use Rattle.volume_table.specs.Staging.{AreDone, CommitsStaged, CommitsWrites, HoldsWrites, LieWithin, RefusesStaging, Staged, Stages, after_all}
use Rattle.volume_table.specs.Stands.{IsSettledOn, StoreView}
use Rattle.volume_table.specs.StoreCalls.{extents_for_store}
use Rattle.volume_table.specs.StoreChanges.{AllPlaced, ArePlaced, IsWrittenAt}
use Rattle.volume_table.specs.Volumes.{Block, IsBlock, VolumeMap}
use Rattle.volume_table.specs.VolumeStep.{Command, Done, Write, or_refused, refusal_of, reply_to, volumes_after}
use Rattle.volume_table.proofs.ListChanges.{changes_commit, changes_more, changes_none, rests_long}
use Rattle.volume_table.proofs.StepLemmas.{changed_if_done}
use Rattle.volume_table.proofs.StoreSteps.{ShowsEither, generation_left, moments, set_is_left, settled_then, shown_by, slot_spared, stays_or_fails}
use Rattle.volume_table.proofs.WrittenSectors.{length-written, written_elsewhere}
use Rattle.volume_table.proofs.WrittenVolumes.{write_shows}

module _ (extents : ExtentLayout) (owners : List (Option Owned)) (number at : ℕ) (blocks : List Block) (V : List Block) (old new : Given)
    (stages : StagesBlocks extents owners number at blocks old new) (all : AllPlaced extents owners number at (at + length blocks))
    (within : LieWithin V new) where
  abbrev given : Given
  given = stages.sectors

  abbrev placed : ArePlaced extents owners number at blocks given
  placed = stages.placed

  abbrev staged : IsStaged old given new
  staged = stages.staged

  -- what waited lies within the list too
  pub old_within : LieWithin V old
  old_within k below = omega (arith, within k (omega (arith, below, staged.least)), staged.kept k below)

  inside : (j extent : ℕ) → j < length blocks → IsAt owners extent number (place_of extents (at + j))
      → slice_index_or (written V new) (sector_of_block extents extent (at + j)) [] ≡ slice_index_or blocks j []
  inside j extent below here =
      let has = staged.taken j (omega (arith, below, placed.as_many)) in
      let place : logical_at new has.which ≡ sector_of_block extents extent (at + j) = ap (λ (s : ℕ × Block). s.0) has.is ∙ placed.at_sector j below extent
      here in
      ap (λ (s : ℕ). slice_index_or (written V new) s []) (sym place)
      ∙ written_given V new has.which staged.apart has.within (within has.which has.within)
      ∙ ap (λ (s : ℕ × Block). s.1) has.is
      ∙ placed.bytes j below

  -- a sector beside the blocks is none of those given
  none_given : (sector : ℕ) → ((j extent : ℕ) → j < length blocks → IsAt owners extent number (place_of extents (at + j))
      → sector ≢ sector_of_block extents extent (at + j))
      → (i : ℕ) → i < length given → logical_at given i ≢ sector
  none_given sector none i below same =
      let of_blocks : i < length blocks = omega (arith, below, placed.as_many) in
      let place : HasPlace owners number (place_of extents (at + i)) = all (at + i) (omega arith) (omega (arith, of_blocks)) in
      none i place.0 of_blocks place.1 (sym same ∙ placed.at_sector i of_blocks place.0 place.1)

  outside : (sector : ℕ) → ((j extent : ℕ) → j < length blocks → IsAt owners extent number (place_of extents (at + j))
      → sector ≢ sector_of_block extents extent (at + j))
      → slice_index_or (written V new) sector [] ≡ slice_index_or (written V old) sector []
  outside sector none = elim (given_or_not new sector) [
    | inl has ↦ elim (staged.only has.which has.within) [
      | inl earlier ↦
          let was : logical_at old has.which ≡ sector = sym (staged.kept has.which earlier) ∙ has.is in
          ap (λ (s : ℕ). slice_index_or (written V new) s []) (sym has.is)
          ∙ written_given V new has.which staged.apart has.within (within has.which has.within)
          ∙ staged.others has.which earlier (λ in_given. none_given sector none in_given.which in_given.within (in_given.is ∙ was))
          ∙ sym (written_given V old has.which stages.apart earlier (old_within has.which earlier))
          ∙ ap (λ (s : ℕ). slice_index_or (written V old) s []) was
      | inr in_given ↦ absurd (none_given sector none in_given.which in_given.within (in_given.is ∙ has.is))
    ]
    | inr nowhere ↦
        written_elsewhere V new sector nowhere
        ∙ sym (written_elsewhere V old sector (λ i below same. nowhere i (omega (arith, below, staged.least)) (staged.kept i below ∙ same)))
  ]

  -- with more blocks waiting, a list has these written too
  pub staged_is_written : IsWrittenAt extents owners number at blocks (written V old) (written V new)
  staged_is_written = record {
    as_long = length-written V new ∙ sym (length-written V old);
    written = record { inside = inside; outside = outside };
  }

-- commands after others
after_append : (extents : ExtentLayout) (commands more : List Command) (volumes : VolumeMap)
    → after_all extents (commands ++ more) volumes ≡ after_all extents more (after_all extents commands volumes)
after_append extents [] more volumes = refl
after_append extents (command ∷ commands) more volumes = after_append extents commands more (volumes_after extents command volumes)

done_append : (extents : ExtentLayout) (commands : List Command) (last : Command) (volumes : VolumeMap) → AreDone extents commands volumes
    → reply_to extents last (after_all extents commands volumes) ≡ Done → AreDone extents (commands ++ last ∷ []) volumes
done_append extents [] last volumes before replied = (replied, tt)
done_append extents (command ∷ commands) last volumes before replied =
    (before.0, done_append extents commands last (volumes_after extents command volumes) before.1 replied)

-- A write that waits after others is held after them.
pub holds_more : (extents : ExtentLayout) (table : VolumeTable) (owners : List (Option Owned)) (name : List ℕ) (number at : ℕ) (blocks : List Block)
    (old new : Given) (writes : List Command)
    → AreKept extents table owners → HasRecordAt table.records name number → All IsBlock blocks
    → ((logical : List Block) (volumes : VolumeMap) → ShowsBy extents table logical volumes → None ≡ refusal_of extents (Write name at blocks) volumes)
    → AllPlaced extents owners number at (at + length blocks) → StagesBlocks extents owners number at blocks old new
    → HoldsWrites extents table writes old → HoldsWrites extents table (writes ++ Write name at blocks ∷ []) new
holds_more extents table owners name number at blocks old new writes kept found whole admitted all stages holds = record {
  done = λ V volumes within shown.
      let earlier = old_within extents owners number at blocks V old new stages all within in
      done_append extents writes (Write name at blocks) volumes (holds.done V volumes earlier shown)
      (ap (λ o. or_refused o Done) (sym (admitted (written V old) (after_all extents writes volumes) (holds.shows V volumes earlier shown))));
  shows = λ V volumes within shown.
      let earlier = old_within extents owners number at blocks V old new stages all within in
      let before = holds.shows V volumes earlier shown in
      let between = after_all extents writes volumes in
      let may = admitted (written V old) between before in
      subst (λ (those : VolumeMap). ShowsBy extents table (written V new) those)
      (sym (after_append extents writes (Write name at blocks ∷ []) volumes ∙ changed_if_done extents (Write name at blocks) between (sym may)))
      (write_shows extents table owners name number at blocks (written V old) (written V new) between kept found whole before may
      (staged_is_written extents owners number at blocks V old new stages all within));
}

-- Where nothing waits, no write does.
pub none_wait : (extents : ExtentLayout) (table : VolumeTable) → HoldsWrites extents table [] []
none_wait extents table = record { done = λ V volumes within shown. tt; shows = λ V volumes within shown. shown }

-- ---- what staging answers

abbrev answer_of : Bool → Staged
answer_of flag = Ok flag

abbrev failed_with : Refusal → Staged
failed_with refusal = Err refusal

-- A write that is refused at once.
pub refuses_staging : (store : StoreView) (name : List ℕ) (at : ℕ) (blocks : List Block) (waits : Given) (refusal : Refusal) → store.ended ≡ None
    → Contains (NoVolume ∷ BadCount ∷ OutOfRange ∷ []) refusal
    → ((extents : ExtentLayout) (logical : List Block) (volumes : VolumeMap) → ShowsBy extents store.keeps logical volumes
    → Some refusal ≡ refusal_of extents (Write name at blocks) volumes)
    → Stages store name at blocks waits waits (Err refusal)
refuses_staging store name at blocks waits refusal going listed decides = record {
  ended = λ other is. absurd (none_is_some (sym going ∙ is));
  refused = λ is other same. subst (λ (r : Refusal). RefusesStaging store name at blocks waits waits r) (same_error refusal other same)
      (record { same = refl; listed = listed; decides = decides });
  full = λ same. refl;
  taken = λ same. absurd (no_answer refusal true same);
  few = λ few same. no_answer refusal false same;
}
  where
    none_is_some : {r : Refusal} → None ≡ Some r → ⊥
    none_is_some is = cc

    same_error : (first second : Refusal) → failed_with first ≡ Err second → first ≡ second
    same_error first second is = cc

    no_answer : (r : Refusal) (flag : Bool) → failed_with r ≡ Ok flag → ⊥
    no_answer r flag is = cc

-- A write that waits, or that does not fit.
pub taken_as : (store : StoreView) (name : List ℕ) (at : ℕ) (blocks : List Block) (old new : Given) (flag : Bool) → store.ended ≡ None
    → (flag ≡ false → new ≡ old) → (length old + length blocks ≤ 32 → flag ≡ true)
    → (flag ≡ true → (writes : List Command) → HoldsWrites (extents_for_store store) store.keeps writes old
    → HoldsWrites (extents_for_store store) store.keeps (writes ++ Write name at blocks ∷ []) new)
    → Stages store name at blocks old new (Ok flag)
taken_as store name at blocks old new flag going kept few taken = record {
  ended = λ refusal is. absurd (none_is_some (sym going ∙ is));
  refused = λ is refusal same. absurd (no_error flag refusal same);
  full = λ same. kept (same_flag flag false same);
  taken = λ same. taken (same_flag flag true same);
  few = λ less same. false≢true (sym (same_flag flag false same) ∙ few less);
}
  where
    none_is_some : {r : Refusal} → None ≡ Some r → ⊥
    none_is_some is = cc

    same_flag : (first second : Bool) → answer_of first ≡ Ok second → first ≡ second
    same_flag first second is = cc

    no_error : (flag : Bool) (r : Refusal) → answer_of flag ≡ Err r → ⊥
    no_error flag r is = cc

-- ---- a commit

-- a slot keeps its incarnation
incarnation_left : (old new : ArrayView) → (new.table ≡ old.table) ⊎ HasLostOne old new → (slot : ℕ)
    → incarnation_at new.table.incarnations slot ≡ incarnation_at old.table.incarnations slot
incarnation_left old new (inl same) slot = ap (λ (t : Table). incarnation_at t.incarnations slot) same
incarnation_left old new (inr lost) slot = incarnation_stays old.table new.table lost.slot lost.marked slot

abbrev answered_ok : Answer
answered_ok = Ok tt

differ : (refusal : Refusal) → answered_ok ≡ Err refusal → ⊥
differ refusal same = cc

abbrev refused_as : Refusal → Answer
refused_as refusal = Err refusal

one_refusal : (first second : Refusal) → refused_as first ≡ Err second → first ≡ second
one_refusal first second is = cc

module _ (honest : Type 0) (writes : List Command) (passes leaves : Change) (old new : StoreView)
    (all_done : (lost : Option Lost) (volumes : VolumeMap) → IsSettledOn old lost volumes → AreDone (extents_for_store old) writes volumes)
    (on_the_way : ShowsEither old (after_all (extents_for_store old) writes) passes)
    (left : (V W : List Block) (volumes : VolumeMap) → ShowsBy (extents_for_store old) old.keeps V volumes → leaves V W
    → ShowsBy (extents_for_store old) new.keeps W (after_all (extents_for_store old) writes volumes))
    (keeps : new.keeps ≡ old.keeps) where
  -- All of its calls were answered.
  pub writes_done : new.ended ≡ None → ChangesList honest 1 passes leaves old.array new.array (Ok tt) → CommitsWrites honest writes old new (Ok tt)
  writes_done going changes = record {
    goes_on = changes.goes_on;
    generation = generation_left old.array new.array changes.stays.table;
    incarnations = incarnation_left old.array new.array changes.stays.table;
    spared = λ slot of_set in_sync. slot_spared old.array new.array slot (stays_or_fails old.array new.array changes.stays.table slot) in_sync;
    set_left = λ answered command. set_is_left honest command old new Done ⊥ changes.goes_on changes.stays (λ e. e);
    ends = λ refusal is. absurd (differ refusal is);
    goes = λ answered. going;
    keeps = keeps;
    done = all_done;
    moments = moments honest 1 passes leaves old new (Ok tt) (after_all (extents_for_store old) writes) changes on_the_way;
    settled = λ fair answered. settled_then honest 1 passes leaves old new (after_all (extents_for_store old) writes) going changes left fair;
  }

  -- One ended with 15 or 16, and the store with it.
  pub writes_ended : (refusal : Refusal) → new.ended ≡ Some refusal → ChangesList honest 1 passes leaves old.array new.array (Err refusal)
      → IsEndOf old.array new.array (GREATEST_COUNT ≤ old.array.number) refusal → CommitsWrites honest writes old new (Err refusal)
  writes_ended refusal ended changes cause = record {
    goes_on = changes.goes_on;
    generation = generation_left old.array new.array changes.stays.table;
    incarnations = incarnation_left old.array new.array changes.stays.table;
    spared = λ slot of_set in_sync. slot_spared old.array new.array slot (stays_or_fails old.array new.array changes.stays.table slot) in_sync;
    set_left = λ answered. absurd (differ refusal (sym answered));
    ends = λ other is. subst (λ (r : Refusal). (new.ended ≡ Some r) × IsEndOf old.array new.array (GREATEST_COUNT ≤ old.array.number) r)
        (one_refusal refusal other is) (ended, cause);
    goes = λ answered. absurd (differ refusal (sym answered));
    keeps = keeps;
    done = all_done;
    moments = moments honest 1 passes leaves old new (Err refusal) (after_all (extents_for_store old) writes) changes on_the_way;
    settled = λ fair answered. absurd (differ refusal (sym answered));
  }

-- what waits is done
held_done : (writes : List Command) (sectors : Given) (old : StoreView) → HoldsWrites (extents_for_store old) old.keeps writes sectors
    → ((lost : Option Lost) (V : List Block) → RestsOn old.array lost V → LieWithin V sectors)
    → (lost : Option Lost) (volumes : VolumeMap) → IsSettledOn old lost volumes → AreDone (extents_for_store old) writes volumes
held_done writes sectors old holds fits lost volumes settled =
    holds.done settled.logical volumes (fits lost settled.logical settled.rests) (shown_by old lost volumes settled)

-- the list with the sectors written, where they lie within it
abbrev Leaves : Given → Change
Leaves sectors V W = LieWithin V sectors × (W ≡ written V sectors)

-- A commit of the sectors that wait does the writes that they hold.
pub staged_committed : (honest : Type 0) (writes : List Command) (sectors : Given) (old new : StoreView) (result : Answer)
    → HoldsWrites (extents_for_store old) old.keeps writes sectors
    → AreOfSet old.array.table.geometry sectors → new.keeps ≡ old.keeps → (result ≡ Ok tt → new.ended ≡ None)
    → ((refusal : Refusal) → result ≡ Err refusal → new.ended ≡ Some refusal)
    → Commits honest sectors old.array new.array result → CommitsWrites honest writes old new result
staged_committed honest writes sectors old new result holds of_set keeps goes ends commits = by_result result refl
  where
    fits : (lost : Option Lost) (V : List Block) → RestsOn old.array lost V → LieWithin V sectors
    fits lost V rests k within = omega (arith, of_set k within, rests_long old.array lost V rests)

    changes : ChangesList honest 1 (IsSameOr (Leaves sectors)) (Leaves sectors) old.array new.array result
    changes = changes_more honest 1 1 (IsSameOr (λ V W. W ≡ written V sectors)) (λ V W. W ≡ written V sectors) (IsSameOr (Leaves sectors)) (Leaves sectors)
        old.array new.array result
        (omega arith) (changes_commit honest sectors old.array new.array result commits)
        (λ lost V W rests passes. elim passes [
          | inl same ↦ inl same
          | inr is ↦ inr (fits lost V rests, is)
        ])
        (λ lost V W rests is. (fits lost V rests, is))

    shows : (V W : List Block) (volumes : VolumeMap) → ShowsBy (extents_for_store old) old.keeps V volumes → Leaves sectors V W
        → ShowsBy (extents_for_store old) old.keeps W (after_all (extents_for_store old) writes volumes)
    shows V W volumes shown (within, is) = subst (λ (l : List Block). ShowsBy (extents_for_store old) old.keeps l
        (after_all (extents_for_store old) writes volumes))
        (sym is) (holds.shows V volumes within shown)

    on_the_way : ShowsEither old (after_all (extents_for_store old) writes) (IsSameOr (Leaves sectors))
    on_the_way V W volumes shown (inl same) = inl (subst (λ (l : List Block). Shows (extents_for_store old) l volumes) (sym same) shown.shows)
    on_the_way V W volumes shown (inr is) = inr (shows V W volumes shown is).shows

    left : (V W : List Block) (volumes : VolumeMap) → ShowsBy (extents_for_store old) old.keeps V volumes → Leaves sectors V W
        → ShowsBy (extents_for_store old) new.keeps W (after_all (extents_for_store old) writes volumes)
    left V W volumes shown is = subst (λ (t : VolumeTable). ShowsBy (extents_for_store old) t W (after_all (extents_for_store old) writes volumes)) (sym keeps)
        (shows V W volumes shown is)

    by_result : (answer : Answer) → result ≡ answer → CommitsWrites honest writes old new answer
    by_result (Ok unit) is = writes_done honest writes (IsSameOr (Leaves sectors)) (Leaves sectors) old new (held_done writes sectors old holds fits) on_the_way
        left keeps (goes is)
        (subst (λ (a : Answer). ChangesList honest 1 (IsSameOr (Leaves sectors)) (Leaves sectors) old.array new.array a) is changes)
    by_result (Err refusal) is = writes_ended honest writes (IsSameOr (Leaves sectors)) (Leaves sectors) old new (held_done writes sectors old holds fits)
        on_the_way left keeps refusal (ends refusal is)
        (subst (λ (a : Answer). ChangesList honest 1 (IsSameOr (Leaves sectors)) (Leaves sectors) old.array new.array a) is changes) (commits.cause refusal is)

-- Where nothing waits, nothing is done.
pub none_committed : (honest : Type 0) (writes : List Command) (store : StoreView) → store.ended ≡ None
    → HoldsWrites (extents_for_store store) store.keeps writes [] → CommitsWrites honest writes store store (Ok tt)
none_committed honest writes store going holds =
    writes_done honest writes IsSame IsSame store store
    (held_done writes [] store holds (λ lost V rests k within. absurd (omega (arith, within))))
    (λ V W volumes shown same. inl (subst (λ (l : List Block). Shows (extents_for_store store) l volumes) (sym same) shown.shows))
    (λ V W volumes shown same. subst (λ (l : List Block). ShowsBy (extents_for_store store) store.keeps l (after_all (extents_for_store store) writes volumes))
    (sym same) (holds.shows V volumes (λ k within. absurd (omega (arith, within))) shown))
    refl going (changes_none honest 1 IsSame IsSame store.array (λ V. refl) (λ V. refl))

-- of a store that no refusal ended
pub not_ended_yet : (honest : Type 0) (writes : List Command) (old new : StoreView) (answer : Answer) → old.ended ≡ None
    → CommitsWrites honest writes old new answer → CommitsStaged honest writes old new answer
not_ended_yet honest writes old new answer going commits = record {
  ended = λ refusal is. absurd (none_is_some (sym going ∙ is));
  going = λ is. commits;
}
  where
    none_is_some : {r : Refusal} → None ≡ Some r → ⊥
    none_is_some is = cc
