-- What rows of calls of an array do to its logical list: none, one call, and two rows of them.
use Rattle.std.proofs.Common.{◌≡◌, ◌⊎◌, inl, inr, ℕ, ◌+◌, ◌<◌, ◌≤◌, ◌||◌, Bool, true, false, List, [], ◌∷◌, length, Contains, Option, Some, None, Ok, Err, refl}
use Rattle.std.proofs.Common.{sym, ◌∙◌, ap, subst, arith}
use Rattle.std.proofs.lemmas.Bool.{cases_eq}
use Rattle.std.proofs.lemmas.List.Elements.{Contains-append_cases, Contains-push_cases}
use Rattle.sector_model.specs.declared.event.Event.{Event}
use Rattle.sector_model.specs.declared.event.Event.TheVariants.{DeviceFailed, Flushed, Lost as Fault, Quiet, Wrote}
use Rattle.sector_model.specs.declared.refusal.Refusal.{Refusal}
use Rattle.sector_model.specs.declared.refusal.Refusal.TheVariants.{TwoLost, Worn}
use Rattle.sector_model.specs.Bank.{IsTrueTo}
use Rattle.sector_model.specs.History.{After, Bytes, History, is_down}
use Rattle.sector_model.specs.Moments.{Throughout, here, then_also}
use Rattle.sector_model.specs.Readable.{readable}
use Rattle.sector_model.proofs.Panels.{later_same}
use Rattle.sector_model.proofs.Steps.{throughout_last, throughout_more, throughout_on}
use Rattle.layout_map.specs.declared.geometry.Geometry.{Geometry}
use Rattle.layout_map.specs.Placement.{data_sectors_of}
use Rattle.superblock.specs.declared.state.State.TheVariants.{InSync, Missing}
use Rattle.superblock.specs.declared.table.Table.{Table}
use Rattle.superblock.specs.Tables.{state_at}
use Rattle.superblock.specs.Cases.{Case, IsLostAfter, Lost}
use Rattle.superblock.specs.Losses.{IsLostAt}
use Rattle.superblock.specs.NextTables.{IsNotOlder, IsOut, slots_of}
use Rattle.superblock.proofs.LaterTables.{not_older_both, not_older_same}
use Rattle.superblock.proofs.Losing.{lost_after_is_one}
use Rattle.array_io.specs.Believed.ArrayCalls.{Answer, Commits, Reads, written}
use Rattle.array_io.specs.Believed.Holds.{Holds}
use Rattle.array_io.specs.Believed.Moments.{HoldsNow}
use Rattle.array_io.specs.Believed.Settled.{IsLostSlot, rows_by}
use Rattle.array_io.specs.Believed.Views.{ArrayView, EndsIt, DeviceFailed as HasOneFailed, GoesOn, HasEnded, HasLostOne, IsEndOf, IsWorn, RestsOn}
use Rattle.array_io.specs.Believed.Views.{StaysButForFailures}
use Rattle.array_io.proofs.Laws.Beginning.{holds_at_rest, lost_at_rest, state_in_sync}
use Rattle.array_io.proofs.Calls.CallSteps.{goes_on_both, one_more, stays_both}
use Rattle.array_io.proofs.Images.Codecs.{spellings}
use Rattle.array_io.proofs.Commits.FormedRows.{length-logical_list}
use Rattle.array_io.proofs.Instances.{complete_at_rest}
use Rattle.array_io.specs.Steps.CallSteps.{StaysDown}
use Rattle.array_io.proofs.Marks.MarkedWhole.{alone}
use Rattle.array_io.proofs.Marks.MarkingHolds.{missing_then}
use Rattle.array_io.proofs.Marks.MarkingMoments.{throughout_both}
use Rattle.volume_table.specs.ListChanges.{Change, ChangesList, HoldsForSome, HoldsForSomeNow, IsNumberFull, IsSame, IsSameOr, Kind, RestsOnSome}
use Rattle.sector_model.specs.declared.calls.TheConstants.{GREATEST_COUNT}

differ : true ≡ false → ⊥
differ is = cc

-- the only list of one, and each of two

one_of : (only logical : List Bytes) → Contains (only ∷ []) logical → logical ≡ only
one_of only logical among = elim (Contains-push_cases [] only logical among) [
  | inl (k, below, is) ↦ absurd (omega (arith, below))
  | inr same ↦ sym same
]

one_of_two : (first second logical : List Bytes) → Contains (first ∷ second ∷ []) logical → (logical ≡ first) ⊎ (logical ≡ second)
one_of_two first second logical among = elim (Contains-append_cases (first ∷ []) (second ∷ []) logical among) [
  | inl front ↦ inl (one_of first logical front)
  | inr beyond ↦ inr (one_of second logical beyond)
]

-- what holds for a list of lists holds for some of each kind that they have
for_some : (base : Table) (devices : ℕ) (before : Option Lost) (lists : List (List Bytes)) (kind : Kind) (h : History)
    → ((logical : List Bytes) → Contains lists logical → kind logical) → HoldsNow base devices before lists h → HoldsForSomeNow base devices before kind h
for_some base devices before lists kind h each now after image lost_at may = record { lists = lists; holds = now after image lost_at may; each = each }

-- why a row of calls ended, by what came before it

worn_before : (old mid new : ArrayView) → new.table.generation ≤ old.table.generation + 1 → IsWorn mid new → IsWorn old new
worn_before old mid new near (inl calls) = inl calls
worn_before old mid new near (inr (before, worn)) = inr (omega (arith, worn, near), worn)

ends_so : (old mid new : ArrayView) (counter counter' : Type 0) → (IsWorn mid new → IsWorn old new) → (counter → counter') → (refusal : Refusal)
    → IsEndOf mid new counter refusal → IsEndOf old new counter' refusal
ends_so old mid new counter counter' worn more TwoLost end = end
ends_so old mid new counter counter' worn more Worn (inl is) = inl (worn is)
ends_so old mid new counter counter' worn more Worn (inr full) = inr (more full)
ends_so old mid new counter counter' worn more refusal end = absurd end

-- which slot is lost

-- of a settled array the slot that was lost is the one that its table lacks
out_at_rest : (table : Table) (lost : Lost) → lost.slot < slots_of table → IsLostSlot table (Some lost) → IsOut table lost.slot
out_at_rest table lost of_set is = elim (state_in_sync (state_at table.states lost.slot)) [
  | inr out ↦ record { of_set = of_set; out = out }
  | inl in_sync ↦ absurd (some_is_none (is.none record {
    in_sync = λ slot below. elim (state_in_sync (state_at table.states slot)) [
      | inl there ↦ there
      | inr out ↦ subst (λ (k : ℕ). state_at table.states k ≡ InSync) (is.out slot record { of_set = below; out = out }).0 in_sync
    ];
  }))
]
  where
    some_is_none : Some lost ≡ None → ⊥
    some_is_none is = cc

pub still_lost : (array : ArrayView) (lost : Option Lost) (V : List Bytes) → RestsOn array lost V → IsLostAfter lost array.table lost
still_lost array None V rests = inl (complete_at_rest array.table rests.lost_slot, refl)
still_lost array (Some lost) V rests =
    inr (
      out_at_rest array.table lost (lost_at_rest spellings array.panel.devices array.table array.number array.history (Some lost) V rests).0 rests.lost_slot,
      refl,
    )

-- none was lost before, and one failed, with nothing away
pub record HasFailedSince (slots : ℕ) (before : Option Lost) (h : History) (after : Option Lost) : Type 0 where
  pub slot : ℕ
  pub of_set : slot < slots
  pub none : before ≡ None
  pub down : is_down h slot ≡ true
  pub lost : after ≡ Some (alone slot)

-- what is lost after some calls: what was lost before, or what failed since
abbrev pub IsLostSince : (slots : ℕ) (before : Option Lost) → History → (after : Option Lost) → Type 0
IsLostSince slots before h after = (after ≡ before) ⊎ HasFailedSince slots before h after

missing_differs : Missing ≡ InSync → ⊥
missing_differs is = cc

-- where a slot was marked missing
lost_by_failure : (old mid : ArrayView) → HasLostOne old mid → IsTrueTo mid.panel mid.history → (before after : Option Lost)
    → IsLostAfter before mid.table after
    → IsLostSince (slots_of old.table) before mid.history after
lost_by_failure old mid failure true_to before after is = by_lost before after is
  where
    same_set : slots_of mid.table ≡ slots_of old.table
    same_set = ap (λ (g : Geometry). g.members + 2) failure.marked.same_geometry

    of_mid : failure.slot < slots_of mid.table
    of_mid = subst (λ (n : ℕ). failure.slot < n) (sym same_set) failure.of_set

    not_in_sync : state_at mid.table.states failure.slot ≡ InSync → ⊥
    not_in_sync in_sync = missing_differs (sym (missing_then old.table mid.table failure.slot failure.marked failure.of_set) ∙ in_sync)

    by_lost : (before after : Option Lost) → IsLostAfter before mid.table after → IsLostSince (slots_of old.table) before mid.history after
    by_lost before after (inl (complete, none)) = absurd (not_in_sync (complete.in_sync failure.slot of_mid))
    by_lost (Some lost) after (inr (out, same)) = inl same
    by_lost None after (inr (slot, out, same)) = inr record {
      slot = failure.slot;
      of_set = failure.of_set;
      none = refl;
      down = sym (true_to.down failure.slot) ∙ failure.is_down;
      lost = same ∙ ap (λ (k : ℕ). Some (alone k)) (mid.table.allowed.one_out slot failure.slot out.of_set of_mid out.out not_in_sync);
    }

-- what is lost after a row of calls that was answered
lost_since : (honest : Type 0) (old mid : ArrayView) (lost after : Option Lost) (V : List Bytes) → RestsOn old lost V → StaysButForFailures honest old mid ⊥
    → IsTrueTo mid.panel mid.history
    → IsLostAfter lost mid.table after → IsLostSince (slots_of old.table) lost mid.history after
lost_since honest old mid lost after V rests stays true_to is = elim stays.table [
  | inl same ↦ inl (lost_after_is_one lost old.table after lost (subst (λ (t : Table). IsLostAfter lost t after) same is) (still_lost old lost V rests))
  | inr failure ↦ lost_by_failure old mid failure true_to lost after is
]

-- a slot whose device is down is the lost one, where none was lost
failed_at : (slots slot : ℕ) (h : History) (after : Option Lost) → slot < slots → is_down h slot ≡ true → IsLostAt slots None h after
    → IsLostAt slots (Some (alone slot)) h after
failed_at slots slot h after of_set down (inl (none, up)) = absurd (differ (sym down ∙ up slot of_set))
failed_at slots slot h after of_set down (inr failure) = elim (cases_eq slot failure.slot) [
  | inr apart ↦ absurd (differ (sym down ∙ failure.others slot of_set apart))
  | inl same ↦ (
    of_set,
    failure.lost ∙ ap (λ (k : ℕ). Some (alone k)) (sym same),
    λ other within apart. failure.others other within (λ is. apart (is ∙ sym same)),
  )
]

-- what is lost at a later moment, by what was lost at the first
pub lost_at_later : (slots : ℕ) (lost between after : Option Lost) (mid h : History) → IsLostSince slots lost mid between → StaysDown mid h
    → IsLostAt slots lost h after
    → IsLostAt slots between h after
lost_at_later slots lost between after mid h (inl same) stays lost_at = subst (λ (l : Option Lost). IsLostAt slots l h after) (sym same) lost_at
lost_at_later slots lost between after mid h (inr failure) stays lost_at =
    subst (λ (l : Option Lost). IsLostAt slots l h after) (sym failure.lost)
    (failed_at slots failure.slot h after failure.of_set (stays failure.slot failure.down)
    (subst (λ (l : Option Lost). IsLostAt slots l h after) failure.none lost_at))

-- and what is lost after the second row of calls, by what was lost before the first
lost_after_later : (slots : ℕ) (table : Table) (lost between after : Option Lost) (mid : History) → IsLostSince slots lost mid between
    → IsLostAfter between table after
    → IsLostAfter lost table after
lost_after_later slots table lost between after mid (inl same) is = subst (λ (l : Option Lost). IsLostAfter l table after) same is
lost_after_later slots table lost between after mid (inr failure) is =
    subst (λ (l : Option Lost). IsLostAfter l table after) (sym failure.none)
    (by_failure (subst (λ (l : Option Lost). IsLostAfter l table after) failure.lost is))
  where
    by_failure : IsLostAfter (Some (alone failure.slot)) table after → IsLostAfter None table after
    by_failure (inl complete) = inl complete
    by_failure (inr (out, same)) = inr (failure.slot, out, same)

-- what is down stays down

or_true : (a b : Bool) → b ≡ true → (a || b) ≡ true
or_true true b is = refl
or_true false b is = is

down_then : (event : Event) (h : History) (device : ℕ) → is_down h device ≡ true → is_down (After event h) device ≡ true
down_then Quiet h device is = is
down_then (Wrote other at value) h device is = is
down_then (Fault other at value) h device is = or_true _ (is_down h device) is
down_then (Flushed other) h device is = is
down_then (DeviceFailed other) h device is = or_true _ (is_down h device) is

pub stays_down : {P : History → Type 0} {old : History} (new : History) → Throughout P old new → Throughout (StaysDown old) old new
stays_down new (here is) = here (λ device down. down)
stays_down new (then_also event h so_far is) =
    let before = stays_down h so_far in
    then_also event h before (λ device down. down_then event h device (throughout_last h before device down))

-- moments by a later table, and by what was lost then

holds_before : (base later : Table) (devices devices' : ℕ) (case : Case) (X : List (List Bytes)) → devices' ≡ devices → IsNotOlder base later
    → Holds later devices' case X
    → Holds base devices case X
holds_before base later devices devices' case X same older holds = subst (λ (d : ℕ). Holds base d case X) same record {
  table = holds.table;
  not_older = not_older_both base later holds.table older holds.not_older;
  lost_in_set = holds.lost_in_set;
  whole = holds.whole;
  weakened = holds.weakened;
  one_counts = holds.one_counts;
}

for_some_before : (old mid : ArrayView) (lost between : Option Lost) (kind kind' : Kind) (h : History) → GoesOn old mid
    → IsLostSince (slots_of old.table) lost mid.history between
    → ((logical : List Bytes) → kind' logical → kind logical) → StaysDown mid.history h → HoldsForSomeNow mid.table mid.panel.devices between kind' h
    → HoldsForSomeNow old.table old.panel.devices lost kind h
for_some_before old mid lost between kind kind' h goes since more stays now after image lost_at may = record {
  lists = some.lists;
  holds = holds_before old.table mid.table old.panel.devices mid.panel.devices record { image = image; lost = after } some.lists goes.later.devices
      goes.not_older some.holds;
  each = λ logical among. more logical (some.each logical among);
}
  where
    some : HoldsForSome mid.table mid.panel.devices record { image = image; lost = after } kind'
    some = now after image
        (subst (λ (g : Geometry). IsLostAt (g.members + 2) between h after) (sym goes.not_older.same_geometry)
        (lost_at_later (slots_of old.table) lost between after mid.history h since stays lost_at))
        may

moments_before : (old mid : ArrayView) (lost between : Option Lost) (kind kind' : Kind) (new : History) → GoesOn old mid
    → IsLostSince (slots_of old.table) lost mid.history between
    → ((logical : List Bytes) → kind' logical → kind logical) → Throughout (HoldsForSomeNow mid.table mid.panel.devices between kind') mid.history new
    → Throughout (HoldsForSomeNow old.table old.panel.devices lost kind) mid.history new
moments_before old mid lost between kind kind' new goes since more moments =
    throughout_more (λ h both. for_some_before old mid lost between kind kind' h goes since more both.0 both.1) new
    (throughout_both new (stays_down new moments) moments)

for_some_more : (base : Table) (devices : ℕ) (before : Option Lost) (kind kind' : Kind) → ((logical : List Bytes) → kind' logical → kind logical)
    → (old new : History)
    → Throughout (HoldsForSomeNow base devices before kind') old new → Throughout (HoldsForSomeNow base devices before kind) old new
for_some_more base devices before kind kind' more old new moments = throughout_more (λ h now after image lost_at may.
    let some : HoldsForSome base devices record { image = image; lost = after } kind' = now after image lost_at may in
    record { lists = some.lists; holds = some.holds; each = λ logical among. more logical (some.each logical among) }) new moments

-- two rows of calls, the second from where the first left the array

module _ (honest still : Type 0) (goes_honest : honest → still) (first second : ℕ) (passes1 leaves1 passes2 leaves2 passes leaves : Change)
    (old mid new : ArrayView) (answer : Answer)
    (true_to : honest → IsTrueTo mid.panel mid.history) (one : ChangesList honest first passes1 leaves1 old mid (Ok tt))
    (two : ChangesList still second passes2 leaves2 mid new answer) where
  both_stay : StaysButForFailures honest old new (HasEnded answer)
  both_stay = stays_both honest old mid new (HasEnded answer) one.goes_on two.goes_on one.stays
      record { table = two.stays.table; failure = λ is. two.stays.failure (goes_honest is) }

  lost_between : (is : honest) (lost : Option Lost) (V : List Bytes) (rests : RestsOn old lost V)
      → IsLostSince (slots_of old.table) lost mid.history (one.rests is refl lost V rests).rests.lost
  lost_between is lost V rests =
      let after = (one.rests is refl lost V rests).rests in
      lost_since honest old mid lost after.lost V rests one.stays (true_to is) after.is_lost

  moments_both : ((V W : List Bytes) → passes1 V W → passes V W) → ((V U W : List Bytes) → leaves1 V U → passes2 U W → passes V W) → honest
      → (lost : Option Lost) (V : List Bytes) → RestsOn old lost V
      → Throughout (HoldsForSomeNow old.table old.panel.devices lost (passes V)) old.history new.history
  moments_both more then_more is lost V rests =
      let half = one.rests is refl lost V rests in
      throughout_on mid.history
      (for_some_more old.table old.panel.devices lost (passes V) (passes1 V) (more V) old.history mid.history (one.moments is lost V rests))
      new.history
      (moments_before old mid lost half.rests.lost (passes V) (passes2 half.logical) new.history one.goes_on (lost_between is lost V rests)
      (λ W. then_more V half.logical W half.is)
      (two.moments (goes_honest is) half.rests.lost half.logical half.rests.rests))

  rests_both : ((V U W : List Bytes) → leaves1 V U → leaves2 U W → leaves V W) → honest → answer ≡ Ok tt → (lost : Option Lost) (V : List Bytes)
      → RestsOn old lost V → RestsOnSome lost new (leaves V)
  rests_both leave is ok lost V rests =
      let half = one.rests is refl lost V rests in
      let whole = two.rests (goes_honest is) ok half.rests.lost half.logical half.rests.rests in
      record {
        logical = whole.logical;
        is = leave V half.logical whole.logical half.is whole.is;
        rests = record {
          lost = whole.rests.lost;
          is_lost = lost_after_later (slots_of old.table) new.table lost half.rests.lost whole.rests.lost mid.history (lost_between is lost V rests)
              whole.rests.is_lost;
          rests = whole.rests.rests;
        };
      }

  number_both : IsNumberFull second mid new → IsNumberFull (first + second) old new
  number_both (before, full) = (omega (arith, before, one.number refl), full)

  cause_both : (refusal : Refusal) → answer ≡ Err refusal → IsEndOf old new (IsNumberFull (first + second) old new) refusal
  cause_both refusal is = ends_so old mid new (IsNumberFull second mid new) (IsNumberFull (first + second) old new)
      (worn_before old mid new (one_more honest old new (HasEnded answer) both_stay)) number_both refusal (two.cause refusal is)

-- Two rows of calls are one: from each list that the first may leave the second goes on; what is honest at the start is so between them.
pub changes_both : (honest still : Type 0) → (honest → still)
    → (first second : ℕ) (passes1 leaves1 passes2 leaves2 passes leaves : Change) (old mid new : ArrayView) (answer : Answer)
    → (honest → IsTrueTo mid.panel mid.history) → ChangesList honest first passes1 leaves1 old mid (Ok tt)
    → ChangesList still second passes2 leaves2 mid new answer
    → ((V W : List Bytes) → passes1 V W → passes V W) → ((V U W : List Bytes) → leaves1 V U → passes2 U W → passes V W)
    → ((V U W : List Bytes) → leaves1 V U → leaves2 U W → leaves V W)
    → ChangesList honest (first + second) passes leaves old new answer
changes_both honest still goes_honest first second passes1 leaves1 passes2 leaves2 passes leaves old mid new answer true_to one two more then_more leave =
    record {
      goes_on = goes_on_both old mid new one.goes_on two.goes_on;
      stays = both_stay honest still goes_honest first second passes1 leaves1 passes2 leaves2 passes leaves old mid new answer true_to one two;
      number = λ ok. omega (arith, one.number refl, two.number ok);
      moments = moments_both honest still goes_honest first second passes1 leaves1 passes2 leaves2 passes leaves old mid new answer true_to one two more
          then_more;
      rests = rests_both honest still goes_honest first second passes1 leaves1 passes2 leaves2 passes leaves old mid new answer true_to one two leave;
      cause = cause_both honest still goes_honest first second passes1 leaves1 passes2 leaves2 passes leaves old mid new answer true_to one two;
    }

-- no call

pub changes_none : (honest : Type 0) (entries : ℕ) (passes leaves : Change) (array : ArrayView) → ((V : List Bytes) → passes V V)
    → ((V : List Bytes) → leaves V V)
    → ChangesList honest entries passes leaves array array (Ok tt)
changes_none honest entries passes leaves array pass leave = record {
  goes_on = record { later = later_same array.panel; not_older = not_older_same array.table; number = omega arith; its_slots = λ slots. slots };
  stays = record { table = inl refl; failure = λ is goes slot of_set failed. absurd (none_failed slot failed) };
  number = λ ok. omega arith;
  moments = λ is lost V rests. here (for_some array.table array.panel.devices lost (V ∷ []) (passes V) array.history
      (λ logical among. subst (passes V) (sym (one_of V logical among)) (pass V))
      (holds_at_rest array.panel.devices array.table array.number array.history lost V rests));
  rests = λ is ok lost V rests. record { logical = V; is = leave V; rests = record { lost = lost; is_lost = still_lost array lost V rests; rests = rests } };
  cause = λ refusal is. absurd (cc);
}
  where
    none_failed : (slot : ℕ) → HasOneFailed slot array.panel array.panel → ⊥
    none_failed slot failed = differ (sym failed.is_down ∙ failed.was_up)

-- one call

same_worn : (old new : ArrayView) → IsWorn old new → IsWorn old new
same_worn old new worn = worn

-- a commit
pub changes_commit : (honest : Type 0) (sectors : List (ℕ × Bytes)) (old new : ArrayView) (answer : Answer) → Commits honest sectors old new answer
    → ChangesList honest 1 (IsSameOr (λ V W. W ≡ written V sectors)) (λ V W. W ≡ written V sectors) old new answer
changes_commit honest sectors old new answer commits = record {
  goes_on = commits.goes_on;
  stays = commits.stays;
  number = λ ok. omega (arith, commits.number ok);
  moments = λ is lost V rests. throughout_more
      (λ h. for_some old.table old.panel.devices lost (V ∷ written V sectors ∷ []) (λ W. (W ≡ V) ⊎ (W ≡ written V sectors)) h
      (one_of_two V (written V sectors)))
      new.history (commits.moments is lost V rests);
  rests = λ is ok lost V rests. record { logical = written V sectors; is = refl; rests = commits.rests is ok lost V rests };
  cause = λ refusal is. ends_so old old new (GREATEST_COUNT ≤ old.number) (IsNumberFull 1 old new) (same_worn old new)
      (λ full. (omega (arith, full), omega (arith, full, commits.goes_on.number))) refusal (commits.cause refusal is);
}

-- what did not end was answered
not_ended : (answer : Answer) → answer ≡ Ok tt → ¬ HasEnded answer
not_ended answer ok ended = subst (λ (a : Answer). HasEnded a) ok ended

-- a read
pub changes_read : (honest : Type 0) (logical : ℕ) (old new : ArrayView) (to : Bytes) (answer : Answer) → Reads honest logical old new to answer
    → ChangesList honest 0 IsSame IsSame old new answer
changes_read honest logical old new to answer reads = record {
  goes_on = reads.goes_on;
  stays = reads.stays;
  number = λ ok. omega (arith, reads.number);
  moments = λ is lost V rests. throughout_more (λ h. for_some old.table old.panel.devices lost (V ∷ []) (IsSame V) h (one_of V)) new.history
      (reads.keeps.moments is lost V rests);
  rests = λ is ok lost V rests. record { logical = V; is = refl; rests = reads.keeps.rests is (not_ended answer ok) lost V rests };
  cause = λ refusal is. ends_so old old new ⊥ (IsNumberFull 0 old new) (same_worn old new) (λ none. absurd none) refusal (reads.cause refusal is);
}

-- what is weaker

full_more : (few many : ℕ) (old new : ArrayView) → few ≤ many → IsNumberFull few old new → IsNumberFull many old new
full_more few many old new less (before, full) = (omega (arith, less, before), full)

-- more entries and more lists, from each list on which the array is settled
pub changes_more : (honest : Type 0) (few many : ℕ) (passes leaves passes' leaves' : Change) (old new : ArrayView) (answer : Answer) → few ≤ many
    → ChangesList honest few passes leaves old new answer
    → ((lost : Option Lost) (V W : List Bytes) → RestsOn old lost V → passes V W → passes' V W)
    → ((lost : Option Lost) (V W : List Bytes) → RestsOn old lost V → leaves V W → leaves' V W)
    → ChangesList honest many passes' leaves' old new answer
changes_more honest few many passes leaves passes' leaves' old new answer less changes more leave = record {
  goes_on = changes.goes_on;
  stays = changes.stays;
  number = λ ok. omega (arith, less, changes.number ok);
  moments = λ is lost V rests. for_some_more old.table old.panel.devices lost (passes' V) (passes V) (λ W. more lost V W rests) old.history new.history
      (changes.moments is lost V rests);
  rests = λ is ok lost V rests.
      let some = changes.rests is ok lost V rests in
      record { logical = some.logical; is = leave lost V some.logical rests some.is; rests = some.rests };
  cause = λ refusal is. ends_so old old new (IsNumberFull few old new) (IsNumberFull many old new) (same_worn old new) (full_more few many old new less) refusal
      (changes.cause refusal is);
}

-- a row that was refused leaves nothing that could be said
pub changes_refused : (honest : Type 0) (few many : ℕ) (passes leaves passes' leaves' : Change) (old new : ArrayView) (refusal : Refusal) → few ≤ many
    → ChangesList honest few passes leaves old new (Err refusal) → ((V W : List Bytes) → passes V W → passes' V W)
    → ChangesList honest many passes' leaves' old new (Err refusal)
changes_refused honest few many passes leaves passes' leaves' old new refusal less changes more = record {
  goes_on = changes.goes_on;
  stays = changes.stays;
  number = λ ok. absurd (cc);
  moments = λ is lost V rests. for_some_more old.table old.panel.devices lost (passes' V) (passes V) (more V) old.history new.history
      (changes.moments is lost V rests);
  rests = λ is ok. absurd (cc);
  cause = λ why is. ends_so old old new (IsNumberFull few old new) (IsNumberFull many old new) (same_worn old new) (full_more few many old new less) why
      (changes.cause why is);
}

-- a refusal of such a row is 15 or 16

end_of : (old new : ArrayView) (counter : Type 0) (refusal : Refusal) → IsEndOf old new counter refusal → EndsIt refusal
end_of old new counter TwoLost end = tt
end_of old new counter Worn end = tt
end_of old new counter refusal end = absurd end

pub end_is : (honest : Type 0) (entries : ℕ) (passes leaves : Change) (old new : ArrayView) (refusal : Refusal)
    → ChangesList honest entries passes leaves old new (Err refusal) → EndsIt refusal
end_is honest entries passes leaves old new refusal changes = end_of old new (IsNumberFull entries old new) refusal (changes.cause refusal refl)

-- the list on which an array is settled has all its data sectors
pub rests_long : (array : ArrayView) (lost : Option Lost) (V : List Bytes) → RestsOn array lost V
    → length V ≡ data_sectors_of array.table.geometry.members array.table.geometry.chunk array.table.geometry.stripes
rests_long array lost V rests = ap length (sym rests.listed) ∙ length-logical_list array.table.geometry (rows_by array.table (readable array.history))
