-- Making blocks of a volume zero, as a part of a session: one commit after another.
use Rattle.std.proofs.Common.{◌≡◌, ◌≢◌, ◌⊎◌, inl, inr, ℕ, zero, suc, ◌+◌, ◌<◌, ◌≤◌, Bool, true, false, cond, nat_lt, List, [], ◌∷◌, ◌++◌, map, take}
use Rattle.std.proofs.Common.{get_or, Option, Some, None, Ok, Err, refl, sym, ◌∙◌, ap, ap₂, subst, subst₂, arith}
use Rattle.std.proofs.lemmas.Bool.{cases_lt, le-ltb, lt-ltb}
use Rattle.std.proofs.lemmas.List.{append_assoc, get_or-take, map-append}
use Rattle.sector_model.specs.declared.refusal.Refusal.{Refusal}
use Rattle.sector_model.specs.Bank.{IsTrueTo}
use Rattle.sector_model.specs.History.{After, Began, History, MayLeave, calls_of, cut_at}
use Rattle.sector_model.specs.Moments.{Throughout, here, then_also}
use Rattle.sector_model.proofs.Steps.{throughout_cut, throughout_last, throughout_more, throughout_on}
use Rattle.superblock.specs.declared.state.State.{State}
use Rattle.superblock.specs.declared.state.State.TheVariants.{InSync, Missing}
use Rattle.superblock.specs.Cases.{IsLostAfter, Lost}
use Rattle.superblock.specs.Losses.{IsLostAt, IsSingleFailure}
use Rattle.superblock.specs.NextTables.{IsOut, slots_of}
use Rattle.superblock.specs.Tables.{state_at}
use Rattle.superblock.proofs.Losing.{lost_after_is_one}
use Rattle.array_io.specs.Believed.ArrayCalls.{Answer}
use Rattle.array_io.specs.Believed.DeviceRules.{Replaced}
use Rattle.array_io.specs.Believed.Views.{ArrayView, GoesOn}
use Rattle.array_io.proofs.Calls.CallSteps.{goes_on_both}
use Rattle.array_io.proofs.Calls.DeviceSteps.{single_failure_before}
use Rattle.array_io.proofs.Instances.{complete_at_rest}
use Rattle.array_io.proofs.Marks.MarkedWhole.{alone}
use Rattle.volume_table.specs.ListChanges.{IsSame}
use Rattle.volume_table.specs.Runs.{AreCommitted, Crashes, Does, Fate, GoesOver, Serving, World, none_done, replaced_by, then_committed, then_done}
use Rattle.volume_table.specs.SetReplies.{with_faults}
use Rattle.volume_table.specs.Staging.{CommitsStaged, CommitsWrites, after_all}
use Rattle.volume_table.specs.Stands.{IsSettledAfter, IsSettledOn, StoreView}
use Rattle.volume_table.specs.StoreCalls.{extents_for_store}
use Rattle.volume_table.specs.Volumes.{VolumeMap}
use Rattle.volume_table.specs.VolumeStep.{Command, Done, Event, Names, OnVolumes, Reply}
use Rattle.volume_table.specs.Zeroing.{AreCommittedInTurn, AreZeroWrites, EndsCommitting, ZeroesBlocks}
use Rattle.volume_table.specs.Zeroing.{commit_then, no_write, none_committed, then_write}
use Rattle.volume_table.specs.ZeroingLaw.{AreZeroed, DoesZeros, EndsInZeros}
use Rattle.volume_table.proofs.ListChanges.{IsLostSince, changes_none, lost_at_later, stays_down, still_lost}

-- ---- a slot that is out stays out

missing_differs : Missing ≡ InSync → ⊥
missing_differs is = cc

-- faults bring no slot back
with_faults_out : (faults : ℕ → Bool) (states : List State) (slot : ℕ) → get_or (with_faults faults states) slot Missing ≡ InSync
    → get_or states slot Missing ≡ InSync
with_faults_out faults [] slot is = is
with_faults_out faults (state ∷ states) zero is = by_fault (faults 0) is
  where
    by_fault : (b : Bool) → cond b Missing state ≡ InSync → state ≡ InSync
    by_fault true is = absurd (missing_differs is)
    by_fault false is = is
with_faults_out faults (state ∷ states) (suc slot) is = with_faults_out (λ other. faults (other + 1)) states slot is

-- from one moment of a store to a later one: what the calls between keep
record GoesFurther (old new : ArrayView) : Type 0 where
  pub goes_on : GoesOn old new
  pub runs : Throughout (λ h. Unit {0}) old.history new.history
  pub stays_out : (slot : ℕ) → slot < slots_of old.table → state_at new.table.states slot ≡ InSync → state_at old.table.states slot ≡ InSync

same_set : (old new : ArrayView) → GoesOn old new → slots_of new.table ≡ slots_of old.table
same_set old new goes = ap (λ g. g.members + 2) goes.not_older.same_geometry

further_both : (old mid new : ArrayView) → GoesFurther old mid → GoesFurther mid new → GoesFurther old new
further_both old mid new first second = record {
  goes_on = goes_on_both old mid new first.goes_on second.goes_on;
  runs = throughout_on mid.history first.runs new.history second.runs;
  stays_out = λ slot of_set is. first.stays_out slot of_set (second.stays_out slot (omega (arith, of_set, same_set old mid first.goes_on)) is);
}

-- a commit that was answered
module _ (writes : List Command) (old new : StoreView) (commits : CommitsWrites (Unit {0}) writes old new (Ok tt)) where
  comes_back_not : (slot : ℕ) → slot < slots_of old.array.table → state_at new.array.table.states slot ≡ InSync
      → state_at old.array.table.states slot ≡ InSync
  comes_back_not slot of_set is =
      let set = commits.set_left refl Names in
      let of_new : slot < slots_of new.array.table = omega (arith, of_set, same_set old.array new.array commits.goes_on) in
      let left : get_or (take (slots_of new.array.table) new.array.table.states) slot Missing
      ≡ get_or (with_faults set.devices.faults (take (slots_of old.array.table) old.array.table.states)) slot Missing =
      ap (λ s. get_or s.states slot Missing) set.left in
      sym (get_or-take (slots_of old.array.table) old.array.table.states slot Missing of_set)
      ∙ with_faults_out set.devices.faults (take (slots_of old.array.table) old.array.table.states) slot
      (sym left ∙ get_or-take (slots_of new.array.table) new.array.table.states slot Missing of_new ∙ is)

  commit_further : (lost : Option Lost) (volumes : VolumeMap) → IsSettledOn old lost volumes → GoesFurther old.array new.array
  commit_further lost volumes settled = record {
    goes_on = commits.goes_on;
    runs = throughout_more (λ h stands. tt) new.array.history (commits.moments tt lost volumes settled);
    stays_out = comes_back_not;
  }

  -- what is lost after it is what was lost before, or what failed in it
  lost_in_commit : (lost after : Option Lost) (volumes : VolumeMap) → IsSettledOn old lost volumes → IsTrueTo new.array.panel new.array.history
      → IsLostAfter lost new.array.table after → IsLostSince (slots_of old.array.table) lost new.array.history after
  lost_in_commit None after volumes settled true_to (inl (complete, none)) = inl none
  lost_in_commit None after volumes settled true_to (inr (slot, out, same)) =
      let of_set : slot < slots_of old.array.table = omega (arith, out.of_set, same_set old.array new.array commits.goes_on) in
      let was = (complete_at_rest old.array.table settled.rests.lost_slot).in_sync slot of_set in
      elim (commits.spared slot of_set was) [
        | inl in_sync ↦ absurd (out.out in_sync)
        | inr down ↦ inr record { slot = slot; of_set = of_set; none = refl; down = sym (true_to.down slot) ∙ down; lost = same }
      ]
  lost_in_commit (Some lost) after volumes settled true_to (inl (complete, none)) =
      let was = out_before lost settled in
      absurd (was.out (comes_back_not lost.slot was.of_set (complete.in_sync lost.slot
      (omega (arith, was.of_set, same_set old.array new.array commits.goes_on)))))
    where
      out_before : (lost : Lost) → IsSettledOn old (Some lost) volumes → IsOut old.array.table lost.slot
      out_before lost settled = by_lost (still_lost old.array (Some lost) settled.logical settled.rests)
        where
          by_lost : IsLostAfter (Some lost) old.array.table (Some lost) → IsOut old.array.table lost.slot
          by_lost (inl (complete, none)) = absurd (some_is_none none)
            where
              some_is_none : Some lost ≡ None → ⊥
              some_is_none is = cc
          by_lost (inr (out, same)) = out
  lost_in_commit (Some lost) after volumes settled true_to (inr (out, same)) = inl same

-- ---- what becomes of the devices

-- what is lost between tells as much of what is replaced
replaced_since : (slots : ℕ) (lost between after : Option Lost) (h : History) → IsLostSince slots lost h between
    → replaced_by lost after ≡ replaced_by between after
replaced_since slots lost between after h (inl same) = ap (λ (l : Option Lost). replaced_by l after) (sym same)
replaced_since slots lost between after h (inr failed) =
    ap (λ (l : Option Lost). replaced_by l after) failed.none ∙ by_after after ∙ ap (λ (l : Option Lost). replaced_by l after) (sym failed.lost)
  where
    by_after : (after : Option Lost) → replaced_by None after ≡ replaced_by (Some (alone failed.slot)) after
    by_after None = refl
    by_after (Some lost) = refl

-- and nothing is replaced meanwhile
none_replaced : (slots : ℕ) (lost between : Option Lost) (h : History) → IsLostSince slots lost h between → replaced_by lost between ≡ []
none_replaced slots lost between h since = replaced_since slots lost between between h since ∙ none between
  where
    none : (l : Option Lost) → replaced_by l l ≡ []
    none None = refl
    none (Some lost) = refl

-- the slot that is lost
abbrev slot_in : Option Lost → ℕ
slot_in None = 0
slot_in (Some lost) = lost.slot

-- what the table lacks later, by what it lacked between
lost_from_between : (old mid new : ArrayView) (lost between after : Option Lost) → IsLostSince (slots_of old.table) lost mid.history between
    → GoesFurther mid new → slots_of mid.table ≡ slots_of old.table → IsLostAfter lost mid.table between → IsLostAfter lost new.table after
    → IsLostAfter between new.table after
lost_from_between old mid new lost between after (inl same) further set is_lost then =
    subst (λ (l : Option Lost). IsLostAfter l new.table after) (sym same) then
lost_from_between old mid new lost between after (inr failed) further set is_lost then =
    subst (λ (l : Option Lost). IsLostAfter l new.table after) (sym failed.lost)
    (by_then (subst (λ (l : Option Lost). IsLostAfter l new.table after) failed.none then))
  where
    of_mid : failed.slot < slots_of mid.table
    of_mid = omega (arith, failed.of_set, set)

    of_new : failed.slot < slots_of new.table
    of_new = omega (arith, of_mid, same_set mid new further.goes_on)

    by_between : IsLostAfter None mid.table (Some (alone failed.slot)) → state_at mid.table.states failed.slot ≢ InSync
    by_between (inl (complete, none)) = absurd (some_is_none none)
      where
        some_is_none : Some (alone failed.slot) ≡ None → ⊥
        some_is_none is = cc
    by_between (inr (slot, out, same)) =
        subst (λ (k : ℕ). state_at mid.table.states k ≢ InSync) (sym (one_slot failed.slot slot same)) out.out
      where
        one_slot : (first second : ℕ) → Some (alone first) ≡ Some (alone second) → first ≡ second
        one_slot first second is = ap slot_in is

    out_then : state_at new.table.states failed.slot ≢ InSync
    out_then is = by_between (subst (λ (l : Option Lost). IsLostAfter l mid.table (Some (alone failed.slot))) failed.none
        (subst (IsLostAfter lost mid.table) failed.lost is_lost)) (further.stays_out failed.slot of_mid is)

    by_then : IsLostAfter None new.table after → IsLostAfter (Some (alone failed.slot)) new.table after
    by_then (inl (complete, none)) = absurd (out_then (complete.in_sync failed.slot of_new))
    by_then (inr (slot, out, same)) =
        let one = new.table.allowed.one_out slot failed.slot out.of_set of_new out.out out_then in
        inr (record { of_set = of_new; out = out_then }, same ∙ ap (λ (k : ℕ). Some (alone k)) one)

-- the fate of the devices with another slot lost
abbrev fate_with : Fate → Option Lost → Fate
fate_with fate lost = record { lost = lost; replaced = fate.replaced }

abbrev at_store : StoreView → Fate → Serving
at_store store fate = record { store = store; fate = fate }

-- ---- one commit, and what comes later

-- the end of a run
cut_whole : (t : ℕ) (h : History) → calls_of h ≤ t → cut_at t h ≡ h
cut_whole t (Began start) past = refl
cut_whole t (After event h) past = ap (λ (b : Bool). cond b (cut_at t h) (After event h)) (le-ltb t (calls_of h + 1) past)

-- the runs up to a moment of a run
runs_to_cut : {P : History → Type 0} {old : History} (new : History) → Throughout P old new → (t : ℕ) → calls_of old ≤ t → Throughout P old (cut_at t new)
runs_to_cut {P} {old} new (here is) t least = subst (Throughout P old) (sym (cut_whole t new least)) (here is)
runs_to_cut {P} {old} new (then_also event h so_far is) t least = by_test (nat_lt t (calls_of h + 1)) (runs_to_cut h so_far t least)
  where
    by_test : (b : Bool) → Throughout P old (cut_at t h) → Throughout P old (cond b (cut_at t h) (After event h))
    by_test true before = before
    by_test false before = then_also event h so_far is

-- a moment before the end of a first part is one of it
cut_before : {P : History → Type 0} {mid : History} (new : History) → Throughout P mid new → (t : ℕ) → t ≤ calls_of mid → cut_at t new ≡ cut_at t mid
cut_before new (here is) t most = refl
cut_before {mid = mid} new (then_also event h so_far is) t most =
    ap (λ (b : Bool). cond b (cut_at t h) (After event h)) (lt-ltb t (calls_of h + 1) (omega (arith, most, calls_rise h so_far)))
    ∙ cut_before h so_far t most
  where
    calls_rise : {P : History → Type 0} {old : History} (new : History) → Throughout P old new → calls_of old ≤ calls_of new
    calls_rise new (here is) = omega arith
    calls_rise new (then_also event h so_far is) = omega (arith, calls_rise h so_far)

module _ (slots : ℕ) (writes : List Command) (old mid : StoreView) (fate : Fate) (volumes : VolumeMap) (same : slots ≡ slots_of old.array.table)
    (settled : IsSettledOn old fate.lost volumes) (commits : CommitsStaged (Unit {0}) writes old mid (Ok tt))
    (told : IsTrueTo mid.array.panel mid.array.history) where
  abbrev doing : CommitsWrites (Unit {0}) writes old mid (Ok tt)
  doing = commits.going settled.going

  abbrev after_it : IsSettledAfter fate.lost mid (after_all (extents_for_store old) writes volumes)
  after_it = doing.settled tt refl fate.lost volumes settled

  abbrev between : Option Lost
  between = after_it.lost

  further_one : GoesFurther old.array mid.array
  further_one = commit_further writes old mid doing fate.lost volumes settled

  set_stays : slots ≡ slots_of mid.array.table
  set_stays = same ∙ sym (same_set old.array mid.array further_one.goes_on)

  since : IsLostSince slots fate.lost mid.array.history between
  since = subst (λ (n : ℕ). IsLostSince n fate.lost mid.array.history between) (sym same)
      (lost_in_commit writes old mid doing fate.lost between volumes settled told after_it.is_lost)

  -- it is committed, where one slot is lost at most at a later moment
  committed : (h : History) → Throughout (λ h. Unit {0}) mid.array.history h → IsSingleFailure slots fate.lost h
      → AreCommitted slots writes (at_store old fate) (at_store mid (fate_with fate between))
  committed h runs single = record {
    commits = commits;
    goes_over = record {
      single_failure = single_failure_before slots fate.lost mid.array.history h (stays_down h runs) single;
      lost = after_it.is_lost;
      replaced = ap (λ (r : List Replaced). r ++ fate.replaced) (sym (none_replaced slots fate.lost between mid.array.history since));
    };
  }

  -- what goes over from its begin to a later return goes over from its end
  over_then : (new : StoreView) (then : Fate) → GoesFurther mid.array new.array
      → GoesOver slots fate.lost fate new.array.table new.array.history then
      → GoesOver slots between (fate_with fate between) new.array.table new.array.history then
  over_then new then further over = record {
    single_failure = (
      over.single_failure.0,
      lost_at_later slots fate.lost between over.single_failure.0 mid.array.history new.array.history since
          (throughout_last new.array.history (stays_down new.array.history further.runs)) over.single_failure.1,
    );
    lost = lost_from_between old.array mid.array new.array fate.lost between then.lost
        (subst (λ (n : ℕ). IsLostSince n fate.lost mid.array.history between) same since) further
        (same_set old.array mid.array further_one.goes_on) after_it.is_lost over.lost;
    replaced = over.replaced ∙ ap (λ (r : List Replaced). r ++ fate.replaced) (replaced_since slots fate.lost between then.lost mid.array.history since);
  }

  -- a crash after it
  crash_then : (new : History) (left : World) → Throughout (λ h. Unit {0}) mid.array.history new
      → (crash : Crashes slots fate.lost fate old.array.history new left) → calls_of mid.array.history ≤ crash.t
      → Crashes slots between (fate_with fate between) mid.array.history new left
  crash_then new left runs crash past = record {
    t = crash.t;
    from = past;
    until = crash.until;
    lost = lost_at_later slots fate.lost between left.fate.lost mid.array.history (cut_at crash.t new) since
        (throughout_cut new (stays_down new runs) crash.t past) crash.lost;
    leaves = crash.leaves;
    replaced = crash.replaced;
  }

  -- a crash in it
  crash_in : (new : History) (left : World) → Throughout (λ h. Unit {0}) mid.array.history new
      → (crash : Crashes slots fate.lost fate old.array.history new left) → crash.t ≤ calls_of mid.array.history
      → Crashes slots fate.lost fate old.array.history mid.array.history left
  crash_in new left runs crash early =
      let cut = cut_before new runs crash.t early in
      record {
        t = crash.t;
        from = crash.from;
        until = early;
        lost = subst (λ (h : History). IsLostAt slots fate.lost h left.fate.lost) cut crash.lost;
        leaves = subst (λ (h : History). MayLeave h left.image) cut crash.leaves;
        replaced = crash.replaced;
      }

  single_at_crash : (new : History) (left : World) → Throughout (λ h. Unit {0}) mid.array.history new
      → (crash : Crashes slots fate.lost fate old.array.history new left) → calls_of mid.array.history ≤ crash.t
      → AreCommitted slots writes (at_store old fate) (at_store mid (fate_with fate between))
  single_at_crash new left runs crash past =
      committed (cut_at crash.t new) (runs_to_cut new runs crash.t past) (left.fate.lost, crash.lost)

-- ---- commits in turn

nothing_further : (array : ArrayView) → GoesFurther array array
nothing_further array = record {
  goes_on = (changes_none (Unit {0}) 0 IsSame IsSame array (λ V. refl) (λ V. refl)).goes_on;
  runs = here tt;
  stays_out = λ slot of_set is. is;
}

-- after them the store is settled
record IsSettledThen (array : ArrayView) (store : StoreView) : Type 0 where
  pub lost : Option Lost
  pub volumes : VolumeMap
  pub settled : IsSettledOn store lost volumes
  pub further : GoesFurther array store.array

chain_further : {writes : List Command} {old new : StoreView} (lost : Option Lost) (volumes : VolumeMap) → IsSettledOn old lost volumes
    → AreCommittedInTurn (Unit {0}) writes old new → IsSettledThen old.array new
chain_further {old = old} lost volumes settled none_committed =
    record { lost = lost; volumes = volumes; settled = settled; further = nothing_further old.array }
chain_further {old = old} {new = new} lost volumes settled (commit_then mid writes commits told rest) =
    let doing = commits.going settled.going in
    let then = doing.settled tt refl lost volumes settled in
    let more = chain_further then.lost (after_all (extents_for_store old) writes volumes) then.settled rest in
    record {
      lost = more.lost;
      volumes = more.volumes;
      settled = more.settled;
      further = further_both old.array mid.array new.array (commit_further writes old mid doing lost volumes settled) more.further;
    }

does_writes : (slots : ℕ) (writes : List Command) (old new : Serving) → Type 0
does_writes slots writes old new = Does slots (map OnVolumes writes) (map (λ write. Done) writes) old new

-- the writes of a commit, and then more
does_more : (slots : ℕ) (writes more : List Command) (old mid new : Serving) → AreCommitted slots writes old mid
    → Does slots (map OnVolumes more) (map (λ write. Done) more) mid new
    → Does slots (map OnVolumes (writes ++ more)) (map (λ write. Done) (writes ++ more)) old new
does_more slots writes more old mid new one rest =
    subst₂ (λ (events : List Event) (replies : List Reply). Does slots events replies old new)
    (sym (map-append OnVolumes writes more)) (sym (map-append (λ write. Done) writes more)) (then_committed mid writes one rest)

does_chain : (slots : ℕ) {writes : List Command} {old new : StoreView} (fate then : Fate) (volumes : VolumeMap) → slots ≡ slots_of old.array.table
    → IsSettledOn old fate.lost volumes → AreCommittedInTurn (Unit {0}) writes old new
    → GoesOver slots fate.lost fate new.array.table new.array.history then
    → Does slots (map OnVolumes writes) (map (λ write. Done) writes) (at_store old fate) (at_store new then)
does_chain slots {old = old} fate then volumes same settled none_committed over =
    subst (λ (f : Fate). Does slots [] [] (at_store old fate) (at_store old f)) (one_fate fate then
    (lost_after_is_one fate.lost old.array.table fate.lost then.lost (still_lost old.array fate.lost settled.logical settled.rests) over.lost)
    over.replaced) none_done
  where
    one_fate : (fate then : Fate) → fate.lost ≡ then.lost → then.replaced ≡ replaced_by fate.lost then.lost ++ fate.replaced → fate ≡ then
    one_fate fate then lost replaced =
        ap₂ (λ (l : Option Lost) (r : List Replaced). fate_of l r) lost
        (sym (replaced ∙ ap (λ (r : List Replaced). r ++ fate.replaced) (ap (λ (l : Option Lost). replaced_by fate.lost l) (sym lost) ∙ none fate.lost)))
      where
        fate_of : Option Lost → List Replaced → Fate
        fate_of l r = record { lost = l; replaced = r }

        none : (l : Option Lost) → replaced_by l l ≡ []
        none None = refl
        none (Some lost) = refl
does_chain slots {old = old} {new = new} fate then volumes same settled (commit_then {more = more} mid writes commits told rest) over =
    let true_mid = told tt in
    let doing = commits.going settled.going in
    let after = doing.settled tt refl fate.lost volumes settled in
    let later = chain_further after.lost (after_all (extents_for_store old) writes volumes) after.settled rest in
    does_more slots writes more (at_store old fate) (at_store mid (fate_with fate after.lost)) (at_store new then)
    (committed slots writes old mid fate volumes same settled commits true_mid new.array.history later.further.runs over.single_failure)
    (does_chain slots (fate_with fate after.lost) then (after_all (extents_for_store old) writes volumes)
    (set_stays slots writes old mid fate volumes same settled commits true_mid) after.settled rest
    (over_then slots writes old mid fate volumes same settled commits true_mid new then later.further over))

-- ---- a crash among them

-- it came in a commit of some of the writes, after those before these were done
record ComesIn (slots : ℕ) (writes : List Command) (first : Serving) (left : World) : Type 0 where
  pub done : List Command
  pub last : List Command
  pub undone : List Command
  pub parts : writes ≡ done ++ last ++ undone
  pub serving : Serving
  pub does : Does slots (map OnVolumes done) (map (λ write. Done) done) first serving
  pub store : StoreView
  pub reply : Answer
  pub commits : CommitsStaged (Unit {0}) last serving.store store reply
  pub true_to : IsTrueTo store.array.panel store.array.history
  pub crashes : Crashes slots serving.fate.lost serving.fate serving.store.array.history store.array.history left

-- or after all of them
record ComesAfter (slots : ℕ) (writes : List Command) (first : Serving) (mid : StoreView) (new : History) (left : World) (t : ℕ) : Type 0 where
  pub fate : Fate
  pub does : Does slots (map OnVolumes writes) (map (λ write. Done) writes) first (at_store mid fate)
  pub crashes : Crashes slots fate.lost fate mid.array.history new left
  pub at : crashes.t ≡ t
  pub past : ((writes ≡ []) × (mid ≡ first.store)) ⊎ (calls_of mid.array.history < t)

comes_in_more : (slots : ℕ) (writes more : List Command) (old mid : Serving) (left : World) → AreCommitted slots writes old mid → ComesIn slots more mid left
    → ComesIn slots (writes ++ more) old left
comes_in_more slots writes more old mid left one comes = record {
  done = writes ++ comes.done;
  last = comes.last;
  undone = comes.undone;
  parts = ap (λ (l : List Command). writes ++ l) comes.parts ∙ sym (append_assoc writes (comes.done ++ comes.last) comes.undone)
      ∙ ap (λ (l : List Command). l ++ comes.undone) (sym (append_assoc writes comes.done comes.last));
  serving = comes.serving;
  does = does_more slots writes comes.done old mid comes.serving one comes.does;
  store = comes.store;
  reply = comes.reply;
  commits = comes.commits;
  true_to = comes.true_to;
  crashes = comes.crashes;
}

comes_somewhere : (slots : ℕ) {writes : List Command} {old mid : StoreView} (new : History) (fate : Fate) (volumes : VolumeMap) (left : World)
    → slots ≡ slots_of old.array.table → IsSettledOn old fate.lost volumes → AreCommittedInTurn (Unit {0}) writes old mid
    → Throughout (λ h. Unit {0}) mid.array.history new → (crash : Crashes slots fate.lost fate old.array.history new left)
    → ComesIn slots writes (at_store old fate) left ⊎ ComesAfter slots writes (at_store old fate) mid new left crash.t
unfolding crash_then
comes_somewhere slots new fate volumes left same settled none_committed runs crash =
    inr record { fate = fate; does = none_done; crashes = crash; at = refl; past = inl (refl, refl) }
comes_somewhere slots {old = old} {mid = mid} new fate volumes left same settled (commit_then {more = more} next writes commits told rest) runs crash =
    let true_next = told tt in
    let doing = commits.going settled.going in
    let after = doing.settled tt refl fate.lost volumes settled in
    let later = chain_further after.lost (after_all (extents_for_store old) writes volumes) after.settled rest in
    let on = throughout_on mid.array.history later.further.runs new runs in
    elim (cases_lt (calls_of next.array.history) crash.t) [
      | inr early ↦ inl record {
        done = [];
        last = writes;
        undone = more;
        parts = refl;
        serving = at_store old fate;
        does = none_done;
        store = next;
        reply = Ok tt;
        commits = commits;
        true_to = true_next;
        crashes = crash_in slots writes old next fate volumes same settled commits true_next new left on crash early;
      }
      | inl past ↦
          let late : calls_of next.array.history ≤ crash.t = omega (arith, past) in
          let one = single_at_crash slots writes old next fate volumes same settled commits true_next new left on crash late in
          elim (comes_somewhere slots new (fate_with fate after.lost) (after_all (extents_for_store old) writes volumes) left
          (set_stays slots writes old next fate volumes same settled commits true_next) after.settled rest runs
          (crash_then slots writes old next fate volumes same settled commits true_next new left on crash late)) [
            | inl comes ↦ inl (comes_in_more slots writes more (at_store old fate) (at_store next (fate_with fate after.lost)) left one comes)
            | inr comes ↦ inr record {
              fate = comes.fate;
              does = does_more slots writes more (at_store old fate) (at_store next (fate_with fate after.lost)) (at_store mid comes.fate) one comes.does;
              crashes = comes.crashes;
              at = comes.at;
              past = elim comes.past [
                | inl (none, is) ↦ inr (subst (λ (store : StoreView). calls_of store.array.history < crash.t) (sym is) past)
                | inr even_later ↦ inr even_later
              ];
            }
          ]
    ]

-- ---- the laws

-- events after events
does_both : (slots : ℕ) {events more : List Event} {replies more_replies : List Reply} {first mid last : Serving} → Does slots events replies first mid
    → Does slots more more_replies mid last → Does slots (events ++ more) (replies ++ more_replies) first last
does_both slots none_done after = after
does_both slots {more = more} {more_replies = more_replies} {last = last} (then_done next event reply done rest) after =
    then_done next event reply done (does_both slots rest after)
does_both slots {more = more} {more_replies = more_replies} {first = first} {last = last}
    (then_committed {events = events} {replies = replies} next writes done rest) after =
    subst₂ (λ (e : List Event) (r : List Reply). Does slots e r first last) (sym (append_assoc (map OnVolumes writes) events more))
    (sym (append_assoc (map (λ write. Done) writes) replies more_replies)) (then_committed next writes done (does_both slots rest after))

-- some blocks have some writes
some_writes : (name : List ℕ) {at end : ℕ} {writes : List Command} → AreZeroWrites name at end writes → at < end → writes ≢ []
some_writes name no_write some none = omega (arith, some)
some_writes name (then_write {writes = writes} count least most rest) some none = differ none
  where
    differ : {write : Command} {writes : List Command} → write ∷ writes ≡ [] → ⊥
    differ is = cc

abbrev answered : Answer
answered = Ok tt

-- an answered call is its writes, done
pub zero_is_done : (name : List ℕ) (at count : ℕ) (old new : Serving) (volumes : VolumeMap) → IsSettledOn old.store old.fate.lost volumes
    → AreZeroed (slots_of old.store.array.table) name at count old new → DoesZeros (slots_of old.store.array.table) name at count old new
zero_is_done name at count old new volumes settled zeroed = elim (zeroed.zeroes.going settled.going) [
  | inl refused ↦ absurd (not_refused refused.refusal refused.is)
  | inr zeroes ↦ record {
    writes = zeroes.writes;
    zeros = zeroes.zeros;
    does = does_chain (slots_of old.store.array.table) old.fate new.fate volumes refl settled zeroes.commits zeroed.goes_over;
  }
]
  where
    not_refused : (refusal : Refusal) → answered ≡ Err refusal → ⊥
    not_refused refusal is = cc

-- a crash in it comes in a commit of some of its writes
module _ (name : List ℕ) (at count : ℕ) (first old : Serving) (events : List Event) (replies : List Reply) (new : StoreView) (volumes : VolumeMap)
    (left : World) (does : Does (slots_of old.store.array.table) events replies first old) (settled : IsSettledOn old.store old.fate.lost volumes)
    (true_to : IsTrueTo new.array.panel new.array.history) (some : 1 ≤ count)
    (crash : Crashes (slots_of old.store.array.table) old.fate.lost old.fate old.store.array.history new.array.history left) where
  abbrev slots : ℕ
  slots = slots_of old.store.array.table

  ends_in : (writes : List Command) → AreZeroWrites name at (at + count) writes → ComesIn slots writes old left
      → EndsInZeros slots name at count events replies first left
  ends_in writes zeros comes = record {
    done = comes.done;
    last = comes.last;
    undone = comes.undone;
    zeros = subst (AreZeroWrites name at (at + count)) comes.parts zeros;
    serving = comes.serving;
    does = does_both slots does comes.does;
    store = comes.store;
    reply = comes.reply;
    commits = comes.commits;
    true_to = comes.true_to;
    crashes = comes.crashes;
  }

  ends_answered : (writes : List Command) → AreZeroWrites name at (at + count) writes → AreCommittedInTurn (Unit {0}) writes old.store new
      → EndsInZeros slots name at count events replies first left
  ends_answered writes zeros committed =
      elim (comes_somewhere slots new.array.history old.fate volumes left refl settled committed (here tt) crash) [
        | inl comes ↦ ends_in writes zeros comes
        | inr comes ↦ elim comes.past [
          | inl (none, is) ↦ absurd (some_writes name zeros (omega (arith, some)) none)
          | inr past ↦ absurd (omega (arith, past, crash.until))
        ]
      ]

  ends_refused : (writes : List Command) (refusal : Refusal) → AreZeroWrites name at (at + count) writes
      → EndsCommitting (Unit {0}) writes old.store new refusal → EndsInZeros slots name at count events replies first left
  ends_refused writes refusal zeros ends =
      let then = chain_further old.fate.lost volumes settled ends.before in
      let doing = ends.ends.going then.settled.going in
      let runs = throughout_more (λ h stands. tt) new.array.history (doing.moments tt then.lost then.volumes then.settled) in
      elim (comes_somewhere slots new.array.history old.fate volumes left refl settled ends.before runs crash) [
        | inl comes ↦ ends_in writes zeros record {
          done = comes.done;
          last = comes.last;
          undone = comes.undone ++ ends.last ++ ends.undone;
          parts = ends.parts ∙ ap (λ (l : List Command). l ++ ends.last ++ ends.undone) comes.parts
              ∙ five comes.done comes.last comes.undone ends.last ends.undone;
          serving = comes.serving;
          does = comes.does;
          store = comes.store;
          reply = comes.reply;
          commits = comes.commits;
          true_to = comes.true_to;
          crashes = comes.crashes;
        }
        | inr comes ↦ ends_in writes zeros record {
          done = ends.done;
          last = ends.last;
          undone = ends.undone;
          parts = ends.parts;
          serving = at_store ends.mid comes.fate;
          does = comes.does;
          store = new;
          reply = Err refusal;
          commits = ends.ends;
          true_to = true_to;
          crashes = comes.crashes;
        }
      ]
    where
      five : (a b c d e : List Command) → a ++ b ++ c ++ d ++ e ≡ a ++ b ++ (c ++ d ++ e)
      five a b c d e = ap (λ (l : List Command). l ++ e) (append_assoc (a ++ b) c d) ∙ append_assoc (a ++ b) (c ++ d) e

  pub zero_is_interrupted : (answer : Answer) → ZeroesBlocks (Unit {0}) name at count old.store new answer
      → EndsInZeros slots name at count events replies first left
  zero_is_interrupted (Ok tt) zeroes = ends_answered zeroes.writes zeroes.zeros zeroes.commits
  zero_is_interrupted (Err refusal) zeroes = ends_refused zeroes.writes refusal zeroes.zeros zeroes.commits
