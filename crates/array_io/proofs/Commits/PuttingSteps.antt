-- The calls that put a part of an entry on one slot, and what is made of their end, as steps.
use Rattle.std.proofs.Common.{◌≡◌, ◌≢◌, ◌⊎◌, inl, inr, ℕ, ◌+◌, ◌<◌, ◌≤◌, Bool, true, false, cond, List, [], ◌∷◌, ◌++◌, length, Ok, Err, Result, refl, sym, ◌∙◌}
use Rattle.std.proofs.Common.{ap, subst, arith}
use Rattle.std.specs.Prelude.{IfErr, is_ok, replicate, slice_index_or}
use Rattle.std.proofs.lemmas.Bool.{cases_eq}
use Rattle.sector_model.specs.declared.refusal.Refusal.{Refusal}
use Rattle.sector_model.specs.declared.refusal.Refusal.TheVariants.{Worn}
use Rattle.sector_model.specs.declared.sector.Stop.{Stop}
use Rattle.sector_model.specs.declared.sector.Stop.TheVariants as stop
use Rattle.sector_model.specs.Bank.{IsCauseOf, IsLater, IsTrueTo, Panel, after_flush, after_try}
use Rattle.sector_model.specs.Calls.{Call, Flush, Made, writes_from}
use Rattle.sector_model.specs.History.{Bytes, History, is_down, sector_of, seen}
use Rattle.sector_model.specs.Moments.{Throughout, here}
use Rattle.sector_model.proofs.Panels.{later_both, later_same}
use Rattle.sector_model.proofs.Sequences.{made_both, made_short}
use Rattle.sector_model.proofs.Steps.{throughout_last, throughout_more}
use Rattle.superblock.specs.declared.table.Table.{Table}
use Rattle.superblock.specs.Losses.{IsSingleFailure}
use Rattle.superblock.specs.NextTables.{slots_of}
use Rattle.stripe_journal.specs.declared.entry.Entry.{Entry}
use Rattle.stripe_journal.specs.declared.seal.Seal.{Seal}
use Rattle.stripe_journal.specs.Entries.{body_of, form_of, holds_sector, sector_at, sector_in_row}
use Rattle.stripe_journal.specs.Forms.{has_zeros, holds, in_body, rank, rows_in}
use Rattle.stripe_journal.proofs.Entries.{body_at}
use Rattle.stripe_journal.proofs.EntrySectors.{held_in_body}
use Rattle.stripe_journal.proofs.HeldEntries.{holds_as_form, rank_of_seal}
use Rattle.stripe_journal.proofs.OneEntry.{a_crash_leaves_either}
use Rattle.stripe_journal.proofs.OneEntryCalls.{AllOf, flushed_is_up, stays_off_calls}
use Rattle.array_io.specs.Believed.ArrayCalls.{Answer}
use Rattle.array_io.specs.declared.array.put.Part.{Part}
use Rattle.array_io.specs.declared.array.put.Part.TheVariants as part
use Rattle.array_io.specs.Believed.Views.{ArrayView, HasItsSlots, view_of}
use Rattle.array_io.specs.Steps.Bringing.{CountsOn}
use Rattle.array_io.specs.Steps.CallSteps.{CallsOne, KeepsFront}
use Rattle.array_io.specs.Steps.Putting.{Awaited, HasBody, HasSeal, HoldsAll, IfSingleFailure, IsComing, IsPutBefore, MayWrite, PutsFrom, held_sector, reached}
use Rattle.array_io.specs.Steps.PuttingRows.{HeldRows, PutsMember}
use Rattle.array_io.specs.Steps.PuttingSteps.{Brings, EndsOrFailsSlot, FitsPart, HasItsRows, IsUntouched, PutsCalls, PutsPart, StepsPart, both_bodies}
use Rattle.array_io.specs.Steps.PuttingSteps.{both_sealed, rows_held}
use Rattle.array_io.proofs.Calls.CallSteps.{steps_both, steps_refused}
use Rattle.array_io.proofs.Calls.DeviceSteps.{goes_on_later, single_failure_before, same_down, step_done, step_marked, step_worn}
use Rattle.array_io.proofs.Calls.FrontCalls.{AllBeyond, front_stays}
use Rattle.array_io.proofs.Commits.PuttingParts.{IsPartOf, body_part, rows_part, seal_part}
use Rattle.array_io.proofs.Commits.PuttingRows.{cause_of, flush_made, named_of}
use Rattle.array_io.proofs.Commits.PuttingStates.{coming_still, nothing_beside, put_still, reached_beside, reached_here}
use Rattle.array_io.proofs.Marks.MarkedWhole.{throughout_if_lost}
use Rattle.array_io.proofs.Reading.ReadValue.{marks_as}
use Rattle.array_io.proofs.Images.Spellings.{Spellings}

-- why calls of one device ended
abbrev EndsAt : Panel → ℕ → Stop → Type 0
EndsAt panel device why = IsCauseOf panel why × ((why ≡ stop.Worn) ⊎ (why ≡ stop.Down device))

-- calls of one device, of which a flush is the last
pub puts_calls : (honest : Type 0) (device : ℕ) (calls : List Call) (old_panel new_panel : Panel) (old new : History) (result : Result (Unit {0}) Stop)
    → AllOf (λ d. d ≡ device) (calls ++ Flush device ∷ [])
    → AllBeyond (calls ++ Flush device ∷ []) → IsLater old_panel new_panel → IfErr result (EndsAt new_panel device)
    → (honest → Made (calls ++ Flush device ∷ []) (is_ok result) old new)
    → PutsCalls honest device (calls ++ Flush device ∷ []) old_panel new_panel old new result
puts_calls honest device calls old_panel new_panel old new result all beyond later ends made = record {
  calls_one = record {
    later = later;
    cause = cause_of device new_panel result ends;
    named = named_of device new_panel result ends;
    off = λ fair. throughout_last new (stays_off_calls (λ d. d ≡ device) all (made fair));
    none_failed = λ fair ok. same_down device old new (throughout_last new (stays_off_calls (λ d. d ≡ device) all (made fair)))
        (flushed_is_up device calls (subst (λ (b : Bool). Made (calls ++ Flush device ∷ []) b old new) (ap (λ (r : Result (Unit {0}) Stop). is_ok r) ok)
        (made fair)));
    runs = λ fair. throughout_more (λ h off. off.stays_down) new (stays_off_calls (λ d. d ≡ device) all (made fair));
    front = λ fair ok. front_stays beyond (made fair);
  };
  made = made;
}

-- they ended before the flush
pub puts_short : (honest : Type 0) (device : ℕ) (calls : List Call) (old_panel new_panel : Panel) (old new : History) (result : Result (Unit {0}) Stop)
    (why : Stop) → result ≡ Err why
    → AllOf (λ d. d ≡ device) (calls ++ Flush device ∷ []) → AllBeyond (calls ++ Flush device ∷ []) → IsLater old_panel new_panel → EndsAt new_panel device why
    → (honest → Made calls false old new)
    → PutsCalls honest device (calls ++ Flush device ∷ []) old_panel new_panel old new result
puts_short honest device calls old_panel new_panel old new result why is all beyond later ends made =
    puts_calls honest device calls old_panel new_panel old new result all beyond later
    (subst (λ (r : Result (Unit {0}) Stop). IfErr r (EndsAt new_panel device)) (sym is) ends)
    (λ fair. subst (λ (b : Bool). Made (calls ++ Flush device ∷ []) b old new) (sym (ap (λ (r : Result (Unit {0}) Stop). is_ok r) is))
    (made_short (Flush device ∷ []) (made fair)))

-- the flush was made
pub puts_flushed : (honest : Type 0) (device : ℕ) (calls : List Call) (first second third : Panel) (old mid new : History) (result : Result (Unit {0}) Stop)
    → AllOf (λ d. d ≡ device) (calls ++ Flush device ∷ []) → AllBeyond (calls ++ Flush device ∷ []) → IsLater first second → IsLater second third
    → IfErr result (EndsAt third device) → (result ≡ Ok tt → third.down device ≡ false)
    → (honest → IsTrueTo third new) → (honest → Made calls true old mid) → (honest → new ≡ after_try (after_flush device) result mid)
    → PutsCalls honest device (calls ++ Flush device ∷ []) first third old new result
puts_flushed honest device calls first second third old mid new result all beyond later further ends up third_true made flush =
    puts_calls honest device calls first third old new result all beyond (later_both first second third later further) ends
    (λ fair. made_both (made fair) (flush_made device third result (flush fair) up (third_true fair)))

-- writes from one sector on and a flush are calls of one device
pub all_writes : (device at : ℕ) (values : List Bytes) → AllOf (λ d. d ≡ device) (writes_from device at values ++ Flush device ∷ [])
all_writes device at [] = (refl, tt)
all_writes device at (value ∷ values) = (refl, all_writes device (at + 1) values)

flags_differ : ¬ (true ≡ false)
flags_differ e = cc

-- what putting the rows on a member calls; where they stand no superblock does
pub member_calls : (honest : Type 0) (table : Table) (of : HeldRows) (member : ℕ) (old_panel new_panel : Panel) (old new : History)
    (result : Result (Unit {0}) Stop)
    → PutsMember honest table of member old_panel new_panel old new result → CallsOne honest member old_panel new_panel old new result
member_calls honest table of member old_panel new_panel old new result puts = record {
  later = puts.later;
  cause = puts.cause;
  named = puts.named;
  off = puts.off;
  none_failed = puts.none_failed;
  runs = λ fair. throughout_more (λ now writing. writing.stays_down) new (puts.moments fair);
  front = front;
}
  where
    front : honest → result ≡ Ok tt → KeepsFront old new
    front fair ok device at below = elim (cases_eq device member) [
      | inl same ↦ subst (λ (d : ℕ). sector_of (seen new d) at ≡ sector_of (seen old d) at) (sym same)
          (puts.elsewhere fair at (λ value put. absurd (omega (arith, below, put.place))))
      | inr apart ↦ ap (λ (disk : List Bytes). sector_of disk at) ((puts.off fair).others_seen device apart)
    ]

-- nothing is done, and what holds then holds
pub brings_same : (honest : Type 0) (before after : PutsFrom → Table → History → Type 0) (number : ℕ) (table : Table) (panel : Panel) (h : History)
    → ((from : PutsFrom) → IsSingleFailure (slots_of from.base) from.lost h → before from table h → MayWrite from table h × after from table h)
    → Brings honest before after (view_of panel h table number) (view_of panel h table number) (Ok tt)
brings_same honest before after number table panel h so = record {
  goes_on = goes_on_later panel panel h h table number (later_same panel);
  stays = record { table = inl refl; failure = λ is goes other of_set failed. absurd (flags_differ (sym failed.is_down ∙ failed.was_up)) };
  number = refl;
  moments = λ fair from at. throughout_if_lost from.base from.devices from.lost from.lists h h (here (λ device down. down))
      (λ was lost_at. here (so from (was, lost_at) (at (was, lost_at))).0.holds);
  reached = λ fair ok from at loss. (so from loss (at loss)).1;
  runs = λ fair. here (λ device down. down);
  carried = λ fair ok. inl record { table = refl; front = λ device at below. refl; down = λ device. refl };
  cause = λ refusal is. absurd (cc);
}

-- steps from one state to another, and then to a third; the body may be spelled by the table between them
pub brings_both : (honest still : Type 0) → (honest → still)
    → (before between after : PutsFrom → Table → History → Type 0) (old mid new : ArrayView) (answer : Answer)
    → Brings honest before between old mid (Ok tt) → Brings still between after mid new answer → Brings honest before after old new answer
brings_both honest still more before between after old mid new answer first second =
    steps_both honest still more HoldsAll (IfSingleFailure before) (IfSingleFailure between) (IfSingleFailure after) old mid new answer first second

-- where they were refused, what they would have reached is free
pub brings_refused : (honest : Type 0) (before after beyond : PutsFrom → Table → History → Type 0) (old new : ArrayView) (refusal : Refusal)
    → Brings honest before after old new (Err refusal) → Brings honest before beyond old new (Err refusal)
brings_refused honest before after beyond old new refusal steps =
    steps_refused honest HoldsAll (IfSingleFailure before) (IfSingleFailure after) (IfSingleFailure beyond) old new refusal steps

-- Calls of one device that come to a part, however they ended, and what is made of their end.
module _ (spellings : Spellings) (honest : Type 0) (before after : PutsFrom → Table → History → Type 0) (slot number : ℕ) (table : Table)
    (old_panel mid_panel : Panel) (old mid : History)
    (true_old : honest → IsTrueTo old_panel old) (true_mid : honest → IsTrueTo mid_panel mid) where
  -- from this run on, with the table, to that
  abbrev StepTo : Panel → Table → History → Answer → Type 0
  StepTo p t h said = Brings honest before after (view_of old_panel old table number) (view_of p h t number) said

  -- they are a part, from each state before
  abbrev pub ArePart : Result (Unit {0}) Stop → Type 0
  ArePart done = honest → (from : PutsFrom) → IsSingleFailure (slots_of from.base) from.lost old → before from table old
      → IsPartOf after from slot table old mid (is_ok done)

  module _ (done : Result (Unit {0}) Stop) (calls : CallsOne honest slot old_panel mid_panel old mid done) (part : ArePart done) where
    moments : honest → (from : PutsFrom) → IfSingleFailure before from table old → Throughout (HoldsAll from) old mid
    moments fair from at = throughout_if_lost from.base from.devices from.lost from.lists old mid (calls.runs fair)
        (λ was lost_at. (part fair from (was, lost_at) (at (was, lost_at))).moments)

    -- one slot was lost at most before
    lost_before : honest → (from : PutsFrom) → IsSingleFailure (slots_of from.base) from.lost mid → IsSingleFailure (slots_of from.base) from.lost old
    lost_before fair from = single_failure_before (slots_of from.base) from.lost old mid (calls.runs fair)

  pub part_steps : (new_panel : Panel) (new_table : Table) (new : History) (done : Result (Unit {0}) Stop) (answer : Answer) (still : Type 0) → (honest → still)
      → (honest → IsTrueTo new_panel new) → HasItsSlots table old_panel → CountsOn table slot → CallsOne honest slot old_panel mid_panel old mid done
      → ArePart done
      → EndsOrFailsSlot still slot mid_panel new_panel table new_table mid new done answer
      → Brings honest before after (view_of old_panel old table number) (view_of new_panel new new_table number) answer
  part_steps new_panel new_table new done answer still more true_new its counted = by_end done
    where
      -- nothing more was done
      kept : (said : Answer) → StepTo mid_panel table mid said → answer ≡ said → IsUntouched mid_panel new_panel table new_table mid new
          → StepTo new_panel new_table new answer
      kept said step is same = subst (StepTo new_panel new_table new) (sym is)
          (subst (λ (p : Panel). StepTo p new_table new said) (sym same.same_panel)
          (subst (λ (t : Table). StepTo mid_panel t new said) (sym same.same_table)
          (subst (λ (h : History). StepTo mid_panel table h said) (sym same.same_history) step)))

      by_end : (r : Result (Unit {0}) Stop) → CallsOne honest slot old_panel mid_panel old mid r → ArePart r
          → EndsOrFailsSlot still slot mid_panel new_panel table new_table mid new r answer
          → StepTo new_panel new_table new answer
      by_end (Ok tt) calls part ends = kept (Ok tt) (step_done spellings honest (λ (f : PutsFrom). f.devices) (λ (f : PutsFrom). f.base)
          (λ (f : PutsFrom). f.lost) (λ (f : PutsFrom). f.lists)
          (IfSingleFailure before) (IfSingleFailure after) slot number table old_panel mid_panel old mid true_old true_mid calls
          (λ fair from at. (
            moments (Ok tt) calls part fair from at,
            λ loss. let was = lost_before (Ok tt) calls part fair from loss in (part fair from was (at was)).done refl,
          ))) ends.0 ends.1
      by_end (Err stop.Worn) calls part ends = kept (Err Worn)
          (step_worn spellings honest (λ (f : PutsFrom). f.devices) (λ (f : PutsFrom). f.base) (λ (f : PutsFrom). f.lost) (λ (f : PutsFrom). f.lists)
          (IfSingleFailure before) (IfSingleFailure after) slot number table old_panel mid_panel old mid true_old true_mid calls
          (moments (Err stop.Worn) calls part)) ends.0 ends.1
      by_end (Err (stop.Down device)) calls part ends =
          let same : device ≡ slot = calls.named device refl in
          marked (subst (λ (d : ℕ). CallsOne honest slot old_panel mid_panel old mid (Err (stop.Down d))) same calls)
          (subst (λ (d : ℕ). ArePart (Err (stop.Down d))) same part)
        where
          marked : CallsOne honest slot old_panel mid_panel old mid (Err (stop.Down slot)) → ArePart (Err (stop.Down slot))
              → StepTo new_panel new_table new answer
          marked calls part = step_marked spellings honest (λ (f : PutsFrom). f.devices) (λ (f : PutsFrom). f.base) (λ (f : PutsFrom). f.lost)
              (λ (f : PutsFrom). f.lists)
              (IfSingleFailure before) (IfSingleFailure after) slot number table old_panel mid_panel old mid true_old true_mid new_panel new_table new answer
              its counted calls
              (marks_as slot mid_panel new_panel table new_table mid new answer more ends) true_new
              (λ fair from at loss. let is = part fair from loss (at loss) in (is.moments, is.failed (down fair)))
              (λ fair from at run then_marked loss.
              let was = single_failure_before (slots_of from.base) from.lost old new run loss in
              let both = (then_marked was).1 in
              (part fair from was (at was)).marked new_table new both (both.from loss))
            where
              down : honest → is_down mid slot ≡ true
              down fair = sym ((true_mid fair).down slot) ∙ calls.cause (stop.Down slot) refl

-- The parts, by the calls that put them.
module _ (spellings : Spellings) (honest : Type 0) (slot number : ℕ) (table : Table) (seal : Seal) (entry : Entry) (old_panel : Panel) (old : History) where
  abbrev body : List Bytes
  body = body_of table.geometry.members entry

  abbrev Was : ArrayView
  Was = view_of old_panel old table number

  -- what the entry holds of a row on a member is what its seal says

  its_held : (i member : ℕ) → HasItsRows table seal entry → i < length (rows_in seal.form) → member < table.geometry.members
      → holds_sector entry i member ≡ holds table.geometry.members seal.form i member
  its_held i member its inside within = holds_as_form table.geometry.members seal.form entry i member its.of_seal inside within

  its_sector : (i member : ℕ) → HasItsRows table seal entry → i < length (rows_in seal.form) → member < table.geometry.members
      → holds table.geometry.members seal.form i member ≡ true
      → sector_in_row entry i member ≡ held_sector table.geometry.members seal body i member
  its_sector i member its inside within held = by_zeros (has_zeros seal.form i) refl
    where
      members : ℕ
      members = table.geometry.members

      by_zeros : (b : Bool) → has_zeros seal.form i ≡ b → sector_in_row entry i member ≡ held_sector members seal body i member
      by_zeros true zeros =
          ap (λ (b : Bool). cond b (replicate 512 0) (sector_at entry i member)) (sym (its.of_seal.zeros i inside) ∙ zeros)
          ∙ sym (ap (λ (b : Bool). cond b (replicate 512 0) (slice_index_or body (rank members seal.form i member) [])) zeros)
      by_zeros false other =
          let here : in_body members (form_of entry) i member ≡ true =
          its.of_seal.held i member inside within ∙ held_in_body members seal.form i member other held in
          ap (λ (b : Bool). cond b (replicate 512 0) (sector_at entry i member)) (sym (its.of_seal.zeros i inside) ∙ other)
          ∙ sym (body_at members entry i member table.geometry.limits.members_most (subst (λ (r : List ℕ). i < length r) (sym its.of_seal.rows) inside) within
          here)
          ∙ ap (λ (k : ℕ). slice_index_or body k []) (rank_of_seal members seal entry table.geometry.limits.members_most its.of_seal i member inside within)
          ∙ sym (ap (λ (b : Bool). cond b (replicate 512 0) (slice_index_or body (rank members seal.form i member) [])) other)

  -- a slot on which the table doesn't count is passed over
  pub part_passed : (kind : Part) → FitsPart kind table seal entry slot → ¬ CountsOn table slot → StepsPart honest kind seal body slot Was Was (Ok tt)
  part_passed part.Body (beyond, fits) out = λ origin journals awaited. brings_same honest (IsComing origin seal body journals)
      (IsComing origin seal body (reached journals slot HasBody)) number table old_panel old
      (λ from loss is. (
        is.writes,
        coming_still slot seal body from table table old old (nothing_beside slot table old) is.writes origin journals (reached journals slot HasBody) beyond is
            (reached_beside journals slot HasBody) (inr out) (λ on. absurd (out on)),
      ))
  part_passed part.Seal beyond out = λ origin journals staged. brings_same honest (IsComing origin seal body journals)
      (IsComing origin seal body (reached journals slot HasSeal)) number table old_panel old
      (λ from loss is. (
        is.writes,
        coming_still slot seal body from table table old old (nothing_beside slot table old) is.writes origin journals (reached journals slot HasSeal) beyond is
            (reached_beside journals slot HasSeal) (inr out) (λ on. absurd (out on)),
      ))
  part_passed part.Rows (within, its) out = brings_same honest (IsPutBefore slot seal body) (IsPutBefore (slot + 1) seal body) number table old_panel old
      (λ from loss is. (
        is.writes,
        put_still slot seal body from table table old old (nothing_beside slot table old) is.writes slot (slot + 1) is within
            (λ k apart below. omega (arith, apart, below)) (λ on. absurd (out on)),
      ))

  -- a part that was put, or whose slot's device failed
  module _ (mid_panel new_panel : Panel) (new_table : Table) (mid new : History) (done : Result (Unit {0}) Stop) (answer : Answer) (still : Type 0)
      (more : honest → still)
      (true_old : honest → IsTrueTo old_panel old) (true_mid : honest → IsTrueTo mid_panel mid) (true_new : honest → IsTrueTo new_panel new)
      (its_slots : HasItsSlots table old_panel) (counted : CountsOn table slot)
      (ends : EndsOrFailsSlot still slot mid_panel new_panel table new_table mid new done answer) where
    pub part_put : (kind : Part) → FitsPart kind table seal entry slot → PutsPart honest kind table seal entry slot old_panel mid_panel old mid done
        → StepsPart honest kind seal body slot Was (view_of new_panel new new_table number) answer
    part_put part.Body (beyond, fits) puts = λ origin journals awaited. part_steps spellings honest (IsComing origin seal body journals)
        (IsComing origin seal body (reached journals slot HasBody)) slot number table
        old_panel mid_panel old mid true_old true_mid new_panel new_table new done answer still more true_new its_slots counted puts.calls_one
        (λ fair from loss is. body_part spellings seal body from table old mid (is_ok done) slot counted (puts.calls_one.off fair) a_crash_leaves_either origin
        journals beyond is awaited (puts.made fair)) ends
    part_put part.Seal beyond puts = λ origin journals staged. part_steps spellings honest (IsComing origin seal body journals)
        (IsComing origin seal body (reached journals slot HasSeal)) slot number table
        old_panel mid_panel old mid true_old true_mid new_panel new_table new done answer still more true_new its_slots counted puts.calls_one
        (λ fair from loss is. seal_part spellings seal body from table old mid (is_ok done) slot counted (puts.calls_one.off fair) a_crash_leaves_either origin
        journals beyond is staged (puts.made fair)) ends
    part_put part.Rows (within, its) puts =
        part_steps spellings honest (IsPutBefore slot seal body) (IsPutBefore (slot + 1) seal body) slot number table
        old_panel mid_panel old mid true_old true_mid new_panel new_table new done answer still more true_new its_slots counted
        (member_calls honest table (rows_held entry) slot old_panel mid_panel old mid done puts)
        (λ fair from loss is. rows_part spellings seal body from table old mid (is_ok done) slot counted (puts.off fair) within (rows_held entry)
        its.of_seal.rows
        (λ i inside. its_held i slot its inside within) (λ i inside held. its_sector i slot its inside within held) is honest fair old_panel mid_panel done puts
        (λ all. by_ok done all)) ends
      where
        by_ok : (r : Result (Unit {0}) Stop) → is_ok r ≡ true → r ≡ Ok tt
        by_ok (Ok tt) all = refl
        by_ok (Err why) all = absurd (cc)

-- how far the journals are, of which this is the first

not_next : (first : ℕ) → first + 1 ≢ first
not_next first same = absurd (omega (arith, same))

pub second_awaited : (first : ℕ) → reached (λ k. Awaited) first HasBody (first + 1) ≡ Awaited
second_awaited first = reached_beside (λ k. Awaited) first HasBody (first + 1) (not_next first)

pub first_bodied : (first : ℕ) → both_bodies first first ≡ HasBody
first_bodied first = reached_beside (reached (λ k. Awaited) first HasBody) (first + 1) HasBody first (λ same. not_next first (sym same))
    ∙ reached_here (λ k. Awaited) first HasBody

pub second_bodied : (first : ℕ) → reached (both_bodies first) first HasSeal (first + 1) ≡ HasBody
second_bodied first = reached_beside (both_bodies first) first HasSeal (first + 1) (not_next first)
    ∙ reached_here (reached (λ k. Awaited) first HasBody) (first + 1) HasBody

-- each of both is sealed
pub both_are_sealed : (first journal : ℕ) → first ≤ journal → journal < first + 2 → both_sealed first journal ≡ HasSeal
both_are_sealed first journal beyond of_set = elim (cases_eq journal (first + 1)) [
  | inl same ↦ subst (λ (k : ℕ). both_sealed first k ≡ HasSeal) (sym same) (reached_here (reached (both_bodies first) first HasSeal) (first + 1) HasSeal)
  | inr apart ↦
      let same : journal ≡ first = omega (arith, beyond, of_set, apart) in
      reached_beside (reached (both_bodies first) first HasSeal) (first + 1) HasSeal journal apart
      ∙ subst (λ (k : ℕ). reached (both_bodies first) first HasSeal k ≡ HasSeal) (sym same) (reached_here (both_bodies first) first HasSeal)
]
