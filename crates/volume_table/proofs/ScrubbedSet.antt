-- The rows of a store's set are looked at.
use Rattle.std.proofs.Common.{◌≡◌, ◌⊎◌, inl, inr, ℕ, Bool, true, false, cond, not, List, length, Option, Some, None, Result, Ok, Err, refl, sym, ap, subst, ◌∙◌}
use Rattle.std.proofs.Common.{arith}
use Rattle.sector_model.specs.declared.refusal.Refusal.{Refusal}
use Rattle.sector_model.specs.declared.refusal.Refusal.TheVariants.{Incomplete, TwoLost, Worn}
use Rattle.std.specs.Prelude.{slice_get}
use Rattle.sector_model.specs.History.{Slots}
use Rattle.sector_model.specs.Readable.{readable}
use Rattle.sector_model.specs.Reads.{HasRead}
use Rattle.superblock.specs.declared.state.State.TheVariants.{InSync, Missing}
use Rattle.superblock.specs.declared.table.Table.{Table}
use Rattle.superblock.specs.Cases.{Lost}
use Rattle.superblock.specs.NextTables.{IsComplete, slots_of}
use Rattle.superblock.specs.States.{is_complete}
use Rattle.array_io.specs.Believed.Holds.{row_count}
use Rattle.array_io.specs.Believed.Views.{ArrayView, EndsIt, HasEnded, HasLostOne, IsEndOf}
use Rattle.array_io.proofs.Marks.MarkingHolds.{missing_then}
use Rattle.scrub.specs.declared.report.ScrubReport.{ScrubReport}
use Rattle.scrub.specs.Reports.{report_of, told_by}
use Rattle.scrub.specs.Scrubbing.{AreUnsound, AreUnsoundIn, IsNoScrub, IsPartReport, IsReport, LooksAtRows, Report, rows_in_part}
use Rattle.volume_table.specs.SetReplies.{Devices, SetState, changed_set, rows_within, set_answer, set_refusal, settled, with_faults}
use Rattle.volume_table.specs.Stands.{StoreView}
use Rattle.volume_table.specs.StoreCalls.{Applies, IsCounterFull, SetIsLeft, lost_in, set_of}
use Rattle.volume_table.specs.StoreFunctions.{ScrubsRows, ScrubsSet}
use Rattle.volume_table.specs.VolumeStep.{OnSet, Refused, Reply, Scrub, ScrubRows, Scrubbed, SetCommand}
use Rattle.volume_table.proofs.FailedSlot.{in_sync_at}
use Rattle.volume_table.proofs.OnSet.{ActsOnSet, KeepsRefusal, acts_on_set, are_devices, are_devices_with, devices_with, kept_if_done, kept_if_refused}
use Rattle.volume_table.proofs.OnSet.{refused_replies, set_left_by, state_in, states_in}
use Rattle.volume_table.proofs.PartOfRows.{around, unsound_around, within_around}
use Rattle.volume_table.proofs.Scrubbed.{complete_states}
use Rattle.volume_table.proofs.StoreSteps.{devices_in, failures_leave, generation_left, has_fault, incarnations_left, length-set_of, same_slots, slot_spared}
use Rattle.volume_table.proofs.StoreSteps.{are_unsound, states_left, stays_or_fails, unsound_rows}

-- The array's scrub was made, of which this is to be told.
pub record InspectsRows (honest : Type 0) (IsTold : Table → Slots → Report → Type 0) (old new : StoreView) (answer : Result Report Refusal) : Type 0 where
  pub kept : KeepsRefusal Report old new answer
  pub scrubs : LooksAtRows honest IsTold old.array new.array answer

-- A command that is refused where a scrub is, changes nothing, and loses no slot.
record IsLikeScrub (command : SetCommand) : Type 0 where
  refused : (devices : Devices) (was : SetState) → set_refusal devices command was ≡ set_refusal devices Scrub was
  leaves : (devices : Devices) (was : SetState) → changed_set devices command was ≡ was
  lost_stays : (table : Table) (lost : Option Lost) → lost_in (OnSet command) table lost ≡ lost

whole_set : IsLikeScrub Scrub
whole_set = record { refused = λ devices was. refl; leaves = λ devices was. refl; lost_stays = λ table lost. refl }

a_part : (first rows : ℕ) → IsLikeScrub (ScrubRows first rows)
a_part first rows = record { refused = λ devices was. refl; leaves = λ devices was. refl; lost_stays = λ table lost. refl }

-- whether all slots are in sync is what the states of the set say
incomplete_states : (table : Table) → ¬ IsComplete table → is_complete (states_in table) ≡ false
incomplete_states table other_than = by_case (is_complete (states_in table)) refl
  where
    by_case : (b : Bool) → is_complete (states_in table) ≡ b → b ≡ false
    by_case false is = refl
    by_case true is = absurd (other_than record {
      in_sync = λ slot of_set. sym (state_in table slot of_set) ∙ in_sync_at (states_in table) is slot (omega (arith, of_set, length-set_of table));
    })

-- a complete set has lost no slot
none_lost : (old new : ArrayView) → (new.table ≡ old.table) ⊎ HasLostOne old new
    → slots_of new.table ≡ slots_of old.table → IsComplete new.table → new.table ≡ old.table
none_lost old new (inl same) slots complete = same
none_lost old new (inr lost) slots complete =
    absurd (never (sym (missing_then old.table new.table lost.slot lost.marked lost.of_set) ∙ complete.in_sync lost.slot (omega (arith, lost.of_set, slots))))
  where
    never : Missing ≡ InSync → ⊥
    never is = cc

-- an end of the array's call is one of the store's
end_of : (command : SetCommand) (old new : ArrayView) (refusal : Refusal) → IsNoScrub old new refusal → EndsIt refusal
    → IsEndOf old new (IsCounterFull (OnSet command) old new) refusal
end_of command old new TwoLost cause ends = cause
end_of command old new Worn cause ends = elim cause [ inl worn ↦ inl worn | inr never ↦ absurd never ]
end_of command old new refusal cause ends = absurd ends

refused_not_scrubbed : (refusal : Refusal) (rows bad : ℕ) (first_bad : Option ℕ)
    → Refused refusal ≡ Scrubbed rows bad first_bad → ⊥
refused_not_scrubbed refusal rows bad first_bad same = cc

scrubbed_not_refused : (rows bad : ℕ) (first_bad : Option ℕ) (refusal : Refusal)
    → Scrubbed rows bad first_bad ≡ Refused refusal → ⊥
scrubbed_not_refused rows bad first_bad refusal same = cc

-- ---- whatever is told

module _ (honest : Type 0) (IsTold : Table → Slots → Report → Type 0) (command : SetCommand) (like : IsLikeScrub command) (old new : StoreView)
    (answer : Result Report Refusal) (is : InspectsRows honest IsTold old new answer) where
  faults_leave_it : with_faults (has_fault new.array) (states_in old.array.table) ≡ states_in new.array.table
  faults_leave_it = states_left old.array new.array is.scrubs.goes_on (λ slot of_set. stays_or_fails old.array new.array is.scrubs.stays.table slot)

  -- whether the scrub is refused, by whether the set is then complete
  refused_by : (unsound : List ℕ) (whole : Bool) → is_complete (states_in new.array.table) ≡ whole
      → set_refusal (devices_with old.array new.array unsound) command (set_of old.array.table) ≡ cond (not whole) (Some Incomplete) None
  refused_by unsound whole is_whole =
      like.refused (devices_with old.array new.array unsound) (set_of old.array.table)
      ∙ ap (λ states. cond (not (is_complete states)) (Some Incomplete) None) faults_leave_it
      ∙ ap (λ (b : Bool). cond (not b) (Some Incomplete) None) is_whole

  same_table : IsComplete new.array.table → new.array.table ≡ old.array.table
  same_table complete = none_lost old.array new.array is.scrubs.stays.table (same_slots old.array new.array is.scrubs.goes_on) complete

  left_incomplete : ¬ HasEnded answer → ¬ IsComplete new.array.table
      → SetIsLeft honest (OnSet command) old new (Refused Incomplete)
  left_incomplete unended other_than =
      set_left_by honest command old new (Refused Incomplete) (devices_in old.array new.array) (Some Incomplete)
      (are_devices honest old.array new.array (λ fair. is.scrubs.stays.failure fair unended))
      (refused_by (unsound_rows old.array.table (readable new.array.history)) false (incomplete_states new.array.table other_than)) refl
      (failures_leave old.array new.array is.scrubs.goes_on is.scrubs.stays.table)

  -- by all unsound rows of the set, of which the report tells
  left_told : ¬ HasEnded answer → IsComplete new.array.table → (report : Report) (unsound : List ℕ)
      → (honest → AreUnsound old.array.table (readable new.array.history) unsound)
      → Scrubbed report.rows report.bad report.first_bad ≡ set_answer (devices_with old.array new.array unsound) command (set_of old.array.table)
      → SetIsLeft honest (OnSet command) old new (Scrubbed report.rows report.bad report.first_bad)
  left_told unended complete report unsound are told =
      let devices = devices_with old.array new.array unsound in
      set_left_by honest command old new (Scrubbed report.rows report.bad report.first_bad) devices None
      (are_devices_with honest old.array new.array unsound are (λ fair. is.scrubs.stays.failure fair unended))
      (refused_by unsound true (complete_states new.array.table complete)) told
      (ap (settled devices) (like.leaves devices (set_of old.array.table))
      ∙ failures_leave old.array new.array is.scrubs.goes_on is.scrubs.stays.table)

  left_refused : (refusal : Refusal) → ¬ HasEnded answer → IsNoScrub old.array new.array refusal → ¬ EndsIt refusal
      → SetIsLeft honest (OnSet command) old new (Refused refusal)
  left_refused Incomplete unended cause goes = left_incomplete unended cause
  left_refused TwoLost unended cause goes = absurd (goes tt)
  left_refused Worn unended cause goes = absurd (goes tt)
  left_refused refusal unended cause goes = absurd cause

  -- what the array's scrub does for one of a store, which leaves the set so, and has only read where it was answered
  scrub_acts : (reply : Reply) → (¬ HasEnded answer → SetIsLeft honest (OnSet command) old new reply)
      → (honest → (rows bad : ℕ) (first_bad : Option ℕ) → reply ≡ Scrubbed rows bad first_bad → HasRead old.array.history new.array.history)
      → ActsOnSet honest command Report old new answer reply
  scrub_acts reply left reads = record {
    kept = is.kept;
    goes_on = is.scrubs.goes_on;
    keeps = is.scrubs.keeps;
    lost_stays = λ lost. like.lost_stays old.array.table lost;
    generation = generation_left old.array new.array is.scrubs.stays.table;
    incarnations = incarnations_left (OnSet command) old.array new.array is.scrubs.stays.table;
    spared = λ slot of_set in_sync. slot_spared old.array new.array slot (stays_or_fails old.array new.array is.scrubs.stays.table slot) in_sync;
    left = left;
    cause = λ refusal refused ends. end_of command old.array new.array refusal (is.scrubs.cause refusal refused) ends;
    scrubs = λ fair scrub rows bad first_bad answered. reads fair rows bad first_bad answered;
  }

  answered : (report : Report) → answer ≡ Ok report
      → (¬ HasEnded answer → SetIsLeft honest (OnSet command) old new (Scrubbed report.rows report.bad report.first_bad))
      → Applies honest (OnSet command) old new (Scrubbed report.rows report.bad report.first_bad)
  answered report done left =
      acts_on_set honest command Report old new answer (Scrubbed report.rows report.bad report.first_bad)
      record {
        refused = λ refusal same. absurd (scrubbed_not_refused report.rows report.bad report.first_bad refusal same);
        unended = λ unended. subst (λ (a : Result Report Refusal). ¬ HasEnded a) (sym done) (λ never. never);
      }
      (scrub_acts (Scrubbed report.rows report.bad report.first_bad) left
      (λ fair rows bad first_bad told. is.scrubs.reads fair (same_table (is.scrubs.complete report done))))

-- a refusal of the array's call is one of the store's
refused_applies : (honest : Type 0) (IsTold : Table → Slots → Report → Type 0) (command : SetCommand) (like : IsLikeScrub command) (old new : StoreView)
    (refusal : Refusal) → InspectsRows honest IsTold old new (Err refusal) → Applies honest (OnSet command) old new (Refused refusal)
refused_applies honest IsTold command like old new refusal is =
    acts_on_set honest command Report old new (Err refusal) (Refused refusal) (refused_replies Report refusal)
    (scrub_acts honest IsTold command like old new (Err refusal) is (Refused refusal)
    (λ unended. left_refused honest IsTold command like old new (Err refusal) is refusal unended (is.scrubs.cause refusal refl) unended)
    (λ fair rows bad first_bad answered. absurd (refused_not_scrubbed refusal rows bad first_bad answered)))

-- ---- of the whole set

whole_told : (honest : Type 0) (old new : StoreView) (report : Report) → InspectsRows honest (IsReport honest) old new (Ok report)
    → SetIsLeft honest (OnSet Scrub) old new (Scrubbed report.rows report.bad report.first_bad)
whole_told honest old new report is =
    let complete = is.scrubs.complete report refl in
    let told = is.scrubs.told report refl in
    let same = same_table honest (IsReport honest) Scrub whole_set old new (Ok report) is complete in
    left_told honest (IsReport honest) Scrub whole_set old new (Ok report) is (λ never. never) complete report told.rows
    (λ fair. subst (λ (t : Table). AreUnsound t (readable new.array.history) told.rows) same (told.are fair))
    (ap (λ (n : ℕ). Scrubbed n report.bad report.first_bad) (told.tells.rows ∙ ap row_count same)
    ∙ ap (λ (n : ℕ). Scrubbed (row_count old.array.table) n report.first_bad) told.tells.bad
    ∙ ap (λ (first : Option ℕ). Scrubbed (row_count old.array.table) (length told.rows) first) told.tells.first_bad)

pub scrub_applies : (honest : Type 0) (old new : StoreView) (answer : Result Report Refusal)
    → InspectsRows honest (IsReport honest) old new answer → ScrubsSet honest old new answer
scrub_applies honest old new (Ok report) is =
    answered honest (IsReport honest) Scrub whole_set old new (Ok report) is report refl (λ unended. whole_told honest old new report is)
scrub_applies honest old new (Err refusal) is = refused_applies honest (IsReport honest) Scrub whole_set old new refusal is

-- ---- of a part

part_told : (honest : Type 0) (first count : ℕ) (old new : StoreView) (report : Report)
    → InspectsRows honest (IsPartReport honest first count) old new (Ok report)
    → SetIsLeft honest (OnSet (ScrubRows first count)) old new (Scrubbed report.rows report.bad report.first_bad)
part_told honest first count old new report is =
    let complete = is.scrubs.complete report refl in
    let told = is.scrubs.told report refl in
    let same = same_table honest (IsPartReport honest first count) (ScrubRows first count) (a_part first count) old new (Ok report) is complete in
    let image = readable new.array.history in
    let all = unsound_rows old.array.table image in
    let these : rows_within first count (around first count all told.rows) ≡ told.rows = within_around first count all told.rows
    (λ row among. ((told.of_part row among).from_first, (told.of_part row among).before_end)) in
    left_told honest (IsPartReport honest first count) (ScrubRows first count) (a_part first count) old new (Ok report) is (λ never. never) complete report
    (around first count all told.rows)
    (λ fair. unsound_around old.array.table image first count all told.rows (are_unsound old.array.table image)
    (subst (λ (t : Table). AreUnsoundIn t image first count told.rows) same (told.are fair)))
    (ap (λ (n : ℕ). Scrubbed n report.bad report.first_bad) (told.looked_at ∙ ap (λ (t : Table). rows_in_part (row_count t) first count) same)
    ∙ ap (λ (n : ℕ). Scrubbed (rows_in_part (row_count old.array.table) first count) n report.first_bad) (told.bad ∙ ap length (sym these))
    ∙ ap (λ (o : Option ℕ). Scrubbed (rows_in_part (row_count old.array.table) first count)
    (length (rows_within first count (around first count all told.rows))) o) (told.first_bad ∙ ap (λ (rows : List ℕ). slice_get rows 0) (sym these)))

pub part_applies : (honest : Type 0) (first count : ℕ) (old new : StoreView) (answer : Result Report Refusal)
    → InspectsRows honest (IsPartReport honest first count) old new answer → ScrubsRows honest first count old new answer
part_applies honest first count old new (Ok report) is =
    answered honest (IsPartReport honest first count) (ScrubRows first count) (a_part first count) old new (Ok report) is report refl
    (λ unended. part_told honest first count old new report is)
part_applies honest first count old new (Err refusal) is =
    refused_applies honest (IsPartReport honest first count) (ScrubRows first count) (a_part first count) old new refusal is

-- the refusal that is kept is that of the code's answer
pub kept_by_code : (old new : StoreView) (answer : Result ScrubReport Refusal)
    → KeepsRefusal ScrubReport old new answer → KeepsRefusal Report old new (told_by answer)
kept_by_code old new (Ok report) is = kept_if_done ScrubReport Report old new report (report_of report) is
kept_by_code old new (Err cause) is = kept_if_refused ScrubReport Report old new cause is
