-- What was read of the rows, or the failure among them, is a scrub.
use Rattle.std.proofs.Common.{◌≡◌, ◌∙◌, ◌⊎◌, inl, inr, ℕ, ◌+◌, ◌*◌, ◌<◌, Bool, true, false, refl, sym, ap, subst}
use Rattle.std.specs.Prelude.{IfOk, IfSome, Option, Some, None, Ok, Err, Result}
use Rattle.std.proofs.lemmas.Result.{IfErr-at_err, IfOk-at_ok}
use Rattle.sector_model.specs.declared.refusal.Refusal.{Refusal}
use Rattle.sector_model.specs.declared.refusal.Refusal.TheVariants.{Incomplete, TwoLost, Worn}
use Rattle.sector_model.specs.Bank.{IsTrueTo, Panel}
use Rattle.sector_model.specs.History.{History, Slots}
use Rattle.sector_model.specs.Readable.{readable}
use Rattle.sector_model.proofs.Reading.{read_none}
use Rattle.sector_model.specs.Reads.{HasRead}
use Rattle.superblock.specs.declared.state.State.TheVariants.{InSync, Missing}
use Rattle.superblock.specs.declared.table.Table.{Table}
use Rattle.layout_map.specs.declared.geometry.Geometry.{Geometry}
use Rattle.superblock.specs.NextTables.{IsComplete, slots_of}
use Rattle.array_io.specs.Believed.Holds.{row_count}
use Rattle.array_io.specs.Steps.CallSteps.{StepsOf}
use Rattle.array_io.specs.Steps.ReadingOn.{Between, KeepsList}
use Rattle.array_io.specs.Steps.Scanning.{HasScanned, ScansOrFailsSlot}
use Rattle.array_io.specs.Believed.Views.{ArrayView, HasItsSlots, IsEndOf, view_of}
use Rattle.array_io.proofs.Calls.CallSteps.{step_is_end, two_or_worn}
use Rattle.array_io.proofs.Images.Codecs.{spellings}
use Rattle.array_io.proofs.Instances.{goes_on_at_rest, keeps_at_rest, stays_at_rest}
use Rattle.array_io.proofs.Marks.MarkingHolds.{missing_then}
use Rattle.array_io.proofs.Reading.ReadCall.{keeps_by_steps}
use Rattle.array_io.proofs.Reading.Scanning.{all_scanned, answer_of_read, failure_scanned, none_complete, reads_alone, scans_step}
use Rattle.array_io.proofs.Writes.Writable.{same_readable}
use Rattle.scrub.specs.declared.report.ScrubReport.{ScrubReport}
use Rattle.scrub.specs.Reports.{report_of, reported, told_by, were_read}
use Rattle.scrub.specs.Scrubbing.{AreUnsoundIn, IsNoScrub, IsPartReport, IsReport, LooksAtRows, Report, Scrubs, ScrubsPart}
use Rattle.scrub.proofs.Telling.{report_of_all}

-- a set that is not complete is not scrubbed
pub not_complete_is_refused : (honest : Type 0) (IsTold : Table → Slots → Report → Type 0) (array : ArrayView)
    → ¬ IsComplete array.table → LooksAtRows honest IsTold array array (Err Incomplete)
not_complete_is_refused honest IsTold array lacks = record {
  goes_on = goes_on_at_rest array;
  number = refl;
  stays = stays_at_rest _ array _;
  incomplete = λ lacking. (refl, refl);
  complete = λ told answered. absurd (cc);
  told = λ told answered. absurd (cc);
  reads = λ fair same. read_none array.history;
  keeps = keeps_at_rest honest array _;
  cause = λ refusal refused. IfErr-at_err (λ (r : Refusal). IsNoScrub array array r) refused lacks;
}

module _ (honest : Type 0) (first count number : ℕ) (table new_table : Table) (old_panel new_panel : Panel) (old new : History)
    (true_old : honest → IsTrueTo old_panel old) (true_new : honest → IsTrueTo new_panel new)
    (its : HasItsSlots table old_panel) (complete : IsComplete table) where
  abbrev Was : ArrayView
  Was = view_of old_panel old table number

  abbrev Now : ArrayView
  Now = view_of new_panel new new_table number

  abbrev Scans : Result Bool Refusal → Type 0
  Scans result = ScansOrFailsSlot honest table new_table old_panel new_panel old new result

  steps : (result : Result Bool Refusal) → Scans result
      → StepsOf honest (KeepsList old_panel.devices) (Between old_panel.devices number)
      (Between old_panel.devices number) Was Now (answer_of_read result)
  steps result scans = scans_step spellings honest old_panel.devices number table new_table old_panel new_panel old new
      result true_old true_new its scans

  -- all rows were read
  told_of_all : (report : Report) → (new_table ≡ table) × HasScanned honest old_panel new_panel old new → IsPartReport
      honest first count table (readable old) report → IsPartReport honest first count new_table (readable new) report
  told_of_all report (same, scanned) is = subst (λ (t : Table). IsPartReport honest first count t (readable new) report) (sym same)
      record {
        rows = is.rows;
        rising = is.rising;
        of_part = is.of_part;
        looked_at = is.looked_at;
        bad = is.bad;
        first_bad = is.first_bad;
        are = λ fair. subst (λ (i : Slots). AreUnsoundIn table i first count is.rows)
            (sym (same_readable old new (scanned.reads fair) (scanned.stays fair))) (is.are fair);
      }

  answered : (report : ScrubReport) → Scans (Ok true)
      → IsPartReport honest first count table (readable old) (report_of report)
      → ScrubsPart honest first count Was Now (Ok (report_of report))
  answered report scans is =
      let all = all_scanned honest table new_table old_panel new_panel old new scans refl in
      record {
        goes_on = (steps (Ok true) scans).goes_on;
        number = refl;
        stays = (steps (Ok true) scans).stays;
        incomplete = λ lacking. absurd (lacking complete);
        complete = λ told answered. subst IsComplete (sym all.0) complete;
        told = λ told answered. IfOk-at_ok (λ (r : Report). IsPartReport honest first count new_table (readable new) r) answered
            (told_of_all (report_of report) all is);
        reads = λ fair same. reads_alone honest table new_table old_panel new_panel old new scans same fair;
        keeps = keeps_by_steps spellings honest number table new_table old_panel new_panel old new (Ok tt) true_old
            true_new (steps (Ok true) scans);
        cause = λ refusal refused. absurd (cc);
      }

  -- a slot was marked missing
  marked : Scans (Ok false) → ScrubsPart honest first count Was Now (Err Incomplete)
  marked scans = record {
    goes_on = (steps (Ok false) scans).goes_on;
    number = refl;
    stays = (steps (Ok false) scans).stays;
    incomplete = λ lacking. absurd (lacking complete);
    complete = λ told answered. absurd (cc);
    told = λ told answered. absurd (cc);
    reads = λ fair same. reads_alone honest table new_table old_panel new_panel old new scans same fair;
    keeps = keeps_by_steps spellings honest number table new_table old_panel new_panel old new (Ok tt) true_old
        true_new (steps (Ok false) scans);
    cause = λ refusal refused. IfErr-at_err (λ (r : Refusal). IsNoScrub Was Now r) refused
        (none_complete honest table new_table old_panel new_panel old new
        (failure_scanned honest table new_table old_panel new_panel old new scans refl));
  }

  by_cause : (refusal : Refusal) → (refusal ≡ TwoLost) ⊎ (refusal ≡ Worn) → IsEndOf Was Now ⊥ refusal → IsNoScrub Was
      Now refusal
  by_cause refusal (inl two) end = subst (IsNoScrub Was Now) (sym two) (subst (IsEndOf Was Now ⊥) two end)
  by_cause refusal (inr worn) end = subst (IsNoScrub Was Now) (sym worn) (subst (IsEndOf Was Now ⊥) worn end)

  -- it ended
  ended : (refusal : Refusal) → Scans (Err refusal) → ScrubsPart honest first count Was Now (Err refusal)
  ended refusal scans =
      let is = steps (Err refusal) scans in
      record {
        goes_on = is.goes_on;
        number = refl;
        stays = is.stays;
        incomplete = λ lacking. absurd (lacking complete);
        complete = λ told answered. absurd (cc);
        told = λ told answered. absurd (cc);
        reads = λ fair same. reads_alone honest table new_table old_panel new_panel old new scans same fair;
        keeps = keeps_by_steps spellings honest number table new_table old_panel new_panel old new (Err refusal)
            true_old true_new is;
        cause = λ r refused. IfErr-at_err (λ (r : Refusal). IsNoScrub Was Now r) refused
            (by_cause refusal (two_or_worn Was Now refusal (is.cause refusal refl))
            (step_is_end Was Now refusal (is.cause refusal refl)));
      }

  -- each of these is a scrub
  pub scrubs_by_rows : (result : Result (Option ScrubReport) Refusal) → Scans (were_read result)
      → IfOk result (λ found. IfSome found (λ report.
      IsPartReport honest first count table (readable old) (report_of report)))
      → ScrubsPart honest first count Was Now (told_by (reported result))
  scrubs_by_rows (Ok (Some report)) scans told = answered report scans told
  scrubs_by_rows (Ok None) scans told = marked scans
  scrubs_by_rows (Err refusal) scans told = ended refusal scans

-- What is told may be said in other words.
looks_as : (honest : Type 0) (IsTold IsSaid : Table → Slots → Report → Type 0) (old new : ArrayView)
    (answer : Result Report Refusal)
    → ((report : Report) → IsTold new.table (readable new.history) report → IsSaid new.table (readable new.history) report)
    → LooksAtRows honest IsTold old new answer → LooksAtRows honest IsSaid old new answer
looks_as honest IsTold IsSaid old new answer said is = record {
  goes_on = is.goes_on;
  number = is.number;
  stays = is.stays;
  incomplete = is.incomplete;
  complete = is.complete;
  told = λ report answered. said report (is.told report answered);
  reads = is.reads;
  keeps = is.keeps;
  cause = is.cause;
}

-- the scrub of a part that has all rows is one of the set
pub scrubs_all : (honest : Type 0) (old new : ArrayView) (answer : Result Report Refusal)
    → ScrubsPart honest 0 (row_count old.table) old new answer → Scrubs honest old new answer
scrubs_all honest old new answer is =
    looks_as honest (IsPartReport honest 0 (row_count old.table)) (IsReport honest) old new answer
    (λ report told. report_of_all honest new.table (readable new.history) report
    (subst (λ (n : ℕ). IsPartReport honest 0 n new.table (readable new.history) report)
    (ap (λ (g : Geometry). g.stripes * g.chunk) (sym is.goes_on.not_older.same_geometry)) told)) is

-- A scrub that is answered only reads: of a complete set no slot was marked missing.
pub only_read : (honest : Type 0) (IsTold : Table → Slots → Report → Type 0) (old new : ArrayView)
    (answer : Result Report Refusal) (report : Report) → LooksAtRows honest IsTold old new answer
    → answer ≡ Ok report → honest → HasRead old.history new.history
only_read honest IsTold old new answer report scrubs answered fair = elim scrubs.stays.table [
  | inl same ↦ scrubs.reads fair same
  | inr lost ↦
      let gone = missing_then old.table new.table lost.slot lost.marked lost.of_set in
      let of_new : lost.slot < slots_of new.table = subst (λ (g : Geometry). lost.slot < g.members + 2)
      (sym lost.marked.same_geometry) lost.of_set in
      let never : Missing ≡ InSync = sym gone ∙ (scrubs.complete report answered).in_sync lost.slot of_new in
      absurd (cc)
]
