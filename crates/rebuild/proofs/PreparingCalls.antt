-- The calls of preparing a device, one more and part by part.
use Rattle.std.proofs.Common.{◌≡◌, ◌⊎◌, inl, inr, ℕ, suc, ◌+◌, ◌-◌, ◌<◌, Bool, true, false, List, [], ◌∷◌}
use Rattle.std.proofs.Common.{◌++◌, replicate, Option, Some, None, refl, sym, ◌∙◌, ap, subst, arith}
use Rattle.std.specs.Prelude.{OnOk, Result, Ok, Err, is_ok}
use Rattle.std.proofs.lemmas.Result.{IfErr-at_err}
use Rattle.sector_model.specs.declared.sector.Stop.{Stop}
use Rattle.sector_model.specs.declared.sector.Stop.TheVariants as stop
use Rattle.sector_model.specs.Bank.{IsCauseOf, IsLater, IsTrueTo, Panel, after_try, after_write}
use Rattle.sector_model.specs.Calls.{Call, Flush, Made, Read, Write, writes_from}
use Rattle.sector_model.specs.History.{Bytes, History, seen}
use Rattle.sector_model.proofs.Panels.{later_both}
use Rattle.sector_model.proofs.Sequences.{made_all, made_both, made_none, made_short, made_stop, made_then}
use Rattle.sector_model.proofs.Steps.{throughout_last}
use Rattle.layout_map.specs.declared.sizes.TheConstants.{FIRST_SEAL, HALVES}
use Rattle.superblock.specs.declared.table.Table.{Table}
use Rattle.stripe_journal.specs.declared.seal.Seal.{Seal}
use Rattle.stripe_journal.specs.Copying.{CopiesEntry, body_in, copy_calls}
use Rattle.stripe_journal.specs.LastEntry.{IsLastSealed}
use Rattle.stripe_journal.proofs.OneEntryCalls.{AllOf, stays_off_calls}
use Rattle.array_io.proofs.Commits.PuttingRows.{at_ok}
use Rattle.rebuild.specs.Preparing.{IsJournalBeside}
use Rattle.rebuild.specs.PreparingCalls.{PreparesJournal, clear_calls, zeros}

-- the first of so many sectors of zeros, and the others
zeros_next : (at end : ℕ) → at < end → zeros (end - at) ≡ replicate 512 0 ∷ zeros (end - (at + 1))
zeros_next at end below = let more : end - at ≡ suc (end - (at + 1)) = omega arith in ap (λ (k : ℕ). zeros k) more

-- the write of the first of them is not answered
pub clear_stops : (slot at end : ℕ) {old new : History} (stop : Stop) → at < end
    → new ≡ after_try (after_write slot at (replicate 512 0)) (Err stop) old
    → Made (writes_from slot at (zeros (end - at))) false old new
clear_stops slot at end {old = old} {new = new} stop below is =
    subst (λ (values : List Bytes). Made (writes_from slot at values) false old new) (sym (zeros_next at end below))
    (made_stop (Write slot at (replicate 512 0)) stop is)

-- it is, and then the others
pub clear_goes_on : (slot at end : ℕ) {answered : Bool} {old mid new : History} (done : Unit {0}) (after : Panel)
    → at < end
    → mid ≡ after_try (after_write slot at (replicate 512 0)) (Ok done) old → after.down slot ≡ false
    → IsTrueTo after mid
    → Made (writes_from slot (at + 1) (zeros (end - (at + 1)))) answered mid new
    → Made (writes_from slot at (zeros (end - at))) answered old new
clear_goes_on slot at end {answered = answered} {old = old} {new = new} done after below is up is_true rest =
    subst (λ (values : List Bytes). Made (writes_from slot at values) answered old new) (sym (zeros_next at end below))
    (made_then (Write slot at (replicate 512 0)) done after is up is_true rest)

whole : (slot end : ℕ) {answered : Bool} {old new : History}
    → Made (writes_from slot 0 (zeros (end - 0))) answered old new
    → Made (writes_from slot 0 (zeros end)) answered old new
whole slot end {answered = answered} {old = old} {new = new} made =
    let same : end - 0 ≡ end = omega arith in
    subst (λ (k : ℕ). Made (writes_from slot 0 (zeros k)) answered old new) same made

-- the first sectors are not all cleared
pub clear_short : (slot end : ℕ) {old new : History} → Made (writes_from slot 0 (zeros (end - 0))) false old new
    → Made (clear_calls slot end) false old new
clear_short slot end made = made_short (Flush slot ∷ []) (whole slot end made)

-- they are, and then the device is flushed, or is not
pub clear_flushed : (slot end : ℕ) {answered : Bool} {old mid new : History}
    → Made (writes_from slot 0 (zeros (end - 0))) true old mid → Made (Flush slot ∷ []) answered mid new
    → Made (clear_calls slot end) answered old new
clear_flushed slot end made flushed = made_both (whole slot end made) flushed

-- A journal

-- the two reads of its other journal's seals
abbrev ReadSeals : ℕ → List Call
ReadSeals source = Read source FIRST_SEAL ∷ Read source (FIRST_SEAL + 1) ∷ []

-- why calls of one device ended
abbrev EndsOf : (device : ℕ) → Panel → Stop → Type 0
EndsOf device panel end = IsCauseOf panel end × ((end ≡ stop.Worn) ⊎ (end ≡ stop.Down device))

down_of : (device called : ℕ) (end : Stop) → end ≡ stop.Down device → (end ≡ stop.Worn) ⊎ (end ≡ stop.Down called)
    → device ≡ called
down_of device called end is (inl worn) = absurd (cc)
down_of device called end is (inr down) = cc

no_refusal : (end : Stop) → Ok (tt {0}) ≡ Err end → ⊥
no_refusal end is = cc

refused_not_done : (end : Stop) → Err end ≡ Ok (tt {0}) → ⊥
refused_not_done end is = cc

module _ (honest : Type 0) (table : Table) (source journal : ℕ) (beside : IsJournalBeside table journal source) where
  -- The other journal's seals were not read.
  pub journal_unread : (old_panel new_panel : Panel) (old new : History) (result : Result (Unit {0}) Stop) (end : Stop)
      → result ≡ Err end → IsLater old_panel new_panel
      → (honest → Made (ReadSeals source) false old new) → EndsOf source new_panel end
      → PreparesJournal honest table journal old_panel new_panel old new result
  journal_unread old_panel new_panel old new result end is later made ends =
      subst (λ (r : Result (Unit {0}) Stop). PreparesJournal honest table journal old_panel new_panel old new r)
      (sym is) record {
        later = later;
        source = source;
        beside = beside;
        copies = λ fair. record {
          last = None;
          made = made_short (clear_calls journal (FIRST_SEAL + HALVES) ++ []) (made fair);
          is_last = λ done. absurd (refused_not_done end done);
        };
        cause = λ other same. IfErr-at_err (IsCauseOf new_panel) same ends.0;
        named = λ device same. inr (down_of device source (stop.Down device) refl
            (IfErr-at_err (EndsOf source new_panel) same ends).1);
        up = λ done. absurd (refused_not_done end done);
      }

  -- They were read; the journal was not cleared.
  pub journal_uncleared : (old_panel mid_panel new_panel : Panel) (old mid new : History)
      (result : Result (Unit {0}) Stop) (end : Stop) → result ≡ Err end → IsLater old_panel mid_panel
      → IsLater mid_panel new_panel → (honest → Made (ReadSeals source) true old mid)
      → (honest → Made (clear_calls journal (FIRST_SEAL + HALVES)) false mid new) → EndsOf journal new_panel end
      → PreparesJournal honest table journal old_panel new_panel old new result
  journal_uncleared old_panel mid_panel new_panel old mid new result end is first later read cleared ends =
      subst (λ (r : Result (Unit {0}) Stop). PreparesJournal honest table journal old_panel new_panel old new r)
      (sym is) record {
        later = later_both old_panel mid_panel new_panel first later;
        source = source;
        beside = beside;
        copies = λ fair. record {
          last = None;
          made = made_short [] (made_both (read fair) (cleared fair));
          is_last = λ done. absurd (refused_not_done end done);
        };
        cause = λ other same. IfErr-at_err (IsCauseOf new_panel) same ends.0;
        named = λ device same. inl (down_of device journal (stop.Down device) refl
            (IfErr-at_err (EndsOf journal new_panel) same ends).1);
        up = λ done. absurd (refused_not_done end done);
      }

  module _ (old_panel read_panel mid_panel : Panel) (old read mid : History) (last : Option Seal)
      (first : IsLater old_panel read_panel) (second : IsLater read_panel mid_panel)
      (seals : honest → Made (ReadSeals source) true old read)
      (cleared : honest → Made (clear_calls journal (FIRST_SEAL + HALVES)) true read mid)
      (is_last : honest → IsLastSealed table.id table.geometry (Some (seen old source)) last) where
    -- reads of the other journal give what they gave
    same_source : honest → seen mid source ≡ seen old source
    same_source fair =
        (throughout_last mid
        (stays_off_calls (λ d. d ≡ journal) (clear_of_journal 0 (zeros (FIRST_SEAL + HALVES)))
        (cleared fair))).others_seen source beside.apart
        ∙ ap (λ (h : History). seen h source) (made_all (seals fair))
      where
        clear_of_journal : (at : ℕ) (values : List Bytes)
            → AllOf (λ d. d ≡ journal) (writes_from journal at values ++ Flush journal ∷ [])
        clear_of_journal at [] = (refl, tt)
        clear_of_journal at (value ∷ values) = (refl, clear_of_journal (at + 1) values)

    -- There is no entry to copy.
    pub journal_cleared : last ≡ None → mid_panel.down journal ≡ false
        → PreparesJournal honest table journal old_panel mid_panel old mid (Ok tt)
    journal_cleared none up = record {
      later = later_both old_panel read_panel mid_panel first second;
      source = source;
      beside = beside;
      copies = λ fair. record {
        last = None;
        made = made_both (made_both (seals fair) (cleared fair)) (made_none mid);
        is_last = λ done. subst (λ (o : Option Seal). IsLastSealed table.id table.geometry
            (Some (seen old source)) o) none (is_last fair);
      };
      cause = λ end is. absurd (no_refusal end is);
      named = λ device is. absurd (no_refusal (stop.Down device) is);
      up = λ done. up;
    }

    -- There is one, and it is copied, or not.
    pub journal_copied : (still : Type 0) → (honest → still) → (seal : Seal) → last ≡ Some seal
        → (new_panel : Panel) (new : History) (result : Result (Unit {0}) Stop)
        → CopiesEntry still table.geometry.members source journal seal mid_panel new_panel mid new result
        → OnOk result (new_panel.down journal ≡ false)
        → PreparesJournal honest table journal old_panel new_panel old new result
    journal_copied still more seal some new_panel new result copies up = record {
      later = later_both old_panel mid_panel new_panel
          (later_both old_panel read_panel mid_panel first second) copies.later;
      source = source;
      beside = beside;
      copies = λ fair. record {
        last = Some seal;
        made = made_both (made_both (seals fair) (cleared fair))
            (subst (λ (disk : List Bytes). Made (copy_calls source journal seal
            (body_in table.geometry.members disk seal)) (is_ok result) mid new) (same_source fair)
            (copies.made (more fair)));
        is_last = λ done. subst (λ (o : Option Seal). IsLastSealed table.id table.geometry
            (Some (seen old source)) o) some (is_last fair);
      };
      cause = copies.cause;
      named = λ device is. elim (copies.named device is) [
        | inl from ↦ inr from
        | inr to ↦ inl to
      ];
      up = λ done. at_ok result up done;
    }
