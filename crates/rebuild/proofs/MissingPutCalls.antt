-- Device calls that write the device of a missing slot, and read others: what each moment of them is, and which device
-- failed in them.
use Rattle.std.proofs.Common.{◌≡◌, ◌≢◌, ◌⊎◌, inl, inr, ℕ, ◌<◌, Bool, true, false, cond, List, [], ◌∷◌, ◌++◌}
use Rattle.std.proofs.Common.{replicate, refl, sym, ◌∙◌, ap, subst, arith}
use Rattle.std.proofs.lemmas.Bool.{cases_eq}
use Rattle.sector_model.specs.declared.event.Event.TheVariants.{Quiet, DeviceFailed}
use Rattle.sector_model.specs.Calls.{Call, Flush, Made, Performs, Read, Write, after_call, device_of}
use Rattle.sector_model.specs.History.{After, Bytes, History, MayHold, is_down, sector_of, seen}
use Rattle.sector_model.specs.Moments.{Contents, LeavesWithin, Throughout}
use Rattle.sector_model.specs.Readable.{NothingPending}
use Rattle.sector_model.proofs.Sequences.{AllKeep, IsKeptBy, down_after, kept_both, kept_up, kept_within}
use Rattle.sector_model.proofs.Sequences.{throughout_kept}
use Rattle.sector_model.proofs.Steps.{throughout_more}
use Rattle.layout_map.specs.declared.sizes.TheConstants.{SUPERBLOCK_PLACES}
use Rattle.stripe_journal.specs.OneEntry.{StaysOff}
use Rattle.stripe_journal.proofs.OneEntryCalls.{kept_off, stays_off_call, stays_off_none}
use Rattle.rebuild.proofs.MissingPut.{IsMissingPut}

-- a call of the slot's device, which puts zeros in the two places of superblocks, or a read of any device of the set
abbrev pub IsMissingCall : (slots slot : ℕ) → Call → Type 0
IsMissingCall slots slot (Read device at) = device < slots
IsMissingCall slots slot (Write device at value) = (device ≡ slot) × (at < SUPERBLOCK_PLACES → value ≡ replicate 512 0)
IsMissingCall slots slot (Flush device) = device ≡ slot

abbrev pub AllMissing : (slots slot : ℕ) → List Call → Type 0
AllMissing slots slot [] = Unit {0}
AllMissing slots slot (call ∷ calls) = IsMissingCall slots slot call × AllMissing slots slot calls

pub missing_both : (slots slot : ℕ) (first second : List Call) → AllMissing slots slot first
    → AllMissing slots slot second → AllMissing slots slot (first ++ second)
missing_both slots slot [] second all more = more
missing_both slots slot (call ∷ first) second (one, others) more =
    (one, missing_both slots slot first second others more)

-- reads of other devices give what they gave
pub record OthersSeen (slot : ℕ) (old h : History) : Type 0 where
  pub same : (device : ℕ) → device ≢ slot → seen h device ≡ seen old device

kept_others : (slots slot : ℕ) (old : History) (call : Call) → IsMissingCall slots slot call
    → IsKeptBy (OthersSeen slot old) call
kept_others slots slot old (Write device at value) (same, zero) = record {
  keeps = λ answered h before. record {
    same = λ d apart. (stays_off_call (λ k. k ≡ slot) (Write device at value) answered h same).others_seen d apart
        ∙ before.same d apart;
  };
}
kept_others slots slot old (Flush device) same = record {
  keeps = λ answered h before. record {
    same = λ d apart. (stays_off_call (λ k. k ≡ slot) (Flush device) answered h same).others_seen d apart
        ∙ before.same d apart;
  };
}
kept_others slots slot old (Read device at) within = record { keeps = read }
  where
    fault : (b : Bool) (h : History) → OthersSeen slot old h
        → OthersSeen slot old (After (cond b Quiet (DeviceFailed device)) h)
    fault true h before = record { same = before.same }
    fault false h before = record { same = before.same }

    read : (answered : Bool) (h : History) → OthersSeen slot old h
        → OthersSeen slot old (after_call (Read device at) answered h)
    read true h before = record { same = before.same }
    read false h before = fault (is_down h device) h before

-- what may stand in a sector meanwhile
abbrev OldOrPut : ℕ → History → Contents
OldOrPut slot old device at value = MayHold old device at value ⊎ ((device ≡ slot) × (at < SUPERBLOCK_PLACES → value ≡ replicate 512 0))

abbrev IsPut : (slots slot : ℕ) → History → History → Type 0
IsPut slots slot old h = (LeavesWithin (OldOrPut slot old) h × StaysOff (λ d. d < slots) old h) × OthersSeen slot old h

is_put : (slots slot : ℕ) (old h : History) → IsPut slots slot old h → IsMissingPut slots slot old h
is_put slots slot old h is = record {
  holds = is.0.0.each;
  start = is.0.1.start;
  stays_down = is.0.1.stays_down;
  others_seen = is.1.same;
  beyond_stay = λ device beyond. is.0.1.others_down device (λ within. absurd (omega (arith, within, beyond)));
}

kept_put : (slots slot : ℕ) (old : History) → slot < slots → (call : Call) → IsMissingCall slots slot call
    → IsKeptBy (IsPut slots slot old) call
kept_put slots slot old of_set (Read device at) within =
    kept_both (λ h. LeavesWithin (OldOrPut slot old) h × StaysOff (λ d. d < slots) old h) (OthersSeen slot old)
    (Read device at)
    (kept_both (LeavesWithin (OldOrPut slot old)) (λ h. StaysOff (λ d. d < slots) old h) (Read device at)
    (kept_within (OldOrPut slot old) (Read device at) tt) (kept_off (λ d. d < slots) old (Read device at) within))
    (kept_others slots slot old (Read device at) within)
kept_put slots slot old of_set (Write device at value) (same, zero) =
    kept_both (λ h. LeavesWithin (OldOrPut slot old) h × StaysOff (λ d. d < slots) old h) (OthersSeen slot old)
    (Write device at value)
    (kept_both (LeavesWithin (OldOrPut slot old)) (λ h. StaysOff (λ d. d < slots) old h) (Write device at value)
    (kept_within (OldOrPut slot old) (Write device at value) (inr (same, zero)))
    (kept_off (λ d. d < slots) old (Write device at value) (omega (arith, same, of_set))))
    (kept_others slots slot old (Write device at value) (same, zero))
kept_put slots slot old of_set (Flush device) same =
    kept_both (λ h. LeavesWithin (OldOrPut slot old) h × StaysOff (λ d. d < slots) old h) (OthersSeen slot old)
    (Flush device)
    (kept_both (LeavesWithin (OldOrPut slot old)) (λ h. StaysOff (λ d. d < slots) old h) (Flush device)
    (kept_within (OldOrPut slot old) (Flush device) tt)
    (kept_off (λ d. d < slots) old (Flush device) (omega (arith, same, of_set))))
    (kept_others slots slot old (Flush device) same)

all_kept : (slots slot : ℕ) (old : History) → slot < slots → (calls : List Call) → AllMissing slots slot calls
    → AllKeep (IsPut slots slot old) calls
all_kept slots slot old of_set [] all = tt
all_kept slots slot old of_set (call ∷ calls) (one, others) =
    (kept_put slots slot old of_set call one, all_kept slots slot old of_set calls others)

-- each moment of such calls
pub missing_throughout : (slots slot : ℕ) → slot < slots → {calls : List Call} {answered : Bool} {old new : History}
    → AllMissing slots slot calls → Made calls answered old new
    → Throughout (IsMissingPut slots slot old) old new
missing_throughout slots slot of_set {calls = calls} {old = old} {new = new} all made =
    throughout_more (λ h is. is_put slots slot old h is) new
    (throughout_kept (IsPut slots slot old) (all_kept slots slot old of_set calls all) (
      (record { each = λ device at value may. inl may }, stays_off_none (λ d. d < slots) old),
      record { same = λ device apart. refl },
    ) made)

-- which device failed

differ : true ≡ false → ⊥
differ is = cc

failed_alone : (calls : List Call) (old new : History) (slot : ℕ) → Performs calls false old new
    → is_down old slot ≡ false → is_down new slot ≡ true
    → (other : ℕ) → other ≢ slot → is_down new other ≡ is_down old other
failed_alone [] old new slot (all, is) up down other apart = absurd (cc)
failed_alone (call ∷ calls) old new slot (inl (none, inl is)) up down other apart =
    absurd (differ (sym down ∙ ap (λ (h : History). is_down h slot) is ∙ up))
failed_alone (call ∷ calls) old new slot (inl (none, inr is)) up down other apart =
    elim (cases_eq slot (device_of call)) [
      | inl same ↦ ap (λ (h : History). is_down h other) is
          ∙ (stays_off_call (λ d. d ≡ slot) call false old (sym same)).others_down other apart
      | inr differs ↦ absurd (differ (sym down ∙ ap (λ (h : History). is_down h slot) is
          ∙ (kept_up slot call differs).keeps false old up))
    ]
failed_alone (call ∷ calls) old new slot (inr (was_up, rest)) up down other apart =
    failed_alone calls (after_call call true old) new slot rest (down_after (call ∷ []) old slot ∙ up) down other apart
    ∙ down_after (call ∷ []) old other

-- Where the slot's device failed in calls, no other did.
pub alone_failed : {calls : List Call} {old new : History} (slot : ℕ) → Made calls false old new
    → is_down old slot ≡ false → is_down new slot ≡ true
    → (other : ℕ) → other ≢ slot → is_down new other ≡ is_down old other
alone_failed {calls = calls} {old = old} {new = new} slot made = failed_alone calls old new slot made.performed

-- Nothing is pending where what a crash leaves on the slot's device is what reads give, if it is up.
pub missing_pending : (slots slot : ℕ) (old h : History) → NothingPending old → IsMissingPut slots slot old h
    → ((device : ℕ) → device ≢ slot → is_down h device ≡ is_down old device)
    → (is_down h slot ≡ false → (at : ℕ) (value : Bytes) → MayHold h slot at value
    → value ≡ sector_of (seen h slot) at) → NothingPending h
missing_pending slots slot old h pending is stay flushed d at first second up may may' = elim (cases_eq d slot) [
  | inl same ↦
      let here : (value : Bytes) → MayHold h d at value → value ≡ sector_of (seen h slot) at =
      λ value held. flushed (sym (ap (is_down h) same) ∙ up) at value
      (subst (λ (k : ℕ). MayHold h k at value) same held) in
      here first may ∙ sym (here second may')
  | inr apart ↦ pending d at first second (sym (stay d apart) ∙ up) (was d at first apart may)
      (was d at second apart may')
]
  where
    was : (d at : ℕ) (value : Bytes) → d ≢ slot → MayHold h d at value → MayHold old d at value
    was d at value apart may = elim (is.holds d at value may) [
      | inl before ↦ before
      | inr put ↦ absurd (apart put.0)
    ]
