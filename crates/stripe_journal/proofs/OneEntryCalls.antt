-- The calls that put an entry on one journal: what may stand on it at each moment, and that other devices are as they were.
use Rattle.std.proofs.Common.{◌≡◌, ◌≢◌, ◌⊎◌, inl, inr, ℕ, ◌+◌, ◌<◌, ◌≤◌, Bool, true, false, cond, List, [], ◌∷◌, ◌++◌, length, refl, sym, ◌∙◌, ap, subst, arith}
use Rattle.std.proofs.Common.{◌==◌, ◌||◌}
use Rattle.std.specs.Prelude.{slice_index_or, slice_set}
use Rattle.layout_map.specs.Formats.{body_sectors, journal_sectors}
use Rattle.sector_model.specs.declared.event.Event.{Event}
use Rattle.sector_model.specs.declared.event.Event.TheVariants.{Quiet, Wrote, Lost, Flushed, DeviceFailed}
use Rattle.sector_model.specs.Bank.{fault_at}
use Rattle.sector_model.specs.Calls.{Call, Read, Write, Flush, Made, after_all, after_call, device_of, writes_from}
use Rattle.sector_model.specs.History.{Bytes, History, After, MayHold, is_down, sector_of, seen, start_of}
use Rattle.sector_model.specs.Moments.{Contents, LeavesWithin, Throughout}
use Rattle.sector_model.proofs.Replay.{eqb_other}
use Rattle.sector_model.proofs.Sequences.{AllKeep, IsKeptBy, IsSafe, PutsOnly, after_both, down_after, keep_both, kept_after, kept_both, kept_within, made_all}
use Rattle.sector_model.proofs.Sequences.{made_up, safe_kept_as, safe_phase, seen_writes, seen_written, sizes_after, throughout_kept, throughout_made, up_after}
use Rattle.sector_model.proofs.Steps.{Puts, may_hold_before}
use Rattle.stripe_journal.specs.declared.seal.Seal.{Seal}
use Rattle.stripe_journal.specs.Body.{seal_place}
use Rattle.stripe_journal.specs.Copying.{copied_from, copy_calls}
use Rattle.stripe_journal.specs.Entries.{body_start}
use Rattle.stripe_journal.specs.Forms.{format_of}
use Rattle.stripe_journal.specs.OneEntry.{EntryStage, IsOn, MayStandOn, StaysOff, Writing, Staged, Sealing, Sealed}
use Rattle.stripe_journal.specs.Spelling.{seal_sector}
use Rattle.stripe_journal.proofs.Halves.{seal_before, start_end, start_least}

-- calls of some devices leave the others as they were

pub stays_off_none : (devices : ℕ → Type 0) (h : History) → StaysOff devices h h
stays_off_none devices h = record {
  start = λ device. refl;
  stays_down = λ device down. down;
  others = λ device at value other may. may;
  others_down = λ device other. refl;
  others_seen = λ device other. refl;
}

pub stays_off_both : (devices : ℕ → Type 0) (old mid new : History) → StaysOff devices old mid → StaysOff devices mid new → StaysOff devices old new
stays_off_both devices old mid new first second = record {
  start = λ device. second.start device ∙ first.start device;
  stays_down = λ device down. second.stays_down device (first.stays_down device down);
  others = λ device at value other may. first.others device at value other (second.others device at value other may);
  others_down = λ device other. second.others_down device other ∙ first.others_down device other;
  others_seen = λ device other. second.others_seen device other ∙ first.others_seen device other;
}

-- the same of more devices
pub stays_off_more : (devices more : ℕ → Type 0) (old new : History) → ((device : ℕ) → devices device → more device) → StaysOff devices old new
    → StaysOff more old new
stays_off_more devices more old new also is = record {
  start = is.start;
  stays_down = is.stays_down;
  others = λ device at value other. is.others device at value (λ one. other (also device one));
  others_down = λ device other. is.others_down device (λ one. other (also device one));
  others_seen = λ device other. is.others_seen device (λ one. other (also device one));
}

-- what an event does is done to this device
abbrev IsOf : ℕ → Event → Type 0
IsOf dev Quiet = Unit {0}
IsOf dev (Wrote device at value) = device ≡ dev
IsOf dev (Lost device at value) = device ≡ dev
IsOf dev (Flushed device) = device ≡ dev
IsOf dev (DeviceFailed device) = device ≡ dev

or_down : (a b : Bool) → b ≡ true → (a || b) ≡ true
or_down true b is = refl
or_down false b is = is

event_down : (e : Event) (h : History) (d : ℕ) → is_down h d ≡ true → is_down (After e h) d ≡ true
event_down Quiet h d down = down
event_down (Wrote device at value) h d down = down
event_down (Lost device at value) h d down = or_down (d == device) (is_down h d) down
event_down (Flushed device) h d down = down
event_down (DeviceFailed device) h d down = or_down (d == device) (is_down h d) down

down_other : (device d : ℕ) (b : Bool) → d ≢ device → (d == device || b) ≡ b
down_other device d b other = ap (λ (c : Bool). c || b) (eqb_other d device other)

event_down_other : (dev : ℕ) (e : Event) (h : History) (d : ℕ) → IsOf dev e → d ≢ dev → is_down (After e h) d ≡ is_down h d
event_down_other dev Quiet h d is other = refl
event_down_other dev (Wrote device at value) h d is other = refl
event_down_other dev (Lost device at value) h d is other = down_other device d (is_down h d) (λ same. other (same ∙ is))
event_down_other dev (Flushed device) h d is other = refl
event_down_other dev (DeviceFailed device) h d is other = down_other device d (is_down h d) (λ same. other (same ∙ is))

event_seen_other : (dev : ℕ) (e : Event) (h : History) (d : ℕ) → IsOf dev e → d ≢ dev → seen (After e h) d ≡ seen h d
event_seen_other dev Quiet h d is other = refl
event_seen_other dev (Wrote device at value) h d is other =
    ap (λ (b : Bool). cond b (slice_set (seen h d) at value) (seen h d)) (eqb_other d device (λ same. other (same ∙ is)))
event_seen_other dev (Lost device at value) h d is other = refl
event_seen_other dev (Flushed device) h d is other = refl
event_seen_other dev (DeviceFailed device) h d is other = refl

puts_of : (dev : ℕ) (e : Event) (d at : ℕ) (value : Bytes) → IsOf dev e → Puts e d at value → d ≡ dev
puts_of dev Quiet d at value is put = absurd put
puts_of dev (Wrote device place bytes) d at value is put = put.0 ∙ is
puts_of dev (Lost device place bytes) d at value is put = put.0 ∙ is
puts_of dev (Flushed device) d at value is put = absurd put
puts_of dev (DeviceFailed device) d at value is put = absurd put

start_event : (e : Event) (h : History) (d : ℕ) → start_of (After e h) d ≡ start_of h d
start_event e h d = refl

stays_off_event : (devices : ℕ → Type 0) (dev : ℕ) (e : Event) (h : History) → devices dev → IsOf dev e → StaysOff devices h (After e h)
stays_off_event devices dev e h one is = record {
  start = λ device. start_event e h device;
  stays_down = λ device. event_down e h device;
  others = λ device at value other may. elim (may_hold_before e h device at value may) [
    | inl put ↦ absurd (apart device other (puts_of dev e device at value is put))
    | inr before ↦ before
  ];
  others_down = λ device other. event_down_other dev e h device is (apart device other);
  others_seen = λ device other. event_seen_other dev e h device is (apart device other);
}
  where
    apart : (device : ℕ) → ¬ devices device → device ≢ dev
    apart device other same = other (subst devices (sym same) one)

stays_off_fault : (devices : ℕ → Type 0) (dev : ℕ) (fault : Event) (h : History) → devices dev → IsOf dev fault
    → StaysOff devices h (After (fault_at dev fault h) h)
stays_off_fault devices dev fault h one is = by_state (is_down h dev)
  where
    by_state : (b : Bool) → StaysOff devices h (After (cond b Quiet fault) h)
    by_state true = stays_off_event devices dev Quiet h one tt
    by_state false = stays_off_event devices dev fault h one is

pub stays_off_call : (devices : ℕ → Type 0) (call : Call) (answered : Bool) (h : History) → devices (device_of call)
    → StaysOff devices h (after_call call answered h)
stays_off_call devices (Read device at) true h one = stays_off_event devices device Quiet h one tt
stays_off_call devices (Read device at) false h one = stays_off_fault devices device (DeviceFailed device) h one refl
stays_off_call devices (Write device at value) true h one = stays_off_event devices device (Wrote device at value) h one refl
stays_off_call devices (Write device at value) false h one = stays_off_fault devices device (Lost device at value) h one refl
stays_off_call devices (Flush device) true h one = stays_off_event devices device (Flushed device) h one refl
stays_off_call devices (Flush device) false h one = stays_off_fault devices device (DeviceFailed device) h one refl

-- a call of one of the devices
pub kept_off : (devices : ℕ → Type 0) (old : History) (call : Call) → devices (device_of call) → IsKeptBy (λ h. StaysOff devices old h) call
kept_off devices old call one = record {
  keeps = λ answered h before. stays_off_both devices old h (after_call call answered h) before
      (stays_off_call devices call answered h one);
}

-- each call is of one of the devices
abbrev pub AllOf : (devices : ℕ → Type 0) → List Call → Type 0
AllOf devices [] = Unit {0}
AllOf devices (call ∷ calls) = devices (device_of call) × AllOf devices calls

pub all_off : (devices : ℕ → Type 0) (old : History) (calls : List Call) → AllOf devices calls → AllKeep (λ h. StaysOff devices old h) calls
all_off devices old [] all = tt
all_off devices old (call ∷ calls) (one, others) = (kept_off devices old call one, all_off devices old calls others)

-- at each moment of calls of these devices the others are as they were
pub stays_off_calls : (devices : ℕ → Type 0) {calls : List Call} {answered : Bool} {old new : History} → AllOf devices calls → Made calls answered old new
    → Throughout (λ h. StaysOff devices old h) old new
stays_off_calls devices {calls = calls} {old = old} all made =
    throughout_kept (λ h. StaysOff devices old h) (all_off devices old calls all) (stays_off_none devices old) made

-- a flush at the end

flushed_last : (dev : ℕ) (calls : List Call) (h : History) → after_all (calls ++ Flush dev ∷ []) h ≡ After (Flushed dev) (after_all calls h)
flushed_last dev calls h = after_both calls (Flush dev ∷ []) h

-- after a flush a crash leaves on the device what reads give
flushed_after : (dev : ℕ) (h new : History) → new ≡ After (Flushed dev) h → (at : ℕ) (value : Bytes) → MayHold new dev at value
    → value ≡ sector_of (seen new dev) at
flushed_after dev h new is at value = subst (λ (g : History). MayHold g dev at value → value ≡ sector_of (seen g dev) at) (sym is) (λ may. may.1 refl)

-- so too after calls that end in one
pub all_flushed : (dev : ℕ) (calls : List Call) {old new : History} → Made (calls ++ Flush dev ∷ []) true old new → (at : ℕ) (value : Bytes)
    → MayHold new dev at value → value ≡ sector_of (seen new dev) at
all_flushed dev calls {old = old} {new = new} made = flushed_after dev (after_all calls old) new (made_all made ∙ flushed_last dev calls old)

-- calls that are all answered take no device down
pub made_down : {calls : List Call} {old new : History} → Made calls true old new → (d : ℕ) → is_down new d ≡ is_down old d
made_down {calls = calls} {old = old} made d = ap (λ (h : History). is_down h d) (made_all made) ∙ down_after calls old d

-- and the device of the flush is up
pub flushed_is_up : (dev : ℕ) (calls : List Call) {old new : History} → Made (calls ++ Flush dev ∷ []) true old new → is_down new dev ≡ false
flushed_is_up dev calls {old = old} {new = new} made =
    made_down made dev ∙ (up_after calls (Flush dev ∷ []) old (made_up made)).0

-- What calls that put a part of an entry on a journal leave, where all of them were answered: the journal is at this stage, all of it is
-- flushed, and it is up.
pub record IsPutOn (dev : ℕ) (disk : List Bytes) (seal : Seal) (body : List Bytes) (stage : EntryStage) (h : History) : Type 0 where
  pub on : IsOn dev disk seal body stage h
  pub flushed : (at : ℕ) (value : Bytes) → MayHold h dev at value → value ≡ sector_of (seen h dev) at
  pub up : is_down h dev ≡ false

-- a device that is only read

-- a device was not written since a run
pub record IsOnlyRead (device : ℕ) (old h : History) : Type 0 where
  pub may : (at : ℕ) (value : Bytes) → MayHold h device at value → MayHold old device at value
  pub same : seen h device ≡ seen old device

only_read_none : (device : ℕ) (h : History) → IsOnlyRead device h h
only_read_none device h = record { may = λ at value held. held; same = refl }

-- a call of another device
only_read_other : (device : ℕ) (old : History) (call : Call) → device ≢ device_of call → IsKeptBy (λ h. IsOnlyRead device old h) call
only_read_other device old call other = record {
  keeps = λ answered h before.
      let off = stays_off_call (λ d. d ≡ device_of call) call answered h refl in
      record { may = λ at value held. before.may at value (off.others device at value other held); same = off.others_seen device other ∙ before.same };
}

-- a read
only_read_read : (device : ℕ) (old : History) (at : ℕ) → IsKeptBy (λ h. IsOnlyRead device old h) (Read device at)
only_read_read device old at = record {
  keeps = λ answered h before. read answered h before;
}
  where
    fault : (b : Bool) (h : History) → IsOnlyRead device old h → IsOnlyRead device old (After (cond b Quiet (DeviceFailed device)) h)
    fault true h before = record { may = before.may; same = before.same }
    fault false h before = record { may = before.may; same = before.same }

    read : (answered : Bool) (h : History) → IsOnlyRead device old h → IsOnlyRead device old (after_call (Read device at) answered h)
    read true h before = record { may = before.may; same = before.same }
    read false h before = fault (is_down h device) h before

-- a copy gives what writes alone give
copied_seen : (from to at : ℕ) (values : List Bytes) (g h : History) → ((d : ℕ) → seen g d ≡ seen h d) → (d : ℕ)
    → seen (after_all (copied_from from to at values) g) d ≡ seen (after_all (writes_from to at values) h) d
copied_seen from to at [] g h same d = same d
copied_seen from to at (value ∷ values) g h same d =
    copied_seen from to (at + 1) values (After (Wrote to at value) (After Quiet g)) (After (Wrote to at value) h)
    (λ k. ap (λ (l : List Bytes). cond (k == to) (slice_set l at value) l) (same k)) d

-- stages

-- before an entry each sector has what reads give
pub writing_before : (dev : ℕ) (seal : Seal) (body : List Bytes) (h : History)
    → ((at : ℕ) (value : Bytes) → MayHold h dev at value → value ≡ sector_of (seen h dev) at) → IsOn dev (seen h dev) seal body Writing h
writing_before dev seal body h flushed = record {
  each = λ at value may. record {
    elsewhere = λ half place. flushed at value may;
    in_half = λ stage. absurd (stage refl);
    in_place = λ place. flushed at value may;
  };
}

pub staged_writing : (disk : List Bytes) (seal : Seal) (body : List Bytes) (at : ℕ) (value : Bytes) → MayStandOn disk seal body Staged at value
    → MayStandOn disk seal body Writing at value
staged_writing disk seal body at value is = record {
  elsewhere = is.elsewhere;
  in_half = λ stage. absurd (stage refl);
  in_place = is.in_place;
}

pub staged_sealing : (disk : List Bytes) (seal : Seal) (body : List Bytes) (at : ℕ) (value : Bytes) → MayStandOn disk seal body Staged at value
    → MayStandOn disk seal body Sealing at value
staged_sealing disk seal body at value is = record {
  elsewhere = is.elsewhere;
  in_half = λ stage. is.in_half (λ same. cc);
  in_place = λ place. inl (is.in_place place);
}

pub sealed_sealing : (disk : List Bytes) (seal : Seal) (body : List Bytes) (at : ℕ) (value : Bytes) → MayStandOn disk seal body Sealed at value
    → MayStandOn disk seal body Sealing at value
sealed_sealing disk seal body at value is = record {
  elsewhere = is.elsewhere;
  in_half = λ stage. is.in_half (λ same. cc);
  in_place = λ place. inr (is.in_place place);
}

module _ (dev : ℕ) (disk : List Bytes) (seal : Seal) (body : List Bytes) where
  -- the same of a journal
  pub on_more : (stage more : EntryStage) (h : History)
      → ((at : ℕ) (value : Bytes) → MayStandOn disk seal body stage at value → MayStandOn disk seal body more at value)
      → IsOn dev disk seal body stage h → IsOn dev disk seal body more h
  on_more at_stage more h also is = record { each = λ at value may. also at value (is.each at value may) }

  pub is_staged_writing : (h : History) → IsOn dev disk seal body Staged h → IsOn dev disk seal body Writing h
  is_staged_writing h = on_more Staged Writing h (staged_writing disk seal body)

  pub is_staged_sealing : (h : History) → IsOn dev disk seal body Staged h → IsOn dev disk seal body Sealing h
  is_staged_sealing h = on_more Staged Sealing h (staged_sealing disk seal body)

  pub is_sealed_sealing : (h : History) → IsOn dev disk seal body Sealed h → IsOn dev disk seal body Sealing h
  is_sealed_sealing h = on_more Sealed Sealing h (sealed_sealing disk seal body)

  -- a journal that was only read, or not called, is at the stage at which it was
  pub on_only_read : (stage : EntryStage) (old h : History) → IsOnlyRead dev old h → IsOn dev disk seal body stage old → IsOn dev disk seal body stage h
  on_only_read at_stage old h read is = record { each = λ at value held. is.each at value (read.may at value held) }

  pub on_other : (stage : EntryStage) (devices : ℕ → Type 0) (old h : History) → ¬ devices dev → StaysOff devices old h → IsOn dev disk seal body stage old
      → IsOn dev disk seal body stage h
  on_other at_stage devices old h other off is = record { each = λ at value held. is.each at value (off.others dev at value other held) }

  -- as contents
  abbrev On : EntryStage → Contents
  On stage d at value = d ≡ dev → MayStandOn disk seal body stage at value

  as_within : (stage : EntryStage) (h : History) → IsOn dev disk seal body stage h → LeavesWithin (On stage) h
  as_within at_stage h is = record { each = λ d at value may same. is.each at value (subst (λ (k : ℕ). MayHold h k at value) same may) }

  from_within : (stage : EntryStage) (h : History) → LeavesWithin (On stage) h → IsOn dev disk seal body stage h
  from_within at_stage h left = record { each = λ at value may. left.each dev at value may refl }

  -- a call that puts only what may stand there
  pub kept_on : (stage : EntryStage) (call : Call) → PutsOnly (On stage) call → IsKeptBy (λ h. IsOn dev disk seal body stage h) call
  kept_on stage call only = record {
    keeps = λ answered h is. from_within stage (after_call call answered h) ((kept_within (On stage) call only).keeps answered h (as_within stage h is));
  }

  -- a sector of the half of the new entry
  pub half_put : (at : ℕ) (value : Bytes) → body_start seal ≤ at → at < body_start seal + body_sectors (format_of seal.form)
      → MayStandOn disk seal body Writing at value
  half_put at value least most = record {
    elsewhere = λ half. absurd (half (least, most));
    in_half = λ stage. absurd (stage refl);
    in_place = λ place. absurd (seal_before seal seal.number at least place);
  }

  -- its seal
  pub place_put : MayStandOn disk seal body Sealing (seal_place seal.number) (seal_sector seal)
  place_put = record {
    elsewhere = λ half place. absurd (place refl);
    in_half = λ stage k within is. absurd (omega (arith, is, start_least seal));
    in_place = λ place. inr refl;
  }

  -- the body is written, and flushed
  staged_after : (g : History) → ((k : ℕ) → k < length body → sector_of (seen g dev) (body_start seal + k) ≡ slice_index_or body k [])
      → IsOn dev disk seal body Writing g → IsOn dev disk seal body Staged (After (Flushed dev) g)
  staged_after g has is = record {
    each = λ at value may. let before = is.each at value may.0 in record {
      elsewhere = before.elsewhere;
      in_half = λ stage k within place. may.1 refl ∙ ap (sector_of (seen g dev)) place ∙ has k within;
      in_place = before.in_place;
    };
  }

  -- the seal is written, and flushed
  sealed_after : (g : History) → seal_place seal.number < length (seen g dev)
      → IsOn dev disk seal body Sealing (After (Wrote dev (seal_place seal.number) (seal_sector seal)) g)
      → IsOn dev disk seal body Sealed (After (Flushed dev) (After (Wrote dev (seal_place seal.number) (seal_sector seal)) g))
  sealed_after g room is = record {
    each = λ at value may. let before = is.each at value may.0 in record {
      elsewhere = before.elsewhere;
      in_half = λ stage. before.in_half (λ same. cc);
      in_place = λ place. may.1 refl ∙ ap (sector_of (seen (After (Wrote dev (seal_place seal.number) (seal_sector seal)) g) dev)) place
          ∙ seen_written dev (seal_place seal.number) (seal_sector seal) g room;
    };
  }

  -- the calls of a body

  abbrev OfDevice : ℕ → Type 0
  OfDevice d = d ≡ dev

  -- one journal at this stage, and no other device was called
  abbrev OnAlone : EntryStage → History → History → Type 0
  OnAlone stage old h = IsOn dev disk seal body stage h × StaysOff OfDevice old h

  kept_at : (stage : EntryStage) (old : History) (call : Call) → PutsOnly (On stage) call → device_of call ≡ dev → IsKeptBy (OnAlone stage old) call
  kept_at stage old call only one = kept_both (λ h. IsOn dev disk seal body stage h) (λ h. StaysOff OfDevice old h) call (kept_on stage call only)
      (kept_off OfDevice old call one)

  writes_kept : (old : History) (values : List Bytes) (at : ℕ) → body_start seal ≤ at
      → at + length values ≤ body_start seal + body_sectors (format_of seal.form)
      → AllKeep (OnAlone Writing old) (writes_from dev at values)
  writes_kept old [] at least most = tt
  writes_kept old (value ∷ values) at least most = (
    kept_at Writing old (Write dev at value) (λ same. half_put at value least (omega (arith, most))) refl,
    writes_kept old values (at + 1) (omega (arith, least)) (omega (arith, most)),
  )

  body_kept : (old : History) → length body ≤ body_sectors (format_of seal.form)
      → AllKeep (OnAlone Writing old) (writes_from dev (body_start seal) body ++ Flush dev ∷ [])
  body_kept old few = keep_both (OnAlone Writing old) (writes_from dev (body_start seal) body) (Flush dev ∷ [])
      (writes_kept old body (body_start seal) (omega arith) (omega (arith, few))) (kept_at Writing old (Flush dev) tt refl, tt)

  body_staged : (old new : History) → length body ≤ body_sectors (format_of seal.form) → (is_down old dev ≡ false
      → journal_sectors (format_of seal.form) ≤ length (seen old dev))
      → IsOn dev disk seal body Writing old
      → Made (writes_from dev (body_start seal) body ++ Flush dev ∷ []) true old new → IsOn dev disk seal body Staged new
  body_staged old new few room is made =
      let calls = writes_from dev (body_start seal) body in
      let up = (up_after calls (Flush dev ∷ []) old (made_up made)).0 in
      let kept = kept_after (OnAlone Writing old) calls old (writes_kept old body (body_start seal) (omega arith) (omega (arith, few)))
      (is, stays_off_none OfDevice old) in
      subst (λ (h : History). IsOn dev disk seal body Staged h) (sym (made_all made ∙ flushed_last dev calls old))
      (staged_after (after_all calls old)
      (λ k within. seen_writes dev (body_start seal) body old k within (omega (arith, few, room up, start_end seal))) kept.0)

  -- the body is put on a journal
  pub body_put : {answered : Bool} (old new : History) → length body ≤ body_sectors (format_of seal.form)
      → (is_down old dev ≡ false → journal_sectors (format_of seal.form) ≤ length (seen old dev))
      → IsOn dev disk seal body Writing old
      → Made (writes_from dev (body_start seal) body ++ Flush dev ∷ []) answered old new
      → Throughout (λ h. IsOn dev disk seal body Writing h × StaysOff (λ d. d ≡ dev) old h) old new × (answered ≡ true → IsPutOn dev disk seal body Staged new)
  body_put old new few room is made = (
    throughout_kept (OnAlone Writing old) (body_kept old few) (is, stays_off_none OfDevice old) made,
    λ all.
        let calls = writes_from dev (body_start seal) body in
        let made_whole = subst (λ (b : Bool). Made (calls ++ Flush dev ∷ []) b old new) all made in
        record { on = body_staged old new few room is made_whole; flushed = all_flushed dev calls made_whole; up = flushed_is_up dev calls made_whole },
  )

  -- the calls of a seal

  abbrev write_seal : Call
  write_seal = Write dev (seal_place seal.number) (seal_sector seal)

  seal_kept : (old : History) → AllKeep (OnAlone Sealing old) (write_seal ∷ Flush dev ∷ [])
  seal_kept old = (kept_at Sealing old write_seal (λ same. place_put) refl, (kept_at Sealing old (Flush dev) tt refl, tt))

  seal_sealed : (old : History) → journal_sectors (format_of seal.form) ≤ length (seen old dev) → IsOn dev disk seal body Staged old
      → IsOn dev disk seal body Sealed (after_all (write_seal ∷ Flush dev ∷ []) old)
  seal_sealed old room is = sealed_after old (omega (arith, room)) ((kept_on Sealing write_seal (λ same. place_put)).keeps true old
      (is_staged_sealing old is))

  -- the seal is put on a journal
  pub seal_put : {answered : Bool} (old new : History) → (is_down old dev ≡ false → journal_sectors (format_of seal.form) ≤ length (seen old dev))
      → IsOn dev disk seal body Staged old
      → Made (Write dev (seal_place seal.number) (seal_sector seal) ∷ Flush dev ∷ []) answered old new
      → Throughout (λ h. IsOn dev disk seal body Sealing h × StaysOff (λ d. d ≡ dev) old h) old new × (answered ≡ true → IsPutOn dev disk seal body Sealed new)
  seal_put old new room is made = (
    throughout_kept (OnAlone Sealing old) (seal_kept old) (is_staged_sealing old is, stays_off_none OfDevice old) made,
    λ all.
        let made_whole = subst (λ (b : Bool). Made (write_seal ∷ Flush dev ∷ []) b old new) all made in
        record {
          on = subst (λ (h : History). IsOn dev disk seal body Sealed h) (sym (made_all made_whole)) (seal_sealed old (room (made_up made_whole).0) is);
          flushed = all_flushed dev (write_seal ∷ []) made_whole;
          up = flushed_is_up dev (write_seal ∷ []) made_whole;
        },
  )

  -- the calls of a copy, from another journal

  module _ (from : ℕ) (apart : from ≢ dev) where
    abbrev OfBoth : ℕ → Type 0
    OfBoth d = (d ≡ dev) ⊎ (d ≡ from)

    abbrev copied : List Call
    copied = copied_from from dev (body_start seal) body

    -- the journal at this stage, the other only read, and no third device called
    abbrev InCopy : EntryStage → History → History → Type 0
    InCopy stage old h = (IsOn dev disk seal body stage h × StaysOff OfBoth old h) × IsOnlyRead from old h

    -- what holds at each moment
    abbrev Copies : History → History → Type 0
    Copies old h = (IsOn dev disk seal body Writing h ⊎ IsOn dev disk seal body Sealing h) × StaysOff OfBoth old h × IsOnlyRead from old h

    in_writing : (old g : History) → InCopy Writing old g → Copies old g
    in_writing old g is = (inl is.0.0, is.0.1, is.1)

    in_sealing : (old g : History) → InCopy Sealing old g → Copies old g
    in_sealing old g is = (inr is.0.0, is.0.1, is.1)

    begins : (old : History) → IsOn dev disk seal body Writing old → InCopy Writing old old
    begins old is = ((is, stays_off_none OfBoth old), only_read_none from old)

    kept_in : (stage : EntryStage) (old : History) (call : Call) → PutsOnly (On stage) call → OfBoth (device_of call)
        → IsKeptBy (λ h. IsOnlyRead from old h) call → IsKeptBy (InCopy stage old) call
    kept_in stage old call only one read =
        kept_both (λ h. IsOn dev disk seal body stage h × StaysOff OfBoth old h) (λ h. IsOnlyRead from old h) call
        (kept_both (λ h. IsOn dev disk seal body stage h) (λ h. StaysOff OfBoth old h) call (kept_on stage call only) (kept_off OfBoth old call one)) read

    write_kept : (stage : EntryStage) (old : History) (at : ℕ) (value : Bytes) → MayStandOn disk seal body stage at value
        → IsKeptBy (InCopy stage old) (Write dev at value)
    write_kept stage old at value is = kept_in stage old (Write dev at value) (λ same. is) (inl refl) (only_read_other from old (Write dev at value) apart)

    flush_kept : (stage : EntryStage) (old : History) → IsKeptBy (InCopy stage old) (Flush dev)
    flush_kept stage old = kept_in stage old (Flush dev) tt (inl refl) (only_read_other from old (Flush dev) apart)

    copied_kept : (old : History) (values : List Bytes) (at : ℕ) → body_start seal ≤ at
        → at + length values ≤ body_start seal + body_sectors (format_of seal.form)
        → AllKeep (InCopy Writing old) (copied_from from dev at values)
    copied_kept old [] at least most = tt
    copied_kept old (value ∷ values) at least most = (
      kept_in Writing old (Read from at) tt (inr refl) (only_read_read from old at),
      (
        write_kept Writing old at value (half_put at value least (omega (arith, most))),
        copied_kept old values (at + 1) (omega (arith, least))
            (omega (arith, most)),
      ),
    )

    body_copied : (old : History) → length body ≤ body_sectors (format_of seal.form) → IsOn dev disk seal body Writing old
        → InCopy Writing old (after_all copied old)
    body_copied old few is = kept_after (InCopy Writing old) copied old (copied_kept old body (body_start seal) (omega arith) (omega (arith, few)))
        (begins old is)

    copied_staged : (old : History) → length body ≤ body_sectors (format_of seal.form) → journal_sectors (format_of seal.form) ≤ length (seen old dev)
        → IsOn dev disk seal body Writing old
        → IsOn dev disk seal body Staged (After (Flushed dev) (after_all copied old))
    copied_staged old few room is =
        staged_after (after_all copied old)
        (λ k within. ap (λ (l : List Bytes). sector_of l (body_start seal + k))
        (copied_seen from dev (body_start seal) body old old (λ d. refl) dev)
        ∙ seen_writes dev (body_start seal) body old k within (omega (arith, few, room, start_end seal)))
        (body_copied old few is).0.0

    -- every moment of the calls of a copy
    copy_safe : (old : History) → length body ≤ body_sectors (format_of seal.form) → (is_down old dev ≡ false
        → journal_sectors (format_of seal.form) ≤ length (seen old dev))
        → IsOn dev disk seal body Writing old → IsSafe (Copies old) (copy_calls from dev seal body) old
    copy_safe old few room is =
        let g = after_all copied old in
        let in_body = body_copied old few is in
        let flush = flush_kept Writing old in
        safe_phase (Copies old) (InCopy Writing old) copied (Flush dev ∷ write_seal ∷ Flush dev ∷ []) old (in_writing old)
        (copied_kept old body (body_start seal) (omega arith) (omega (arith, few))) (begins old is) (
          in_writing old g in_body,
          in_writing old (after_call (Flush dev) false g) (flush.keeps false g in_body),
          λ up.
              let beyond = flush.keeps true g in_body in
              let staged = copied_staged old few (room (sym (down_after copied old dev) ∙ up)) is in
              safe_kept_as (Copies old) (InCopy Sealing old) (write_seal ∷ Flush dev ∷ []) (After (Flushed dev) g) (in_sealing old)
              (write_kept Sealing old (seal_place seal.number) (seal_sector seal) place_put, (flush_kept Sealing old, tt))
              ((is_staged_sealing (After (Flushed dev) g) staged, beyond.0.1), beyond.1),
        )

    -- and its end
    copy_done : (old new : History) → length body ≤ body_sectors (format_of seal.form) → (is_down old dev ≡ false
        → journal_sectors (format_of seal.form) ≤ length (seen old dev))
        → IsOn dev disk seal body Writing old
        → Made (copy_calls from dev seal body) true old new → IsPutOn dev disk seal body Sealed new
    copy_done old new few room is made =
        let rest : List Call = Flush dev ∷ write_seal ∷ Flush dev ∷ [] in
        let up = (up_after copied rest old (made_up made)).0 in
        let g = After (Flushed dev) (after_all copied old) in
        let ends = made_all made ∙ after_both copied rest old in
        record {
          on = subst (λ (h : History). IsOn dev disk seal body Sealed h) (sym ends)
              (seal_sealed g (omega (arith, room up, sizes_after copied old dev)) (copied_staged old few (room up) is));
          flushed = flushed_after dev (After (Wrote dev (seal_place seal.number) (seal_sector seal)) g) new ends;
          up = made_down made dev ∙ up;
        }

    -- an entry is copied to a journal
    pub copy_put : {answered : Bool} (old new : History) → length body ≤ body_sectors (format_of seal.form)
        → (is_down old dev ≡ false → journal_sectors (format_of seal.form) ≤ length (seen old dev))
        → IsOn dev disk seal body Writing old
        → Made (copy_calls from dev seal body) answered old new
        → Throughout (λ h. (IsOn dev disk seal body Writing h ⊎ IsOn dev disk seal body Sealing h) × StaysOff (λ d. (d ≡ dev) ⊎ (d ≡ from)) old h
        × IsOnlyRead from old h) old new
        × (answered ≡ true → IsPutOn dev disk seal body Sealed new)
    copy_put old new few room is made = (
      throughout_made (Copies old) (copy_safe old few room is) made,
      λ all. copy_done old new few room is (subst (λ (b : Bool). Made (copy_calls from dev seal body) b old new) all made),
    )
