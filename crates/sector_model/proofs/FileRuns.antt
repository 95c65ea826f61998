-- A bank over files stays what its run has led to.
use Rattle.std.proofs.Common.{◌≡◌, ◌≢◌, ◌⊎◌, inl, inr, ⊎_elim, ℕ, zero, suc, ◌+◌, ◌*◌, ◌-◌, ◌^◌, ◌<◌, ◌≤◌, min, Bool, true, false, not, List, [], ◌∷◌, length}
use Rattle.std.proofs.Common.{get_or, refl, sym, ◌∙◌, ap, subst, arith, ◌||◌, cond, Result, Ok, Err, OnOk, is_err, is_ok, Option, None, Some, is_none}
use mir.Syntax.{w64}
use mir.Val.{Fits}
use Rattle.std.proofs.Math.ListN.{set}
use Rattle.std.proofs.lemmas.List.{get_or-set_same, get_or-set_other, get_or_past, length-set}
use Rattle.std.proofs.lemmas.Grind.{same_number_lists}
use Rattle.std.proofs.lemmas.Bool.{cases_eq, cases_lt}
use Rattle.sector_model.specs.declared.files.Slot.{Slot}
use Rattle.sector_model.specs.declared.event.Event.{Event}
use Rattle.sector_model.specs.declared.event.Event.TheVariants.{Quiet, Wrote, Lost, Flushed, DeviceFailed}
use Rattle.sector_model.specs.declared.calls.TheConstants.{GREATEST_COUNT}
use Rattle.sector_model.specs.Bank.{Panel, AfterCall, IsTrueTo, fault_at}
use Rattle.sector_model.specs.DeviceFiles.{Contents, AreAt, IsWritten, IsSynced}
use Rattle.sector_model.specs.Files.{slot_at, file_at, panel_of, told_in, HoldsDisk, IsKept, IsOver, IsOpened, IsMade, BeginsWith}
use Rattle.sector_model.specs.Files.{is_down as is_closed}
use Rattle.sector_model.specs.History.{History, After, Bytes, IsSector, MayHold, disk_of, sector_of, seen, start_of, is_down, calls_of}
use Rattle.sector_model.specs.MemoryLaw.{length-seen}
use Rattle.sector_model.specs.Safe.{safe_in}
use Rattle.sector_model.proofs.Replay.{eqb_self, eqb_other, whole_at}
use Rattle.sector_model.proofs.Steps.{up_seen}

-- a call more can be counted
pub one_more_fits : (calls : ℕ) → calls < GREATEST_COUNT → Fits w64 (calls + 1)
one_more_fits calls few = omega (arith, few)

-- what holds on an answer, of a call that was answered
pub on_ok : {T E P : Type 0} (r : Result T E) → OnOk r P → is_ok r ≡ true → P
on_ok (Ok x) holds is = holds
on_ok (Err e) holds is = absurd (cc)

-- a fault, and none
fault_not : {T E : Type 0} (r : Result T E) → true ≡ is_err r → is_ok r ≡ false
fault_not (Ok x) is = absurd (cc)
fault_not (Err e) is = refl

pub good_so : {T E : Type 0} (r : Result T E) → false ≡ is_err r → is_ok r ≡ true
good_so (Ok x) is = refl
good_so (Err e) is = absurd (cc)

pub fault_down : {T E : Type 0} {down : Bool} (r : Result T E) → down ≡ not (is_ok r) → true ≡ is_err r → down ≡ true
fault_down r is err = is ∙ ap not (fault_not r err)

pub good_up : {T E : Type 0} {down : Bool} (r : Result T E) → down ≡ not (is_ok r) → false ≡ is_err r → down ≡ false
good_up r is good = is ∙ ap not (good_so r good)

-- a slot that was closed
pub closed_sectors : {F : Type 0} {new : Slot F} {sectors : ℕ} (old : Slot F) → new ≡ record old { file = None } → old.sectors ≡ sectors → new.sectors ≡ sectors
closed_sectors old is same = ap (λ (s : Slot _). s.sectors) is ∙ same

pub closed_down : {F : Type 0} {new : Slot F} (old : Slot F) → new ≡ record old { file = None } → is_closed new ≡ true
closed_down old is = ap is_closed is

-- what was noted, or not
pub noted_so : {x : History} {b : Bool} (y z : History) → x ≡ cond b y z → b ≡ true → x ≡ y
noted_so y z is so = is ∙ ap (λ (b : Bool). cond b y z) so

pub noted_not : {x : History} {b : Bool} (y z : History) → x ≡ cond b y z → b ≡ false → x ≡ z
noted_not y z is so = is ∙ ap (λ (b : Bool). cond b y z) so

-- an event after what a record says is after what the record said before
pub after_same : {x y z : History} (e : Event) → x ≡ After e y → y ≡ z → x ≡ After e z
after_same e is same = is ∙ ap (λ (h : History). After e h) same

get_or-defaults : {X : Type 0} (xs : List X) (i : ℕ) (a b : X) → i < length xs → get_or xs i a ≡ get_or xs i b
get_or-defaults [] i a b within = absurd (omega arith)
get_or-defaults (x ∷ xs) zero a b within = refl
get_or-defaults (x ∷ xs) (suc i) a b within = get_or-defaults xs i a b (omega arith)

differ : {b : Bool} → b ≡ true → b ≡ false → ⊥
differ is not_so = absurd (cc)

-- what a call of a device does to the run: it changes no other device, and puts no sector that is not whole
pub record Follows (e : Event) (dev : ℕ) (answered : Bool) (h : History) : Type 0 where
  pub down_here : is_down (After e h) dev ≡ not answered
  pub down_others : (d : ℕ) → d ≢ dev → is_down (After e h) d ≡ is_down h d
  pub seen_others : (d : ℕ) → d ≢ dev → seen (After e h) d ≡ seen h d
  pub safe_others : (d : ℕ) → d ≢ dev → safe_in (After e h) d ≡ safe_in h d
  pub whole : (d a : ℕ) (v : Bytes) → MayHold (After e h) d a v → MayHold h d a v ⊎ IsSector v

pub follows_quiet : (dev : ℕ) (answered : Bool) (h : History) → is_down h dev ≡ not answered → Follows Quiet dev answered h
follows_quiet dev answered h is = record {
  down_here = is;
  down_others = λ d other. refl;
  seen_others = λ d other. refl;
  safe_others = λ d other. refl;
  whole =
      λ d a v may. inl may;
}

pub follows_failed : (dev : ℕ) (h : History) → Follows (DeviceFailed dev) dev false h
follows_failed dev h = record {
  down_here = ap (λ (b : Bool). b || is_down h dev) (eqb_self dev);
  down_others = λ d other. ap (λ (b : Bool). b || is_down h d) (eqb_other d dev other);
  seen_others = λ d other. refl;
  safe_others = λ d other. refl;
  whole = λ d a v may. inl may;
}

pub follows_lost : (dev at : ℕ) (value : Bytes) (h : History) → IsSector value → Follows (Lost dev at value) dev false h
follows_lost dev at value h is = record {
  down_here = ap (λ (b : Bool). b || is_down h dev) (eqb_self dev);
  down_others = λ d other. ap (λ (b : Bool). b || is_down h d) (eqb_other d dev other);
  seen_others = λ d other. refl;
  safe_others = λ d other. refl;
  whole = λ d a v may. ⊎_elim (λ put. inr (subst IsSector (sym put.2) is)) (λ before. inl before) may;
}

pub follows_wrote : (dev at : ℕ) (value : Bytes) (h : History) → is_down h dev ≡ false → IsSector value → Follows (Wrote dev at value) dev true h
follows_wrote dev at value h up is = record {
  down_here = up;
  down_others = λ d other. refl;
  seen_others = λ d other. ap (λ (b : Bool). cond b (set (seen h d) at value) (seen h d)) (eqb_other d dev other);
  safe_others = λ d other. refl;
  whole = λ d a v may. ⊎_elim (λ put. inr (subst IsSector (sym put.2) is)) (λ before. inl before) may;
}

pub follows_flushed : (dev : ℕ) (h : History) → is_down h dev ≡ false → Follows (Flushed dev) dev true h
follows_flushed dev h up = record {
  down_here = up;
  down_others = λ d other. refl;
  seen_others = λ d other. refl;
  safe_others = λ d other. ap (λ (b : Bool). cond b (seen h d) (safe_in h d)) (eqb_other d dev other);
  whole = λ d a v may. inl may.0;
}

-- the panel after it
shown_next : (old new : Panel) (h : History) (dev : ℕ) (answered : Bool) (e : Event) → IsTrueTo old h → AfterCall dev answered old new
    → Follows e dev answered h → IsTrueTo new (After e h)
shown_next old new h dev answered e was call follows = record {
  down = λ d. elim (cases_eq d dev) [
    | inl same ↦ ap new.down same ∙ call.answer ∙ sym follows.down_here ∙ ap (is_down (After e h)) (sym same)
    | inr other ↦ call.others d other ∙ was.down d ∙ sym (follows.down_others d other)
  ];
  sectors = λ d. call.sectors d ∙ was.sectors d;
  calls = call.calls ∙ ap (λ (n : ℕ). n + 1) was.calls;
  beyond = λ d past. was.beyond d (omega (arith, past, call.devices));
  whole = λ d a v within may. ⊎_elim (was.whole d a v within) (λ is. is) (follows.whole d a v may);
}

-- what stays of a file
kept_same : (c : Contents) (s : Bool) (h : History) (e : Event) (d : ℕ) → seen (After e h) d ≡ seen h d → safe_in (After e h) d ≡ safe_in h d → IsKept c s h d
    → IsKept c s (After e h) d
kept_same c s h e d seen_same safe_same was = record {
  room = was.room;
  holds = subst (HoldsDisk c.byte) (sym seen_same) was.holds;
  safe = subst (HoldsDisk c.safe) (sym safe_same) was.safe;
  marked = was.marked;
}

-- the slot that was called
pub slot_is : {F : Type 0} (slots : List (Slot F)) (dev : ℕ) (old : Slot F) → dev < length slots → old ≡ get_or slots dev old → slot_at slots dev ≡ old
slot_is slots dev old within is = get_or-defaults slots dev _ old within ∙ sym is

-- a slot in place of another
slot_same : {F : Type 0} (slots : List (Slot F)) (dev : ℕ) (slot : Slot F) → dev < length slots → slot_at (set slots dev slot) dev ≡ slot
slot_same slots dev slot within = get_or-set_same slots dev slot _ within

slot_other : {F : Type 0} (slots : List (Slot F)) (dev : ℕ) (slot : Slot F) (d : ℕ) → d ≢ dev → slot_at (set slots dev slot) d ≡ slot_at slots d
slot_other slots dev slot d other = get_or-set_other slots dev d slot _ other

-- the file of the device that was called

pub kept_read : (c before : Contents) (s was_synced : Bool) (h : History) (d : ℕ) → c ≡ before → s ≡ was_synced → IsKept before was_synced h d
    → IsKept c s (After Quiet h) d
kept_read c before s was_synced h d same flag was =
    subst (λ (t : Contents). IsKept t s (After Quiet h) d) (sym same)
    (subst (λ (b : Bool). IsKept before b (After Quiet h) d) (sym flag) (kept_same before was_synced h Quiet d refl refl was))

holds_written : (old new : Contents) (disk : List Bytes) (at : ℕ) (value : Bytes) → HoldsDisk old.byte disk → IsWritten (512 * at) 512 value old new
    → at < length disk → HoldsDisk new.byte (set disk at value)
holds_written old new disk at value was written within = record {
  each = λ a k there small. ⊎_elim
      (λ (same : a ≡ at). ap (λ (b : ℕ). new.byte (512 * b + k)) same ∙ written.put k small
      ∙ sym (ap (λ (l : Bytes). get_or l k 0) (ap (λ (b : ℕ). get_or (set disk at value) b []) same ∙ get_or-set_same disk at value [] within)))
      (λ (other : a ≢ at). elsewhere a k other small ∙ was.each a k (omega (arith, there, length-set disk at value)) small
      ∙ sym (ap (λ (l : Bytes). get_or l k 0) (get_or-set_other disk at a value [] other)))
      (cases_eq a at);
}
  where
    elsewhere : (a k : ℕ) → a ≢ at → k < 512 → new.byte (512 * a + k) ≡ old.byte (512 * a + k)
    elsewhere a k other small = ⊎_elim (λ (lt : a < at). written.below (512 * a + k) (omega (arith, lt, small)))
        (λ (ge : at ≤ a). written.above (512 * a + k) (omega (arith, ge, other))) (cases_lt a at)

pub kept_wrote : (c before : Contents) (s was_synced : Bool) (h : History) (dev at : ℕ) (value : Bytes) → s ≡ false → IsKept before was_synced h dev
    → at < length (disk_of (start_of h dev))
    → IsWritten (512 * at) 512 value before c → IsKept c s (After (Wrote dev at value) h) dev
kept_wrote c before s was_synced h dev at value flag was within written = record {
  room = omega (arith, was.room, written.size);
  holds = subst (HoldsDisk c.byte) (sym (ap (λ (b : Bool). cond b (set (seen h dev) at value) (seen h dev)) (eqb_self dev)))
      (holds_written before c (seen h dev) at value was.holds written (omega (arith, within, length-seen h dev)));
  safe = record { each = λ a k there small. written.safe (512 * a + k) ∙ was.safe.each a k there small };
  marked = λ is. absurd (cc);
}

pub kept_flushed : (c before : Contents) (s was_synced : Bool) (h : History) (dev : ℕ) → IsKept before was_synced h dev → IsSynced before c
    → IsKept c s (After (Flushed dev) h) dev
kept_flushed c before s was_synced h dev was synced = record {
  room = omega (arith, was.room, synced.size);
  holds = record { each = λ a k there small. synced.byte (512 * a + k) ∙ was.holds.each a k there small };
  safe = subst (HoldsDisk c.safe) (sym (ap (λ (b : Bool). cond b (seen h dev) (safe_in h dev)) (eqb_self dev)))
      record { each = λ a k there small. synced.safe (512 * a + k) ∙ was.holds.each a k there small };
  marked = λ is p. synced.safe p ∙ sym (synced.byte p);
}

-- the panel with a slot in place of another
pub panel_set : {F : Type 0} (slots : List (Slot F)) (dev calls : ℕ) (old slot : Slot F) (answered : Bool) → dev < length slots → slot_at slots dev ≡ old
    → slot.sectors ≡ old.sectors
    → is_closed slot ≡ not answered → (is_closed old ≡ true → answered ≡ false)
    → AfterCall dev answered (panel_of slots calls) (panel_of (set slots dev slot) (calls + 1))
panel_set slots dev calls old slot answered within was sectors answer stays = record {
  devices = refl;
  sectors = λ d. elim (cases_eq d dev) [
    | inl same ↦ ap (λ (k : ℕ). (slot_at (set slots dev slot) k).sectors) same ∙ ap (λ (s : Slot _). s.sectors) (slot_same slots dev slot within) ∙ sectors
        ∙ sym (ap (λ (s : Slot _). s.sectors) was) ∙ ap (λ (k : ℕ). (slot_at slots k).sectors) (sym same)
    | inr other ↦ ap (λ (s : Slot _). s.sectors) (slot_other slots dev slot d other)
  ];
  calls = refl;
  answer = ap is_closed (slot_same slots dev slot within) ∙ answer;
  others = λ d other. ap is_closed (slot_other slots dev slot d other);
  stays = λ closed. stays (sym (ap is_closed was) ∙ closed);
}

abbrev pub KeptAt : {F : Type 0} → (F → Contents) → History → Slot F → ℕ → Type 0
KeptAt told h s d = is_closed s ≡ false → IsKept (told_in told s.file) s.is_synced h d

-- a sector of the device may be called, where the device is up
abbrev pub MayCall : {F : Type 0} → List (Slot F) → (dev at : ℕ) → Type 0
MayCall slots dev at = is_closed (slot_at slots dev) ≡ false → at < (slot_at slots dev).sectors

-- the slot that is called, and what a call leaves in its place
pub record Here {F : Type 0} (slots : List (Slot F)) (dev : ℕ) (old : Slot F) : Type 0 where
  pub within : dev < length slots
  pub slot : slot_at slots dev ≡ old

pub here_at : {F : Type 0} {slots : List (Slot F)} {dev len : ℕ} {old : Slot F} → len ≡ length slots → len ≡ 10 → dev < 10 → old ≡ get_or slots dev old
    → Here slots dev old
here_at {slots = slots} {dev = dev} {old = old} len ten device is =
    let within : dev < length slots = omega (arith, len, ten, device) in record { within = within; slot = slot_is slots dev old within is }

module _ {F : Type 0} {slots : List (Slot F)} {dev : ℕ} {old : Slot F} (c : Here slots dev old) where
  pub panel_here : (calls : ℕ) (slot : Slot F) (answered : Bool) → slot.sectors ≡ old.sectors → is_closed slot ≡ not answered
      → (is_closed old ≡ true → answered ≡ false)
      → AfterCall dev answered (panel_of slots calls) (panel_of (set slots dev slot) (calls + 1))
  panel_here calls slot answered = panel_set slots dev calls old slot answered c.within c.slot

  pub closed_here : {b : Bool} → b ≡ is_closed old → is_closed (slot_at slots dev) ≡ b
  closed_here is = ap is_closed c.slot ∙ sym is

  pub synced_here : {b : Bool} (slot : Slot F) → slot.is_synced ≡ b → (slot_at (set slots dev slot) dev).is_synced ≡ b
  synced_here slot is = ap (λ (s : Slot F). s.is_synced) (slot_same slots dev slot c.within) ∙ is

  pub synced_each : (slot : Slot F) → slot.is_synced ≡ old.is_synced → (d : ℕ) → (slot_at (set slots dev slot) d).is_synced ≡ (slot_at slots d).is_synced
  synced_each slot is d = elim (cases_eq d dev) [
    | inl same ↦ ap (λ (k : ℕ). (slot_at (set slots dev slot) k).is_synced) same ∙ synced_here slot is
        ∙ sym (ap (λ (s : Slot F). s.is_synced) c.slot) ∙ ap (λ (k : ℕ). (slot_at slots k).is_synced) (sym same)
    | inr other ↦ ap (λ (s : Slot F). s.is_synced) (slot_other slots dev slot d other)
  ]

  -- a flush of a device at which nothing was written since the last one
  pub idle_up : {answered : Bool} (full : Bool) → false ≡ is_closed old → answered ≡ not full → answered ≡ not (is_closed (slot_at slots dev) || full)
  idle_up full up is = is ∙ ap (λ (b : Bool). not (b || full)) (sym (closed_here up))

  pub idle_closed : (full : Bool) → true ≡ is_closed old → false ≡ not (is_closed (slot_at slots dev) || full)
  idle_closed full closed = ap (λ (b : Bool). not (b || full)) (sym (closed_here closed))

  pub idle_answered : {T E : Type 0} (r : Result T E) → true ≡ is_err r → false ≡ is_closed old → (old.is_synced ≡ true → is_ok r ≡ not (is_closed old))
      → (slot_at slots dev).is_synced ≡ true → ⊥
  idle_answered r err up idle synced =
      let answered = idle (sym (ap (λ (s : Slot F). s.is_synced) c.slot) ∙ synced) in
      differ (answered ∙ ap not (sym up)) (fault_not r err)

pub sectors_here : {F : Type 0} {slots : List (Slot F)} {dev : ℕ} {old : Slot F} → Here slots dev old → old.sectors ≡ (slot_at slots dev).sectors
sectors_here c = sym (ap (λ (s : Slot _). s.sectors) c.slot)

pub down_here : {F : Type 0} {slots : List (Slot F)} {dev : ℕ} {old : Slot F} → Here slots dev old → is_closed old ≡ is_closed (slot_at slots dev)
down_here c = sym (ap is_closed c.slot)

pub synced_others : {F : Type 0} (slots : List (Slot F)) (dev : ℕ) (slot : Slot F) (d : ℕ) → d ≢ dev
    → (slot_at (set slots dev slot) d).is_synced ≡ (slot_at slots d).is_synced
synced_others {F = F} slots dev slot d other = ap (λ (s : Slot F). s.is_synced) (slot_other slots dev slot d other)

-- What is known where a device of a bank over files is called: its slot, and that the slots are those of the run.
pub record Calls {F : Type 0} (told : F → Contents) (slots : List (Slot F)) (calls dev : ℕ) (old : Slot F) (h : History) : Type 0 where
  pub over : IsOver told slots calls h
  pub within : dev < length slots
  pub slot : slot_at slots dev ≡ old

pub calls_at : {F : Type 0} {told : F → Contents} {slots : List (Slot F)} {calls dev len : ℕ} {old : Slot F} {h : History} → IsOver told slots calls h
    → len ≡ length slots → len ≡ 10 → dev < 10
    → old ≡ get_or slots dev old → Calls told slots calls dev old h
calls_at {slots = slots} {dev = dev} {old = old} over len ten device is =
    let within : dev < length slots = omega (arith, len, ten, device) in record { over = over; within = within; slot = slot_is slots dev old within is }

module _ {F : Type 0} {told : F → Contents} {slots : List (Slot F)} {calls dev : ℕ} {old : Slot F} {h : History} (c : Calls told slots calls dev old h) where
  -- the file of the slot, where the device is up
  pub called_kept : KeptAt told h old dev
  called_kept = subst (λ (s : Slot F). KeptAt told h s dev) c.slot (c.over.kept dev)

  pub called_down : is_closed old ≡ is_down h dev
  called_down = sym (ap is_closed c.slot) ∙ c.over.shown.down dev

  pub called_up : is_closed old ≡ false → is_down h dev ≡ false
  called_up up = sym called_down ∙ up

  pub called_few : calls < GREATEST_COUNT → calls_of h < GREATEST_COUNT
  called_few few = omega (arith, few, c.over.shown.calls)

  -- the event of a call that isn't answered
  pub called_quiet : {next : History} (e : Event) → true ≡ is_closed old → next ≡ After Quiet h → next ≡ After (fault_at dev e h) h
  called_quiet e closed is = is ∙ ap (λ (b : Bool). After (cond b Quiet e) h) (closed ∙ called_down)

  pub called_fault : {next : History} (e : Event) → false ≡ is_closed old → next ≡ After e h → next ≡ After (fault_at dev e h) h
  called_fault e up is = is ∙ ap (λ (b : Bool). After (cond b Quiet e) h) (up ∙ called_down)

  -- a sector that may be called lies within its device, and its bytes within the file
  pub within_disk : (at : ℕ) → MayCall slots dev at → is_closed old ≡ false → at < length (disk_of (start_of h dev))
  within_disk at may up = let within = may (ap is_closed c.slot ∙ up) in omega (arith, within, c.over.shown.sectors dev)

  pub within_seen : (at : ℕ) → MayCall slots dev at → is_closed old ≡ false → at < length (seen h dev)
  within_seen at may up = omega (arith, within_disk at may up, length-seen h dev)

  pub within_file : (at : ℕ) → MayCall slots dev at → is_closed old ≡ false → 512 * at + 512 ≤ (told_in told old.file).size
  within_file at may up = omega (arith, within_disk at may up, (called_kept up).room)

  -- the slots after the call: the one that was called is kept as the run says
  pub over_next : (new : Slot F) (answered : Bool) (e : Event) (next : History) → new.sectors ≡ old.sectors → is_closed new ≡ not answered
      → (is_closed old ≡ true → answered ≡ false)
      → Follows e dev answered h → KeptAt told (After e h) new dev → next ≡ After e h → IsOver told (set slots dev new) (calls + 1) next
  over_next new answered e next sectors answer stays follows kept is = subst (IsOver told (set slots dev new) (calls + 1)) (sym is) record {
    shown = shown_next _ _ h dev answered e c.over.shown (panel_set slots dev calls old new answered c.within c.slot sectors answer stays) follows;
    kept = λ d. elim (cases_eq d dev) [
      | inl same ↦ subst (λ (k : ℕ). KeptAt told (After e h) (slot_at (set slots dev new) k) k) (sym same)
          (subst (λ (s : Slot F). KeptAt told (After e h) s dev) (sym (slot_same slots dev new c.within)) kept)
      | inr other ↦ subst (λ (s : Slot F). KeptAt told (After e h) s d) (sym (slot_other slots dev new d other))
          (λ up. kept_same _ _ h e d (follows.seen_others d other) (follows.safe_others d other) (c.over.kept d up))
    ];
  }

  -- a call of a device that is down already
  pub over_idle : (new : Slot F) (next : History) → new ≡ old → is_closed old ≡ true → next ≡ After Quiet h → IsOver told (set slots dev new) (calls + 1) next
  over_idle new next same closed is =
      over_next new false Quiet next (ap (λ (s : Slot F). s.sectors) same) (ap is_closed same ∙ closed) (λ closed. refl)
      (follows_quiet dev false h (sym called_down ∙ closed))
      (λ up. absurd (differ (ap is_closed same ∙ closed) up)) is

  -- a read that is answered
  pub over_read : (new : Slot F) (next : History) → new.sectors ≡ old.sectors → is_closed new ≡ false → is_closed old ≡ false → new.is_synced ≡ old.is_synced
      → told_in told new.file ≡ told_in told old.file → next ≡ After Quiet h → IsOver told (set slots dev new) (calls + 1) next
  over_read new next sectors up was_up flag same is =
      over_next new true Quiet next sectors up (λ closed. absurd (differ closed was_up)) (follows_quiet dev true h (called_up was_up))
      (λ up. kept_read _ _ _ _ h dev same flag (called_kept was_up)) is

  -- a read or a flush at which the device goes down
  pub over_failed : (new : Slot F) (next : History) → new.sectors ≡ old.sectors → is_closed new ≡ true → next ≡ After (DeviceFailed dev) h
      → IsOver told (set slots dev new) (calls + 1) next
  over_failed new next sectors closed is =
      over_next new false (DeviceFailed dev) next sectors closed (λ was. refl) (follows_failed dev h) (λ up. absurd (differ closed up)) is

  -- a write at which it goes down
  pub over_lost : (new : Slot F) (next : History) (at : ℕ) (value : Bytes) → new.sectors ≡ old.sectors → is_closed new ≡ true → IsSector value
      → next ≡ After (Lost dev at value) h
      → IsOver told (set slots dev new) (calls + 1) next
  over_lost new next at value sectors closed whole is =
      over_next new false (Lost dev at value) next sectors closed (λ was. refl) (follows_lost dev at value h whole) (λ up. absurd (differ closed up)) is

  -- a write that is answered
  pub over_wrote : (new : Slot F) (next : History) (at : ℕ) (value : Bytes) → new.sectors ≡ old.sectors → is_closed new ≡ false → is_closed old ≡ false
      → new.is_synced ≡ false → IsSector value
      → MayCall slots dev at → IsWritten (512 * at) 512 value (told_in told old.file) (told_in told new.file) → next ≡ After (Wrote dev at value) h
      → IsOver told (set slots dev new) (calls + 1) next
  over_wrote new next at value sectors up was_up flag whole within written is =
      over_next new true (Wrote dev at value) next sectors up (λ closed. absurd (differ closed was_up)) (follows_wrote dev at value h (called_up was_up) whole)
      (λ up. kept_wrote _ _ _ _ h dev at value flag (called_kept was_up) (within_disk at within was_up) written) is

  -- a flush that is answered
  pub over_flushed : (new : Slot F) (next : History) → new.sectors ≡ old.sectors → is_closed new ≡ false → is_closed old ≡ false
      → IsSynced (told_in told old.file) (told_in told new.file) → next ≡ After (Flushed dev) h → IsOver told (set slots dev new) (calls + 1) next
  over_flushed new next sectors up was_up synced is =
      over_next new true (Flushed dev) next sectors up (λ closed. absurd (differ closed was_up)) (follows_flushed dev h (called_up was_up))
      (λ up. kept_flushed _ _ _ _ h dev (called_kept was_up) synced) is

  -- bytes that were read at a sector's place are the sector
  pub read_is_seen : (at : ℕ) (bytes : Bytes) → is_closed old ≡ false → MayCall slots dev at → length bytes ≡ 512
      → AreAt (told_in told old.file).byte (512 * at) 512 bytes → bytes ≡ sector_of (seen h dev) at
  read_is_seen at bytes up within whole read =
      let there = within_disk at within up in
      let sector : IsSector (sector_of (seen h dev) at) = c.over.shown.whole dev at _ there (up_seen h dev at (called_up up)) in
      same_number_lists bytes (sector_of (seen h dev) at) (whole ∙ sym sector)
      (λ k lt. read.each k (omega (arith, lt, whole)) ∙ (called_kept up).holds.each at k (within_seen at within up) (omega (arith, lt, whole)))

-- where a run begins

no_sectors : (slot : Option (List Bytes)) → is_none slot ≡ true → length (disk_of slot) ≡ 0
no_sectors None is = refl
no_sectors (Some disk) is = absurd (cc)

holds_safe : (c : Contents) (disk : List Bytes) → ((p : ℕ) → c.safe p ≡ c.byte p) → HoldsDisk c.byte disk → HoldsDisk c.safe disk
holds_safe c disk synced holds = record { each = λ a k there small. synced (512 * a + k) ∙ holds.each a k there small }

module _ {F G : Type 0} (told : F → Contents) (there : G → Contents) (files : List (Option F)) (slots : List (Slot G)) (h : History) (len : length slots ≡ 10)
    (opened : (d : ℕ) → IsOpened (slot_at slots d))
    (made : (d : ℕ) → d < 10 → IsMade told there (file_at files d) (slot_at slots d)) (begun : BeginsWith told files h) where
  past : (d : ℕ) → 10 ≤ d → slot_at slots d ≡ record { file = None; sectors = 0; is_synced = true }
  past d ge = get_or_past slots d _ (omega (arith, len, ge))

  down_begun : (d : ℕ) → is_closed (slot_at slots d) ≡ is_none (start_of h d)
  down_begun d = ⊎_elim
      (λ (lt : d < 10). (made d lt).opened ∙ (begun.each d lt).slot)
      (λ (ge : 10 ≤ d). ap is_closed (past d ge) ∙ sym (ap is_none (begun.beyond d ge)))
      (cases_lt d 10)

  sectors_begun : (d : ℕ) → (slot_at slots d).sectors ≡ min (length (disk_of (start_of h d))) (2 ^ 32 - 1)
  sectors_begun d = by_closed _ refl
    where
      by_lt : is_closed (slot_at slots d) ≡ false → (d < 10) ⊎ (10 ≤ d) → (slot_at slots d).sectors ≡ min (length (disk_of (start_of h d))) (2 ^ 32 - 1)
      by_lt is (inl lt) =
          let up : is_none (file_at files d) ≡ false = sym (made d lt).opened ∙ is in
          (made d lt).sectors up ∙ sym (ap (λ (n : ℕ). min n (2 ^ 32 - 1)) ((begun.each d lt).sectors up))
      by_lt is (inr ge) = absurd (differ (ap is_closed (past d ge)) is)

      by_closed : (b : Bool) → is_closed (slot_at slots d) ≡ b → (slot_at slots d).sectors ≡ min (length (disk_of (start_of h d))) (2 ^ 32 - 1)
      by_closed true is = (opened d).absent is ∙ sym (ap (λ (n : ℕ). min n (2 ^ 32 - 1)) (no_sectors (start_of h d) (sym (down_begun d) ∙ is)))
      by_closed false is = by_lt is (cases_lt d 10)

  shown_begun : IsTrueTo (panel_of slots 0) h
  shown_begun = record {
    down = λ d. down_begun d ∙ sym (ap (λ (k : History). is_down k d) begun.began);
    sectors = sectors_begun;
    calls = sym (ap calls_of begun.began);
    beyond = begun.beyond;
    whole = λ d a v within may. ⊎_elim
        (λ (lt : d < 10). whole_at (start_of h d) a v (begun.each d lt).whole within (subst (λ (k : History). MayHold k d a v) begun.began may))
        (λ (ge : 10 ≤ d). absurd (omega (arith, within, no_sectors (start_of h d) (ap is_none (begun.beyond d ge)))))
        (cases_lt d 10);
  }

  kept_begun : (d : ℕ) → is_closed (slot_at slots d) ≡ false → (d < 10) ⊎ (10 ≤ d)
      → IsKept (told_in there (slot_at slots d).file) (slot_at slots d).is_synced h d
  kept_begun d up (inr ge) = absurd (differ (ap is_closed (past d ge)) up)
  kept_begun d up (inl lt) =
      let b = begun.each d lt in
      let shown = (made d lt).shown in
      let holds : HoldsDisk (told_in there (slot_at slots d).file).byte (disk_of (start_of h d)) =
      record { each = λ a k there small. shown.byte (512 * a + k) ∙ b.holds.each a k there small } in
      let synced : (p : ℕ) → (told_in there (slot_at slots d).file).safe p ≡ (told_in there (slot_at slots d).file).byte p =
      λ p. shown.safe p ∙ b.synced p ∙ sym (shown.byte p) in
      record {
        room = omega (arith, b.sectors (sym (made d lt).opened ∙ up), shown.size);
        holds = subst (HoldsDisk (told_in there (slot_at slots d).file).byte) (sym (ap (λ (k : History). seen k d) begun.began)) holds;
        safe = subst (HoldsDisk (told_in there (slot_at slots d).file).safe) (sym (ap (λ (k : History). safe_in k d) begun.began))
            (holds_safe (told_in there (slot_at slots d).file) (disk_of (start_of h d)) synced holds);
        marked = λ flag. synced;
      }

  -- slots that were made over the files that a run begins with
  pub over_begun : IsOver there slots 0 h
  over_begun = record { shown = shown_begun; kept = λ d up. kept_begun d up (cases_lt d 10) }
