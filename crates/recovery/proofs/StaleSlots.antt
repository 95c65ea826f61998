-- What is promised where superblocks are brought up, slot by slot.
use Rattle.std.proofs.Common.{◌≡◌, ◌≢◌, ◌⊎◌, inl, inr, ⊎_elim, ℕ, ◌+◌, ◌<◌, ◌≤◌, Bool, true, false, cond, zero, suc, List, [], ◌∷◌, length, refl, sym, ◌∙◌, ap}
use Rattle.std.proofs.Common.{subst, arith, ◌==◌, ◌||◌}
use Rattle.std.specs.Prelude.{Result, Ok, Err, IfErr, None, slice_set}
use Rattle.std.proofs.lemmas.Bool.{cases_eq, eqb-true, or_right}
use Rattle.sector_model.specs.declared.event.Event.{Event}
use Rattle.sector_model.specs.declared.event.Event.TheVariants.{Quiet, Wrote, Lost, Flushed, DeviceFailed}
use Rattle.sector_model.specs.declared.sector.Stop.{Stop}
use Rattle.sector_model.specs.declared.sector.Stop.TheVariants.{Down, Worn}
use Rattle.sector_model.specs.Bank.{IsCauseOf, IsLater, IsTrueTo, Panel, after_flush, after_read, after_try, after_write, fault_at}
use Rattle.sector_model.specs.Calls.{Call, Flush, Read, Write, after_call, device_of}
use Rattle.sector_model.specs.History.{After, Bytes, History, MayHold, is_down, sector_of, seen}
use Rattle.sector_model.specs.MemoryLaw.{length-seen}
use Rattle.sector_model.specs.Moments.{Throughout, here, then_also}
use Rattle.sector_model.specs.Readable.{NothingPending}
use Rattle.sector_model.specs.Reads.{HasRead}
use Rattle.sector_model.proofs.Panels.{later_both, later_same}
use Rattle.sector_model.proofs.Reading.{read_both, read_none, read_one, seen_read}
use Rattle.sector_model.proofs.Replay.{eqb_other}
use Rattle.sector_model.proofs.Sequences.{IsKeptBy, seen_written}
use Rattle.sector_model.proofs.Steps.{Puts, may_hold_before, throughout_last, throughout_more, throughout_on, up_seen}
use Rattle.layout_map.specs.declared.sizes.TheConstants.{SUPERBLOCK_PLACES}
use Rattle.superblock.specs.declared.state.State.{State}
use Rattle.superblock.specs.declared.state.State.TheVariants.{InSync, Missing, Rebuilding}
use Rattle.superblock.specs.declared.table.Table.{Table}
use Rattle.superblock.specs.NextTables.{slots_of}
use Rattle.superblock.specs.Publishing.{CanPublish, IsSafeAt, place_of}
use Rattle.superblock.specs.Tables.{state_at}
use Rattle.superblock.proofs.PublishCode.{sector_for, sector_stands}
use Rattle.array_io.specs.Steps.Bringing.{CountsOn, IsBringing, IsOwnThere}
use Rattle.recovery.specs.StaleSuperblocks.{AreSpelled, BringsUp, BringsUpSlots, HasState, NoSuperblockIsStale}
use Rattle.recovery.proofs.Finding.{still_up}

differ : true ≡ false → ⊥
differ is = cc

-- moments

-- before the first call
pub bringing_first : (table : Table) (sectors : ℕ → Bytes) (old : History) → IsBringing table sectors old old
bringing_first table sectors old = record {
  holds = λ device at value may. inl may;
  start = λ device. refl;
  stays_down = λ device down. down;
  others_stay = λ device out. refl;
  reads = λ device at. inl refl;
}

-- one moment after another
pub bringing_both : (table : Table) (sectors : ℕ → Bytes) (old mid h : History) → IsBringing table sectors old mid → IsBringing table sectors mid h
    → IsBringing table sectors old h
bringing_both table sectors old mid h first second = record {
  holds = λ device at value may. ⊎_elim (first.holds device at value) inr (second.holds device at value may);
  start = λ device. second.start device ∙ first.start device;
  stays_down = λ device down. second.stays_down device (first.stays_down device down);
  others_stay = λ device out. second.others_stay device out ∙ first.others_stay device out;
  reads = λ device at. elim (second.reads device at) [
    | inr own ↦ inr own
    | inl same ↦ elim (first.reads device at) [
      | inl was ↦ inl (same ∙ was)
      | inr own ↦ inr (subst (IsOwnThere table sectors device at) (sym same) own)
    ]
  ];
}

-- a sector of a list with one written
set_sector : (l : List Bytes) (at a : ℕ) (v : Bytes) → ((a ≡ at) × (sector_of (slice_set l at v) a ≡ v)) ⊎ (sector_of (slice_set l at v) a ≡ sector_of l a)
set_sector [] at a v = inr refl
set_sector (x ∷ l) zero zero v = inl (refl, refl)
set_sector (x ∷ l) zero (suc a) v = inr refl
set_sector (x ∷ l) (suc at) zero v = inr refl
set_sector (x ∷ l) (suc at) (suc a) v = elim (set_sector l at a v) [
  | inl new ↦ inl (ap suc new.0, new.1)
  | inr old ↦ inr old
]

-- after an event reads give what they gave, or what it put there
seen_then : (e : Event) (h : History) (d a : ℕ) → (sector_of (seen (After e h) d) a ≡ sector_of (seen h d) a) ⊎ Puts e d a (sector_of (seen (After e h) d) a)
seen_then Quiet h d a = inl refl
seen_then (Lost device at value) h d a = inl refl
seen_then (Flushed device) h d a = inl refl
seen_then (DeviceFailed device) h d a = inl refl
seen_then (Wrote device at value) h d a = by_device (d == device) refl
  where
    by_device : (b : Bool) → (d == device) ≡ b → (sector_of (cond b (slice_set (seen h d) at value) (seen h d)) a ≡ sector_of (seen h d) a)
        ⊎ ((d ≡ device) × (a ≡ at) × (sector_of (cond b (slice_set (seen h d) at value) (seen h d)) a ≡ value))
    by_device false is = inl refl
    by_device true is = elim (set_sector (seen h d) at a value) [
      | inl new ↦ inr (eqb-true d device is, new.0, new.1)
      | inr old ↦ inl old
    ]

module _ (table : Table) (sectors : ℕ → Bytes) (old : History) where
  abbrev Is : History → Type 0
  Is = IsBringing table sectors old

  by_event : (e : Event) (h : History) → Is h → ((d a : ℕ) (v : Bytes) → Puts e d a v → IsOwnThere table sectors d a v)
      → ((d : ℕ) → is_down h d ≡ true → is_down (After e h) d ≡ true) → ((d : ℕ) → ¬ CountsOn table d → is_down (After e h) d ≡ is_down h d) → Is (After e h)
  by_event e h is put down others = record {
    holds = λ d a v may. ⊎_elim (λ puts. inr (put d a v puts)) (is.holds d a v) (may_hold_before e h d a v may);
    start = is.start;
    stays_down = λ d was. down d (is.stays_down d was);
    others_stay = λ d out. others d out ∙ is.others_stay d out;
    reads = λ d a. elim (seen_then e h d a) [
      | inr puts ↦ inr (put d a (sector_of (seen (After e h) d) a) puts)
      | inl same ↦ elim (is.reads d a) [
        | inl was ↦ inl (same ∙ was)
        | inr own ↦ inr (subst (IsOwnThere table sectors d a) (sym same) own)
      ]
    ];
  }

  own_there : (slot : ℕ) → CountsOn table slot → (d a : ℕ) (v : Bytes) → (d ≡ slot) × (a ≡ place_of table) × (v ≡ sectors slot) → IsOwnThere table sectors d a v
  own_there slot counted d a v (same, place, is) = record {
    counted = subst (CountsOn table) (sym same) counted;
    in_place = place;
    is =
        is ∙ ap sectors (sym same);
  }

  stay_up : (slot : ℕ) → CountsOn table slot → (h : History) (d : ℕ) → ¬ CountsOn table d → (d == slot || is_down h d) ≡ is_down h d
  stay_up slot counted h d out = ap (λ (b : Bool). b || is_down h d) (eqb_other d slot (λ same. out (subst (CountsOn table) (sym same) counted)))

  quiet_event : (h : History) → Is h → Is (After Quiet h)
  quiet_event h is = by_event Quiet h is (λ d a v put. absurd put) (λ d down. down) (λ d out. refl)

  by_fault : (slot : ℕ) (fault : Event) (h : History) → Is h → Is (After fault h) → Is (After (fault_at slot fault h) h)
  by_fault slot fault h is faulty = by_case (is_down h slot)
    where
      by_case : (b : Bool) → Is (After (cond b Quiet fault) h)
      by_case true = quiet_event h is
      by_case false = faulty

  by_failure : (slot : ℕ) → CountsOn table slot → (h : History) → Is h → Is (After (DeviceFailed slot) h)
  by_failure slot counted h is = by_event (DeviceFailed slot) h is (λ d a v put. absurd put) (λ d down. or_right (d == slot) (is_down h d) down)
      (stay_up slot counted h)

  by_read : (slot at : ℕ) → CountsOn table slot → (answered : Bool) (h : History) → Is h → Is (after_call (Read slot at) answered h)
  by_read slot at counted true h is = quiet_event h is
  by_read slot at counted false h is = by_fault slot (DeviceFailed slot) h is (by_failure slot counted h is)

  by_write : (slot : ℕ) → CountsOn table slot → (answered : Bool) (h : History) → Is h → Is (after_call (Write slot (place_of table) (sectors slot)) answered h)
  by_write slot counted true h is = by_event (Wrote slot (place_of table) (sectors slot)) h is (own_there slot counted) (λ d down. down) (λ d out. refl)
  by_write slot counted false h is = by_fault slot (Lost slot (place_of table) (sectors slot)) h is
      (by_event (Lost slot (place_of table) (sectors slot)) h is (own_there slot counted) (λ d down. or_right (d == slot) (is_down h d) down)
      (stay_up slot counted h))

  by_flush : (slot : ℕ) → CountsOn table slot → (answered : Bool) (h : History) → Is h → Is (after_call (Flush slot) answered h)
  by_flush slot counted true h is = by_event (Flushed slot) h is (λ d a v put. absurd put) (λ d down. down) (λ d out. refl)
  by_flush slot counted false h is = by_fault slot (DeviceFailed slot) h is (by_failure slot counted h is)

  also : (call : Call) (answered : Bool) (h : History) → Throughout Is old h → Is (after_call call answered h) → Throughout Is old (after_call call answered h)
  also (Read device at) answered h so_far is = then_also _ h so_far is
  also (Write device at value) answered h so_far is = then_also _ h so_far is
  also (Flush device) answered h so_far is = then_also _ h so_far is

  -- one call that was tried
  tried : (call : Call) → IsKeptBy Is call → (result : Result (Unit {0}) Stop) (h new : History) → Throughout Is old h
      → new ≡ after_try (after_call call) result h → Throughout Is old new
  tried call keep (Ok done) h new so_far is = subst (Throughout Is old) (sym is) (also call true h so_far (keep.keeps true h (throughout_last h so_far)))
  tried call keep (Err (Down d)) h new so_far is = subst (Throughout Is old) (sym is) (also call false h so_far (keep.keeps false h (throughout_last h so_far)))
  tried call keep (Err Worn) h new so_far is = subst (Throughout Is old) (sym is) so_far

-- at each moment of the read, the write and the flush of a slot
pub moments_read : (table : Table) (sectors : ℕ → Bytes) (slot : ℕ) → CountsOn table slot → (result : Result (Unit {0}) Stop) {old new : History}
    → new ≡ after_try (after_read slot) result old → Throughout (IsBringing table sectors old) old new
moments_read table sectors slot counted result {old = old} {new = new} is =
    tried table sectors old (Read slot (place_of table)) (record { keeps = by_read table sectors old slot (place_of table) counted }) result old new
    (here (bringing_first table sectors old)) is

pub moments_write : (table : Table) (sectors : ℕ → Bytes) (slot : ℕ) → CountsOn table slot → (result : Result (Unit {0}) Stop) {old mid new : History}
    → Throughout (IsBringing table sectors old) old mid → new ≡ after_try (after_write slot (place_of table) (sectors slot)) result mid
    → Throughout (IsBringing table sectors old) old new
moments_write table sectors slot counted result {old = old} {mid = mid} {new = new} so_far is =
    tried table sectors old (Write slot (place_of table) (sectors slot)) (record { keeps = by_write table sectors old slot counted }) result mid new so_far is

pub moments_flush : (table : Table) (sectors : ℕ → Bytes) (slot : ℕ) → CountsOn table slot → (result : Result (Unit {0}) Stop) {old mid new : History}
    → Throughout (IsBringing table sectors old) old mid → new ≡ after_try (after_flush slot) result mid → Throughout (IsBringing table sectors old) old new
moments_flush table sectors slot counted result {old = old} {mid = mid} {new = new} so_far is =
    tried table sectors old (Flush slot) (record { keeps = by_flush table sectors old slot counted }) result mid new so_far is

-- one slot

-- a read was answered: the device is up, and what was read stands there
pub record IsReadOf (slot at : ℕ) (found : Bytes) (old read : History) : Type 0 where
  pub is : read ≡ After Quiet old
  pub up : is_down old slot ≡ false
  pub bytes : found ≡ sector_of (seen old slot) at

pub read_of : (slot at : ℕ) (found : Bytes) {old read : History} (panel : Panel) (done : Unit {0}) → read ≡ after_try (after_read slot) (Ok done) old
    → panel.down slot ≡ false
    → IsTrueTo panel read → found ≡ sector_of (seen old slot) at → IsReadOf slot at found old read
read_of slot at found panel done is up is_true bytes = record {
  is = is;
  up = ap (λ (h : History). is_down h slot) (sym is) ∙ sym (is_true.down slot) ∙ up;
  bytes = bytes;
}

-- nothing is pending but in this device
pub record RestsBut (slot : ℕ) (h : History) : Type 0 where
  pub one : (device at : ℕ) (first second : Bytes) → device ≢ slot → is_down h device ≡ false → MayHold h device at first → MayHold h device at second
      → first ≡ second

pub rests_but : (slot : ℕ) {h : History} → NothingPending h → RestsBut slot h
rests_but slot nothing = record { one = λ device at first second apart. nothing device at first second }

-- and the device is down
rests_failed : (slot : ℕ) (h : History) → RestsBut slot h → is_down h slot ≡ true → NothingPending h
rests_failed slot h rests down device at first second up = elim (cases_eq device slot) [
  | inl same ↦ absurd (differ (sym down ∙ ap (is_down h) (sym same) ∙ up))
  | inr apart ↦ rests.one device at first second apart up
]

but_event : (slot : ℕ) (e : Event) (h : History) → ((d a : ℕ) (v : Bytes) → Puts e d a v → d ≡ slot)
    → ((d : ℕ) → is_down (After e h) d ≡ false → is_down h d ≡ false) → RestsBut slot h
    → RestsBut slot (After e h)
but_event slot e h put up rests = record {
  one = λ device at first second apart is_up is_first is_second. rests.one device at first second apart (up device is_up)
      (before device at first apart (may_hold_before e h device at first is_first))
      (before device at second apart (may_hold_before e h device at second is_second));
}
  where
    before : (device at : ℕ) (value : Bytes) → device ≢ slot → Puts e device at value ⊎ MayHold h device at value → MayHold h device at value
    before device at value apart (inl puts) = absurd (apart (put device at value puts))
    before device at value apart (inr was) = was

right_false : (a b : Bool) → (a || b) ≡ false → b ≡ false
right_false true b is = absurd (cc)
right_false false b is = is

but_fault : (slot : ℕ) (fault : Event) (h : History) → RestsBut slot h → RestsBut slot (After fault h) → RestsBut slot (After (fault_at slot fault h) h)
but_fault slot fault h rests faulty = by_case (is_down h slot)
  where
    by_case : (b : Bool) → RestsBut slot (After (cond b Quiet fault) h)
    by_case true = but_event slot Quiet h (λ d a v put. absurd put) (λ d up. up) rests
    by_case false = faulty

but_failure : (slot : ℕ) (h : History) → RestsBut slot h → RestsBut slot (After (DeviceFailed slot) h)
but_failure slot h rests = but_event slot (DeviceFailed slot) h (λ d a v put. absurd put) (λ d up. right_false (d == slot) (is_down h d) up) rests

-- a call of the device, answered or not
but_call : (call : Call) (answered : Bool) (h : History) → RestsBut (device_of call) h → RestsBut (device_of call) (after_call call answered h)
but_call (Read slot at) true h rests = but_event slot Quiet h (λ d a v put. absurd put) (λ d up. up) rests
but_call (Read slot at) false h rests = but_fault slot (DeviceFailed slot) h rests (but_failure slot h rests)
but_call (Write slot at value) true h rests = but_event slot (Wrote slot at value) h (λ d a v put. put.0) (λ d up. up) rests
but_call (Write slot at value) false h rests = but_fault slot (Lost slot at value) h rests
    (but_event slot (Lost slot at value) h (λ d a v put. put.0) (λ d up. right_false (d == slot) (is_down h d) up) rests)
but_call (Flush slot) true h rests = but_event slot (Flushed slot) h (λ d a v put. absurd put) (λ d up. up) rests
but_call (Flush slot) false h rests = but_fault slot (DeviceFailed slot) h rests (but_failure slot h rests)

-- a call that was tried
pub but_tried : (call : Call) (result : Result (Unit {0}) Stop) {h new : History} → new ≡ after_try (after_call call) result h → RestsBut (device_of call) h
    → RestsBut (device_of call) new
but_tried call (Ok done) {h = h} is rests = subst (RestsBut (device_of call)) (sym is) (but_call call true h rests)
but_tried call (Err (Down d)) {h = h} is rests = subst (RestsBut (device_of call)) (sym is) (but_call call false h rests)
but_tried call (Err Worn) is rests = subst (RestsBut (device_of call)) (sym is) rests

-- it ended with an error
pub brings_stop : {honest : Type 0} (table : Table) (sectors : ℕ → Bytes) (slot : ℕ) (old_panel new_panel : Panel) {old new : History}
    (result : Result (Unit {0}) Stop) (stop : Stop)
    → result ≡ Err stop → IsLater old_panel new_panel → IsCauseOf new_panel stop × ((stop ≡ Worn) ⊎ (stop ≡ Down slot))
    → (honest → IsTrueTo new_panel new) → (honest → Throughout (IsBringing table sectors old) old new) → (honest → NothingPending old → RestsBut slot new)
    → (honest → NoSuperblockIsStale (λ s. s ≡ slot) table sectors old → HasRead old new)
    → BringsUpSlots honest (λ s. s ≡ slot) table sectors old_panel new_panel old new result
brings_stop table sectors slot old_panel new_panel {new = new} result stop is later cause is_true moments rest quiet = record {
  later = later;
  cause = λ other was. let same : stop ≡ other = cc in subst (IsCauseOf new_panel) same cause.0;
  named = λ device was. elim cause.1 [
    | inl worn ↦ absurd (cc)
    | inr down ↦ let same : slot ≡ device = cc in sym same
  ];
  moments = moments;
  rests = λ honest nothing not_worn. elim cause.1 [
    | inl worn ↦ absurd (not_worn (is ∙ ap (λ (s : Stop). Err s) worn))
    | inr down ↦ rests_failed slot new (rest honest nothing) (sym ((is_true honest).down slot) ∙ subst (IsCauseOf new_panel) down cause.0)
  ];
  none_failed = λ honest ok. absurd (cc);
  safe = λ honest nothing ok. absurd (cc);
  quiet = quiet;
}

-- the place reads the table's superblock
pub brings_read : {honest : Type 0} (table : Table) (sectors : ℕ → Bytes) (slot : ℕ) (found : Bytes) (old_panel new_panel : Panel) {old new : History}
    → CountsOn table slot
    → IsLater old_panel new_panel → (honest → IsReadOf slot (place_of table) found old new) → found ≡ sectors slot
    → BringsUpSlots honest (λ s. s ≡ slot) table sectors old_panel new_panel old new (Ok tt)
brings_read table sectors slot found old_panel new_panel {old = old} {new = new} counted later reads same = record {
  later = later;
  cause = λ stop was. absurd (cc);
  named = λ device was. absurd (cc);
  moments = λ honest. moments_read table sectors slot counted (Ok tt) (reads honest).is;
  none_failed = λ honest ok device. ap (λ (h : History). is_down h device) (reads honest).is;
  rests = λ honest nothing ok. subst NothingPending (sym (reads honest).is) nothing;
  safe = λ honest nothing ok s is.
      let read = reads honest in
      subst (λ (k : ℕ). (is_down new k ≡ false) × IsSafeAt new k (place_of table) (sectors k)) (sym is)
      (subst (λ (h : History). (is_down h slot ≡ false) × IsSafeAt h slot (place_of table) (sectors slot)) (sym read.is) (
        read.up,
        λ value may. nothing slot (place_of table) value (sector_of (seen old slot) (place_of table)) read.up may (up_seen old slot (place_of table) read.up)
            ∙ sym read.bytes ∙ same,
      ));
  quiet = λ honest none. read_one slot (Ok tt) (reads honest).is;
}

-- the place reads something else: the slot is stale
pub is_stale : (table : Table) (sectors : ℕ → Bytes) (slot : ℕ) (found : Bytes) {A : Type 0} {old read : History}
    → IsReadOf slot (place_of table) found old read → found ≢ sectors slot
    → NoSuperblockIsStale (λ s. s ≡ slot) table sectors old → A
is_stale table sectors slot found read other none = absurd (other (read.bytes ∙ none slot refl read.up))

-- after the read, the write and the flush
abbrev after_three : Table → (ℕ → Bytes) → ℕ → History → History
after_three table sectors slot old = After (Flushed slot) (After (Wrote slot (place_of table) (sectors slot)) (After Quiet old))

three_rest : (table : Table) (sectors : ℕ → Bytes) (slot : ℕ) (old : History) → NothingPending old → NothingPending (after_three table sectors slot old)
three_rest table sectors slot old nothing device at first second up is_first is_second = elim (cases_eq device slot) [
  | inl same ↦ is_first.1 same ∙ sym (is_second.1 same)
  | inr other ↦ nothing device at first second up (before other first is_first.0) (before other second is_second.0)
]
  where
    before : device ≢ slot → (value : Bytes) → MayHold (After (Wrote slot (place_of table) (sectors slot)) (After Quiet old)) device at value
        → MayHold old device at value
    before other value (inl puts) = absurd (other puts.0)
    before other value (inr was) = was

three_safe : (table : Table) (sectors : ℕ → Bytes) (slot : ℕ) (old : History) → place_of table < length (seen old slot)
    → IsSafeAt (after_three table sectors slot old) slot (place_of table) (sectors slot)
three_safe table sectors slot old within value may = may.1 refl ∙ seen_written slot (place_of table) (sectors slot) (After Quiet old) within

-- the superblock is written, and the device flushed
pub brings_flushed : {honest : Type 0} (table : Table) (sectors : ℕ → Bytes) (slot : ℕ) (found : Bytes) (old_panel new_panel : Panel)
    {old read written new : History}
    (result : Result (Unit {0}) Stop) → CountsOn table slot → IsLater old_panel new_panel
    → IfErr result (λ stop. IsCauseOf new_panel stop × ((stop ≡ Worn) ⊎ (stop ≡ Down slot)))
    → (honest → IsReadOf slot (place_of table) found old read) → found ≢ sectors slot → (honest → place_of table < length (seen old slot))
    → (honest → written ≡ after_write slot (place_of table) (sectors slot) true read) → (honest → new ≡ after_try (after_flush slot) result written)
    → (honest → IsTrueTo new_panel new) → BringsUpSlots honest (λ s. s ≡ slot) table sectors old_panel new_panel old new result
brings_flushed table sectors slot found old_panel new_panel {old = old} {read = read} {written = written} {new = new} (Err stop) counted later cause reads other
    room writes flushes is_true =
    brings_stop table sectors slot old_panel new_panel (Err stop) stop refl later cause is_true
    (λ honest. moments_flush table sectors slot counted (Err stop)
    (moments_write table sectors slot counted (Ok tt) (moments_read table sectors slot counted (Ok tt) (reads honest).is) (writes honest)) (flushes honest))
    (λ honest nothing. but_tried (Flush slot) (Err stop) (flushes honest)
    (but_tried (Write slot (place_of table) (sectors slot)) (Ok tt) (writes honest)
    (but_tried (Read slot (place_of table)) (Ok tt) (reads honest).is (rests_but slot nothing))))
    (λ honest none. is_stale table sectors slot found (reads honest) other none)
brings_flushed {honest = honest} table sectors slot found old_panel new_panel {old = old} {read = read} {written = written} {new = new} (Ok done) counted later
    cause reads other room writes flushes is_true = record {
      later = later;
      cause = λ stop was. absurd (cc);
      named = λ device was. absurd (cc);
      moments = λ honest. moments_flush table sectors slot counted (Ok tt)
          (moments_write table sectors slot counted (Ok tt) (moments_read table sectors slot counted (Ok tt) (reads honest).is) (writes honest))
          (flushes honest);
      none_failed = λ honest ok device. ap (λ (h : History). is_down h device) (all_is honest);
      rests = λ honest nothing ok. subst NothingPending (sym (all_is honest)) (three_rest table sectors slot old nothing);
      safe = λ honest nothing ok s is.
          subst (λ (k : ℕ). (is_down new k ≡ false) × IsSafeAt new k (place_of table) (sectors k)) (sym is)
          (subst (λ (h : History). (is_down h slot ≡ false) × IsSafeAt h slot (place_of table) (sectors slot)) (sym (all_is honest)) (
            (reads honest).up,
            three_safe table sectors slot old (room honest),
          ));
      quiet = λ honest none. is_stale table sectors slot found (reads honest) other none;
    }
  where
    all_is : honest → new ≡ after_three table sectors slot old
    all_is honest = flushes honest ∙ ap (λ (h : History). After (Flushed slot) h)
        (writes honest ∙ ap (λ (h : History). After (Wrote slot (place_of table) (sectors slot)) h) (reads honest).is)

-- the place is one of the device's sectors
pub place_within : (table : Table) (slot : ℕ) (panel : Panel) (h : History) → IsTrueTo panel h
    → (panel.down slot ≡ false → SUPERBLOCK_PLACES ≤ panel.sectors slot) → is_down h slot ≡ false
    → place_of table < length (seen h slot)
place_within table slot panel h is_true has up =
    let most = has (is_true.down slot ∙ up) in
    omega (arith, is_true.sectors slot, most, length-seen h slot)

-- several slots

-- none
pub brings_none : {honest : Type 0} (slots : ℕ → Type 0) (table : Table) (sectors : ℕ → Bytes) (panel : Panel) (h : History) → ((slot : ℕ) → ¬ slots slot)
    → BringsUpSlots honest slots table sectors panel panel h h (Ok tt)
brings_none slots table sectors panel h none = record {
  later = later_same panel;
  cause = λ stop was. absurd (cc);
  named = λ device was. absurd (cc);
  moments = λ honest. here (bringing_first table sectors h);
  none_failed = λ honest ok device. refl;
  rests = λ honest nothing ok. nothing;
  safe = λ honest nothing ok slot is. absurd (none slot is);
  quiet = λ honest stand. read_none h;
}

-- a safe superblock stays safe while others are brought up
still_safe : (table : Table) (sectors : ℕ → Bytes) (old h : History) (slot : ℕ) → IsBringing table sectors old h
    → IsSafeAt old slot (place_of table) (sectors slot)
    → IsSafeAt h slot (place_of table) (sectors slot)
still_safe table sectors old h slot is safe value may = ⊎_elim (safe value) (λ own. own.is) (is.holds slot (place_of table) value may)

ok_not_worn : (result : Result (Unit {0}) Stop) → result ≡ Ok tt → result ≢ Err Worn
ok_not_worn result ok worn = absurd (cc)

-- some slots, and then others
pub brings_both : {honest still : Type 0} (slots others : ℕ → Type 0) (table : Table) (sectors : ℕ → Bytes) (first second third : Panel) {old mid new : History}
    (result : Result (Unit {0}) Stop) → (honest → still) → BringsUpSlots honest slots table sectors first second old mid (Ok tt)
    → BringsUpSlots still others table sectors second third mid new result
    → BringsUpSlots honest (λ s. slots s ⊎ others s) table sectors first third old new result
brings_both {honest = honest} slots others table sectors first second third {old = old} {mid = mid} {new = new} result go one two = record {
  later = later_both _ _ _ one.later two.later;
  cause = two.cause;
  named = λ device was. inr (two.named device was);
  moments = λ honest.
      let until = throughout_last mid (one.moments honest) in
      throughout_on mid (one.moments honest) new (throughout_more (λ h is. bringing_both table sectors old mid h until is) new (two.moments (go honest)));
  none_failed = λ honest ok device. two.none_failed (go honest) ok device ∙ one.none_failed honest refl device;
  rests = λ honest nothing ok. two.rests (go honest) (one.rests honest nothing (ok_not_worn (Ok tt) refl)) ok;
  safe = λ honest nothing ok slot which. elim which [
    | inl is ↦
        let before = one.safe honest nothing refl slot is in (
          two.none_failed (go honest) ok slot ∙ before.0,
          still_safe table sectors mid new slot (throughout_last new (two.moments (go honest))) before.1,
        )
    | inr is ↦ two.safe (go honest) (one.rests honest nothing (ok_not_worn (Ok tt) refl)) ok slot is
  ];
  quiet = λ honest none.
      let read = one.quiet honest (λ slot is up. none slot (inl is) up) in
      read_both read (two.quiet (go honest) (λ slot is up.
      ap (λ (l : List Bytes). sector_of l (place_of table)) (seen_read read slot) ∙ none slot (inr is) (sym (one.none_failed honest refl slot) ∙ up)));
}

-- the same, of more slots where it ended with an error, and of as many at Ok
pub brings_as : {honest : Type 0} (slots more : ℕ → Type 0) (table : Table) (sectors : ℕ → Bytes) (old_panel new_panel : Panel) {old new : History}
    (result : Result (Unit {0}) Stop) → ((slot : ℕ) → slots slot → more slot) → (result ≡ Ok tt → (slot : ℕ) → more slot → slots slot)
    → BringsUpSlots honest slots table sectors old_panel new_panel old new result → BringsUpSlots honest more table sectors old_panel new_panel old new result
brings_as slots more table sectors old_panel new_panel result there back brings = record {
  later = brings.later;
  cause = brings.cause;
  named = λ device was. there device (brings.named device was);
  moments = brings.moments;
  none_failed = brings.none_failed;
  rests = brings.rests;
  safe = λ honest nothing ok slot is. brings.safe honest nothing ok slot (back ok slot is);
  quiet = λ honest none. brings.quiet honest (λ slot is up. none slot (there slot is) up);
}

-- the slots in one state, rising

-- so many slots from 0 on, where they are in this state
abbrev pub HasStateBelow : Table → State → (most slot : ℕ) → Type 0
HasStateBelow table state most slot = (slot < most) × HasState table state slot

-- the slot is on the panel, and has its place where it is up
pub device_there : (old new : Panel) (table : Table) (slot : ℕ) → IsLater old new → CanPublish old table None → slot < slots_of table → slot < new.devices
device_there old new table slot later can within = omega (arith, later.devices, can.of_bank, within)

pub place_there : (old new : Panel) (table : Table) (slot : ℕ) → IsLater old new → CanPublish old table None → slot < slots_of table
    → state_at table.states slot ≢ Missing
    → new.down slot ≡ false → SUPERBLOCK_PLACES ≤ new.sectors slot
place_there old new table slot later can within there up = omega (arith, later.sectors slot, can.has_places slot within there (still_up old new slot later up))

pub can_later : (old new : Panel) (table : Table) → IsLater old new → CanPublish old table None → CanPublish new table None
can_later old new table later can = record {
  of_bank = omega (arith, later.devices, can.of_bank);
  last_in_set = can.last_in_set;
  last_there = can.last_there;
  has_places = λ slot within there up. place_there old new table slot later can within there up;
}

-- the next slot isn't in this state
pub brings_skip : {honest : Type 0} (table : Table) (state : State) (slot : ℕ) (sectors : ℕ → Bytes) (old_panel new_panel : Panel) {old new : History}
    → state_at table.states slot ≢ state
    → BringsUpSlots honest (HasStateBelow table state slot) table sectors old_panel new_panel old new (Ok tt)
    → BringsUpSlots honest (HasStateBelow table state (slot + 1)) table sectors old_panel new_panel old new (Ok tt)
brings_skip table state slot sectors old_panel new_panel other brings =
    brings_as (HasStateBelow table state slot) (HasStateBelow table state (slot + 1)) table sectors old_panel new_panel (Ok tt)
    (λ s is. (omega (arith, is.0), is.1))
    (λ ok s is. elim (cases_eq s slot) [
      | inl same ↦ absurd (other (ap (λ (k : ℕ). state_at table.states k) (sym same) ∙ is.1.1))
      | inr apart ↦ (omega (arith, is.0, apart), is.1)
    ])
    brings

-- the next slot is
pub brings_next : {honest still : Type 0} (table : Table) (state : State) (slot : ℕ) (sectors : ℕ → Bytes) (first second third : Panel) {old mid new : History}
    → HasState table state slot → (honest → still)
    → BringsUpSlots honest (HasStateBelow table state slot) table sectors first second old mid (Ok tt)
    → BringsUpSlots still (λ s. s ≡ slot) table sectors second third mid new (Ok tt)
    → BringsUpSlots honest (HasStateBelow table state (slot + 1)) table sectors first third old new (Ok tt)
brings_next table state slot sectors first second third has go one two =
    brings_as (λ s. HasStateBelow table state slot s ⊎ (s ≡ slot)) (HasStateBelow table state (slot + 1)) table sectors first third (Ok tt)
    (λ s which. elim which [
      | inl below ↦ (omega (arith, below.0), below.1)
      | inr same ↦ (omega (arith, same), subst (HasState table state) (sym same) has)
    ])
    (λ ok s is. elim (cases_eq s slot) [
      | inl same ↦ inr same
      | inr apart ↦ inl (omega (arith, is.0, apart), is.1)
    ])
    (brings_both (HasStateBelow table state slot) (λ s. s ≡ slot) table sectors first second third (Ok tt) go one two)

-- and it ended there
pub brings_ended : {honest still : Type 0} (table : Table) (state : State) (slot : ℕ) (sectors : ℕ → Bytes) (first second third : Panel) {old mid new : History}
    (result : Result (Unit {0}) Stop) (stop : Stop) → result ≡ Err stop → HasState table state slot → (honest → still)
    → BringsUpSlots honest (HasStateBelow table state slot) table sectors first second old mid (Ok tt)
    → BringsUpSlots still (λ s. s ≡ slot) table sectors second third mid new result
    → BringsUpSlots honest (HasState table state) table sectors first third old new result
brings_ended table state slot sectors first second third result stop is has go one two =
    brings_as (λ s. HasStateBelow table state slot s ⊎ (s ≡ slot)) (HasState table state) table sectors first third result
    (λ s which. elim which [
      | inl below ↦ below.1
      | inr same ↦ subst (HasState table state) (sym same) has
    ])
    (λ ok s more. absurd (cc))
    (brings_both (HasStateBelow table state slot) (λ s. s ≡ slot) table sectors first second third result go one two)

-- none is left
pub brings_all : {honest : Type 0} (table : Table) (state : State) (slot : ℕ) (sectors : ℕ → Bytes) (old_panel new_panel : Panel) {old new : History}
    → slots_of table ≤ slot
    → BringsUpSlots honest (HasStateBelow table state slot) table sectors old_panel new_panel old new (Ok tt)
    → BringsUpSlots honest (HasState table state) table sectors old_panel new_panel old new (Ok tt)
brings_all table state slot sectors old_panel new_panel most brings =
    brings_as (HasStateBelow table state slot) (HasState table state) table sectors old_panel new_panel (Ok tt)
    (λ s is. is.1) (λ ok s is. (omega (arith, is.0, most), is)) brings

-- all slots that the table counts on

in_state : (table : Table) (slot : ℕ) → CountsOn table slot → HasState table InSync slot ⊎ HasState table Rebuilding slot
in_state table slot counted = by_state (state_at table.states slot) refl
  where
    by_state : (state : State) → state_at table.states slot ≡ state → HasState table InSync slot ⊎ HasState table Rebuilding slot
    by_state Missing is = absurd (counted.there is)
    by_state InSync is = inl (counted.of_set, is)
    by_state Rebuilding is = inr (counted.of_set, is)

pub counted_in : (table : Table) (state : State) → state ≢ Missing → (slot : ℕ) → HasState table state slot → CountsOn table slot
counted_in table state there slot has = record { of_set = has.0; there = λ missing. there (sym has.1 ∙ missing) }

pub in_sync_there : InSync ≢ Missing
in_sync_there is = cc

pub rebuilding_there : Rebuilding ≢ Missing
rebuilding_there is = cc

-- those in sync, and then the one that is rebuilding
pub brings_up : {honest still : Type 0} (table : Table) (first second third : Panel) {old mid new : History} (result : Result (Unit {0}) Stop)
    → (honest → still)
    → ((sectors : ℕ → Bytes) → AreSpelled table sectors → BringsUpSlots honest (HasState table InSync) table sectors first second old mid (Ok tt))
    → ((sectors : ℕ → Bytes) → AreSpelled table sectors → BringsUpSlots still (HasState table Rebuilding) table sectors second third mid new result)
    → BringsUp honest table first third old new result
brings_up table first second third result go one two = record {
  sectors = sector_for table;
  spelled = sector_stands table;
  brings = brings_as (λ s. HasState table InSync s ⊎ HasState table Rebuilding s) (CountsOn table) table (sector_for table) first third result
      (λ s which. elim which [
        | inl in_sync ↦ counted_in table InSync in_sync_there s in_sync
        | inr rebuilding ↦ counted_in table Rebuilding rebuilding_there s rebuilding
      ])
      (λ ok s counted. in_state table s counted)
      (brings_both (HasState table InSync) (HasState table Rebuilding) table (sector_for table) first second third result go
      (one (sector_for table) (sector_stands table)) (two (sector_for table) (sector_stands table)));
}

-- it ended among those in sync
pub brings_up_short : {honest : Type 0} (table : Table) (first second : Panel) {old new : History} (result : Result (Unit {0}) Stop) (stop : Stop)
    → result ≡ Err stop
    → ((sectors : ℕ → Bytes) → AreSpelled table sectors → BringsUpSlots honest (HasState table InSync) table sectors first second old new (Err stop))
    → BringsUp honest table first second old new result
brings_up_short {honest = honest} table first second {old = old} {new = new} result stop is one = record {
  sectors = sector_for table;
  spelled = sector_stands table;
  brings = subst (λ (r : Result (Unit {0}) Stop). BringsUpSlots honest (CountsOn table) table (sector_for table) first second old new r) (sym is)
      (brings_as (HasState table InSync) (CountsOn table) table (sector_for table) first second (Err stop)
      (λ s in_sync. counted_in table InSync in_sync_there s in_sync) (λ ok. absurd (cc)) (one (sector_for table) (sector_stands table)));
}
