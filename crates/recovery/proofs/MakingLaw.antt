-- What the calls of making a set leave: the image of a set that was just made, with nothing pending.
use Rattle.std.proofs.Common.{◌≡◌, ◌≢◌, ◌⊎◌, inl, inr, ℕ, ◌+◌, ◌%◌, ◌<◌, ◌≤◌, Bool, true, false, cond, [], length, replicate, refl, sym, ◌∙◌, ap, subst, arith}
use Rattle.std.proofs.Common.{◌==◌}
use Rattle.std.specs.Prelude.{Err, IfErr, Ok, OnOk, Result, Some, None}
use Rattle.std.proofs.lemmas.Bool.{cases_eq, cases_lt, eqb-true}
use Rattle.std.proofs.lemmas.List.Elements.{Contains-append_left}
use Rattle.sector_model.specs.declared.sector.Stop.{Stop}
use Rattle.sector_model.specs.declared.sector.Stop.TheVariants.{Down, Worn}
use Rattle.sector_model.specs.Bank.{IsLater, IsTrueTo, Panel}
use Rattle.sector_model.specs.History.{Bytes, History, MayHold, MayLeave, SlotMayHold, Slots, disk_of, is_down, sector_of, seen, start_of}
use Rattle.sector_model.specs.Readable.{NothingPending, readable}
use Rattle.sector_model.proofs.Readable.{readable_left}
use Rattle.sector_model.proofs.Sequences.{down_after, made_all}
use Rattle.sector_model.proofs.Steps.{throughout_last}
use Rattle.layout_map.specs.declared.sizes.TheConstants.{FIRST_ROW, FIRST_SEAL, SUPERBLOCK_PLACES}
use Rattle.layout_map.specs.declared.geometry.Geometry.{Geometry}
use Rattle.superblock.specs.declared.table.Table.{Table}
use Rattle.superblock.specs.Cases.{HasNone, with_slot}
use Rattle.superblock.specs.Counted.{Content, least_sectors}
use Rattle.superblock.specs.NextTables.{slots_of}
use Rattle.superblock.specs.declared.state.State.TheVariants.{Missing}
use Rattle.superblock.specs.Publishing.{Publishes, StandsAt, first_slots, place_of, publish_calls}
use Rattle.superblock.specs.Tables.{state_at}
use Rattle.superblock.proofs.PublishSteps.{GetsIt, IsInPublish, IsNewThere, in_publish}
use Rattle.superblock.proofs.PublishedSlots.{first_has, gets_given}
use Rattle.array_io.specs.Believed.Fresh.{IsFresh, zeros_of}
use Rattle.array_io.specs.Believed.Settled.{IsSettled}
use Rattle.array_io.proofs.Laws.Fresh.{in_sync_not_missing}
use Rattle.array_io.proofs.Images.Put.{put_there}
use Rattle.array_io.proofs.Laws.SettledFresh.{IsFreshNow, settled_fresh, zeros_are}
use Rattle.recovery.specs.Clearing.{HasCleared, IsClearedSlot, IsFlushed, IsStopIn, IsUsable, IsZeroAt}
use Rattle.recovery.specs.Making.{IsFirstTable, IsQuietBeyond, bank_view}
use Rattle.recovery.proofs.MakingClearing.{cleared_both, slot_stays}

-- the devices of the set were cleared, and each was flushed
pub record IsCleaned (geometry : Geometry) (old mid : History) : Type 0 where
  pub cleared : HasCleared (geometry.members + 2) old mid
  pub each : (slot : ℕ) → slot < geometry.members + 2 → IsClearedSlot geometry mid slot
  pub flushed : (slot : ℕ) → slot < geometry.members + 2 → IsFlushed mid slot

-- the table was published on all slots of the set, and all calls were answered
pub record IsPublished (table : Table) (mid new : History) : Type 0 where
  pub sectors : ℕ → Bytes
  pub within : IsInPublish table None sectors mid new
  pub gets : (slot : ℕ) → GetsIt table None slot → slot < slots_of table
  pub down : (slot : ℕ) → is_down new slot ≡ is_down mid slot
  pub safe : (slot : ℕ) (value : Bytes) → slot < slots_of table → MayHold new slot 1 value → value ≡ sectors slot
  pub stands : (slot : ℕ) → slot < slots_of table → StandsAt table slot (sectors slot)

-- what a slot of an image holds, where its device is up
in_slot_up : (h : History) (d a : ℕ) (content : Content) → SlotMayHold h d content → is_down h d ≡ false → MayHold h d a (sector_of (disk_of content) a)
in_slot_up h d a None may up = absurd (cc)
in_slot_up h d a (Some disk) may up = may.2 a

long_slot_up : (h : History) (d : ℕ) (content : Content) → SlotMayHold h d content → is_down h d ≡ false
    → length (disk_of content) ≡ length (disk_of (start_of h d))
long_slot_up h d None may up = absurd (cc)
long_slot_up h d (Some disk) may up = may.1

-- what a slot of an image holds is whole
whole_slot : (panel : Panel) (h : History) (d a : ℕ) (content : Content) → IsTrueTo panel h → SlotMayHold h d content → a < length (disk_of content)
    → length (sector_of (disk_of content) a) ≡ 512
whole_slot panel h d a None is_true may within = absurd (omega (arith, within))
whole_slot panel h d a (Some disk) is_true may within = is_true.whole d a (sector_of disk a) (omega (arith, within, may.1)) (may.2 a)

-- the facts of a bank on which a set was made, from the run before to the run after
pub record IsMadeOn (table : Table) (devices : ℕ) (before after : Panel) (old mid new : History) : Type 0 where
  pub first : IsFirstTable table.id table.geometry table
  pub usable : IsUsable table.geometry before
  pub quiet : IsQuietBeyond table.id (slots_of table) (bank_view before old)
  pub later : IsLater before after
  pub was_true : IsTrueTo before old
  pub is_true : IsTrueTo after new
  pub cleaned : IsCleaned table.geometry old mid
  pub published : IsPublished table mid new
  pub devices_are : devices ≡ before.devices

module _ (table : Table) (devices : ℕ) (before after : Panel) (old mid new : History) (made : IsMadeOn table devices before after old mid new) where
  -- the superblocks stand in sector 1
  place_is_1 : place_of table ≡ 1
  place_is_1 = ap (λ (n : ℕ). n % SUPERBLOCK_PLACES) made.first.generation

  up : (slot : ℕ) → slot < slots_of table → is_down new slot ≡ false
  up slot of_set = made.published.down slot ∙ made.cleaned.cleared.down slot ∙ sym (made.was_true.down slot) ∙ made.usable.up slot of_set

  start_same : (slot : ℕ) → start_of new slot ≡ start_of old slot
  start_same slot = made.published.within.start slot ∙ made.cleaned.cleared.start slot

  down_same : (slot : ℕ) → is_down new slot ≡ is_down old slot
  down_same slot = made.published.down slot ∙ made.cleaned.cleared.down slot

  -- what a crash leaves besides the superblocks is what reads gave after the flushes
  elsewhere : (slot at : ℕ) (value : Bytes) → slot < slots_of table → at ≢ 1 → MayHold new slot at value → value ≡ sector_of (seen mid slot) at
  elsewhere slot at value of_set apart may = by_case (made.published.within.holds slot at value may)
    where
      by_case : MayHold mid slot at value ⊎ IsNewThere table None made.published.sectors slot at value → value ≡ sector_of (seen mid slot) at
      by_case (inl was) = made.cleaned.flushed slot of_set at value was
      by_case (inr there) = absurd (apart (there.in_place ∙ place_is_1))

  zero_left : (slot at : ℕ) (value : Bytes) → slot < slots_of table → at ≢ 1 → IsZeroAt mid slot at → MayHold new slot at value → value ≡ replicate 512 0
  zero_left slot at value of_set apart zero may = elsewhere slot at value of_set apart may ∙ zero

  -- after the set a crash leaves what it left before
  beyond : (slot at : ℕ) (value : Bytes) → slots_of table ≤ slot → MayHold new slot at value → MayHold old slot at value
  beyond slot at value is may = by_case (made.published.within.holds slot at value may)
    where
      by_case : MayHold mid slot at value ⊎ IsNewThere table None made.published.sectors slot at value → MayHold old slot at value
      by_case (inl was) = made.cleaned.cleared.beyond slot at value is was
      by_case (inr there) = absurd (omega (arith, is, made.published.gets slot there.gets))

  slot_beyond : (slot : ℕ) (content : Content) → slots_of table ≤ slot → SlotMayHold new slot content → SlotMayHold old slot content
  slot_beyond slot None is may = sym (down_same slot) ∙ may
  slot_beyond slot (Some disk) is may = (
    λ none. may.0 (start_same slot ∙ none),
    may.1 ∙ ap (λ (c : Content). length (disk_of c)) (start_same slot),
    λ a. beyond slot a (sector_of disk a) is (may.2 a),
  )

  one_in_set : (slot at : ℕ) (first second : Bytes) → slot < slots_of table → MayHold new slot at first → MayHold new slot at second → first ≡ second
  one_in_set slot at first second of_set is_first is_second = elim (cases_eq at 1) [
    | inl same ↦ made.published.safe slot first of_set (subst (λ (a : ℕ). MayHold new slot a first) same is_first)
        ∙ sym (made.published.safe slot second of_set (subst (λ (a : ℕ). MayHold new slot a second) same is_second))
    | inr apart ↦ elsewhere slot at first of_set apart is_first ∙ sym (elsewhere slot at second of_set apart is_second)
  ]

  none_pending : NothingPending new
  none_pending slot at first second is_up is_first is_second = elim (cases_lt slot (slots_of table)) [
    | inl of_set ↦ one_in_set slot at first second of_set is_first is_second
    | inr is ↦ made.quiet.one_value slot at first second is (sym (down_same slot) ∙ is_up)
        (beyond slot at first is is_first) (beyond slot at second is is_second)
  ]

  -- the image before, with what stands in one slot now
  left_before : (slot : ℕ) (content : Content) → SlotMayHold old slot content → MayLeave old (with_slot (readable old) slot content)
  left_before slot content may d = by_case (d == slot) refl
    where
      by_case : (b : Bool) → (d == slot) ≡ b → SlotMayHold old d (cond b content (readable old d))
      by_case true is = subst (λ (k : ℕ). SlotMayHold old k content) (sym (eqb-true d slot is)) may
      by_case false is = readable_left old d

  none_beyond_end : (image : Slots) (slot : ℕ) → MayLeave new image → slots_of table ≤ slot → HasNone table.id devices slot (image slot)
  none_beyond_end image slot may is =
      let content = image slot in
      subst (λ (n : ℕ). HasNone table.id n slot content) (sym made.devices_are)
      (subst (λ (c : Content). HasNone table.id before.devices slot c) (put_there (readable old) slot content)
      (made.quiet.nothing (with_slot (readable old) slot content) slot (left_before slot content (slot_beyond slot content is (may slot))) is))

  long_left : (image : Slots) (slot : ℕ) → MayLeave new image → slot < slots_of table → least_sectors table.geometry slot ≤ length (disk_of (image slot))
  long_left image slot may of_set = omega (
    arith,
    long_slot_up new slot (image slot) (may slot) (up slot of_set),
    ap (λ (c : Content). length (disk_of c)) (start_same slot),
    made.was_true.sectors slot,
    made.usable.room.fit slot of_set,
  )

  at_zero : (image : Slots) (slot at : ℕ) → MayLeave new image → slot < slots_of table → at ≢ 1 → IsZeroAt mid slot at
      → sector_of (disk_of (image slot)) at ≡ replicate 512 0
  at_zero image slot at may of_set apart zero =
      zero_left slot at (sector_of (disk_of (image slot)) at) of_set apart zero
      (in_slot_up new slot at (image slot) (may slot) (up slot of_set))

  stands_there : (image : Slots) (slot : ℕ) → MayLeave new image → slot < slots_of table → StandsAt table slot (sector_of (disk_of (image slot)) 1)
  stands_there image slot may of_set = subst (λ (s : Bytes). StandsAt table slot s)
      (sym (made.published.safe slot (sector_of (disk_of (image slot)) 1) of_set (in_slot_up new slot 1 (image slot) (may slot) (up slot of_set))))
      (made.published.stands slot of_set)

  each_is_fresh : (image : Slots) → MayLeave new image → IsFresh devices table image
  each_is_fresh image may = record {
    first_table = made.first.generation;
    has_slots = omega (arith, made.usable.room.of_bank, made.devices_are);
    in_sync = made.first.in_sync;
    first_devices = made.first.incarnations;
    long_enough = λ slot of_set. long_left image slot may of_set;
    superblocks = λ slot of_set. stands_there image slot may of_set;
    cleared_places = λ slot of_set. at_zero image slot 0 may of_set (λ is. absurd (omega (arith, is)))
        ((made.cleaned.each slot of_set).places 0 (omega arith) (omega arith)) ∙ zeros_are;
    cleared_seals = λ journal place is of_set below. at_zero image journal (FIRST_SEAL + place) may of_set (λ same. absurd (omega (arith, same)))
        ((made.cleaned.each journal of_set).seals is (FIRST_SEAL + place) (omega arith) (omega (arith, below))) ∙ zeros_are;
    cleared_rows = λ member row is below.
        let of_set : member < slots_of table = omega (arith, is) in
        at_zero image member (FIRST_ROW + row) may of_set (λ same. absurd (omega (arith, same)))
        ((made.cleaned.each member of_set).rows is (FIRST_ROW + row) (omega arith) (omega (arith, below))) ∙ zeros_are;
    alone = λ slot place superblock is. none_beyond_end image slot may is place superblock;
    whole = λ slot a within. whole_slot after new slot a (image slot) made.is_true (may slot) within;
  }

-- the law
pub made_is_fresh : (table : Table) (devices : ℕ) (before after : Panel) (old mid new : History)
    → IsMadeOn table devices before after old mid new → IsFreshNow devices table new
made_is_fresh table devices before after old mid new made = record {
  nothing_pending = none_pending table devices before after old mid new made;
  each = each_is_fresh table devices before after old mid new made;
}

-- what publishing the first table on all slots of the set gives, where it is answered
pub published_first : (honest : Type 0) (table : Table) (before after : Panel) (mid new : History) → IsFirstTable table.id table.geometry table → honest
    → Publishes honest table None before after mid new (Ok tt) → IsPublished table mid new
published_first honest table before after mid new first true_bank published = record {
  sectors = published.sectors;
  within = throughout_last new (in_publish table None published.sectors true mid new (published.made true_bank));
  gets = λ slot gets. (gets_given table None none_last none_last' slot gets).of_set;
  down = λ slot. ap (λ (h : History). is_down h slot) (made_all (published.made true_bank)) ∙ down_after (publish_calls table None published.sectors) mid slot;
  safe = λ slot value of_set may. published.safe true_bank refl slot (all_get slot of_set) value
      (subst (λ (a : ℕ). MayHold new slot a value) (sym place_is) may);
  stands = λ slot of_set. published.spelled slot of_set (λ missing. in_sync_not_missing (sym (first.in_sync slot of_set) ∙ missing));
}
  where
    place_is : place_of table ≡ 1
    place_is = ap (λ (n : ℕ). n % SUPERBLOCK_PLACES) first.generation

    none_last : (slot : ℕ) → None ≡ Some slot → slot < slots_of table
    none_last slot is = absurd (cc)

    none_last' : (slot : ℕ) → None ≡ Some slot → state_at table.states slot ≢ Missing
    none_last' slot is = absurd (cc)

    all_get : (slot : ℕ) → slot < slots_of table → GetsIt table None slot
    all_get slot of_set = Contains-append_left (first_slots table None) [] slot
        (first_has table None slot record { of_set = of_set; in_sync = first.in_sync slot of_set; not_last = λ is. absurd (cc) })

-- clearing, and then flushing
pub cleaned_both : (geometry : Geometry) (old between mid : History) → HasCleared (geometry.members + 2) old between
    → ((slot : ℕ) → slot < geometry.members + 2 → IsClearedSlot geometry between slot) → HasCleared (geometry.members + 2) between mid
    → ((slot : ℕ) → slot < geometry.members + 2 → IsFlushed mid slot) → IsCleaned geometry old mid
cleaned_both geometry old between mid first each second flushed = record {
  cleared = cleared_both (geometry.members + 2) old between mid first second;
  each = λ slot of_set. slot_stays (geometry.members + 2) geometry between mid slot second (each slot of_set);
  flushed = flushed;
}

-- a set that was made is settled on zeros
pub made_rests : (honest : Type 0) (table : Table) (before between after : Panel) (old mid new : History) (result : Result (Unit {0}) Stop)
    → IsFirstTable table.id table.geometry table → IsUsable table.geometry before → IsQuietBeyond table.id (slots_of table) (bank_view before old)
    → IsLater before after → IsTrueTo before old → IsTrueTo after new → IsCleaned table.geometry old mid → honest
    → Publishes honest table None between after mid new result → OnOk result (IsSettled after.devices table 0 new None (zeros_of table.geometry))
made_rests honest table before between after old mid new (Err stop) first usable quiet later was_true is_true cleaned true_bank published = tt
made_rests honest table before between after old mid new (Ok done) first usable quiet later was_true is_true cleaned true_bank published =
    settled_fresh after.devices table new (made_is_fresh table after.devices before after old mid new record {
      first = first;
      usable = usable;
      quiet = quiet;
      later = later;
      was_true = was_true;
      is_true = is_true;
      cleaned = cleaned;
      published = published_first honest table between after mid new first true_bank published;
      devices_are = later.devices;
    })

-- why publishing the first table ended before its last call
pub publish_stop : (honest : Type 0) (table : Table) (before after : Panel) (mid new : History) (result : Result (Unit {0}) Stop)
    → Publishes honest table None before after mid new result → IfErr result (IsStopIn (slots_of table) after)
publish_stop honest table before after mid new (Ok done) published = tt
publish_stop honest table before after mid new (Err Worn) published = published.cause Worn refl
publish_stop honest table before after mid new (Err (Down slot)) published = (
  (gets_given table None (λ other is. absurd (cc)) (λ other is. absurd (cc)) slot (published.named slot refl)).of_set,
  published.cause (Down slot) refl,
)
