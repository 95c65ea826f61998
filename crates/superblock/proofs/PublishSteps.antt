-- What a moment of a publish leaves: what stood there before, and the new superblocks.
use Rattle.std.proofs.Common.{◌≡◌, ◌⊎◌, inl, inr, ⊎_elim, ℕ, suc, Bool, true, false, cond, List, [], ◌∷◌, ◌++◌, refl, sym, ◌∙◌, ap, subst, arith, ◌==◌, ◌||◌}
use Rattle.std.specs.Prelude.{Contains, Option, map}
use Rattle.std.proofs.lemmas.Bool.{or_right}
use Rattle.std.proofs.lemmas.List.Elements.{Contains-append_left, Contains-append_right}
use Rattle.sector_model.specs.declared.event.Event.{Event}
use Rattle.sector_model.specs.declared.event.Event.TheVariants.{Quiet, Wrote, Lost, Flushed, DeviceFailed}
use Rattle.sector_model.specs.Bank.{fault_at}
use Rattle.sector_model.specs.Calls.{Flush, Made, Write, after_call}
use Rattle.sector_model.specs.History.{After, Bytes, History, MayHold, is_down, start_of}
use Rattle.sector_model.specs.Moments.{Throughout}
use Rattle.sector_model.proofs.Replay.{eqb_other}
use Rattle.sector_model.proofs.Sequences.{AllKeep, keep_both, throughout_kept}
use Rattle.sector_model.proofs.Steps.{Puts, may_hold_before}
use Rattle.superblock.specs.declared.table.Table.{Table}
use Rattle.superblock.specs.Publishing.{first_slots, last_slots, place_of, publish_calls, written_and_flushed}

-- a slot gets the table's superblock
abbrev pub GetsIt : Table → Option ℕ → ℕ → Type 0
GetsIt table last slot = Contains (first_slots table last ++ last_slots last) slot

-- the table's superblock of a slot, in its place
pub record IsNewThere (table : Table) (last : Option ℕ) (sectors : ℕ → Bytes) (device at : ℕ) (value : Bytes) : Type 0 where
  pub gets : GetsIt table last device
  pub in_place : at ≡ place_of table
  pub is : value ≡ sectors device

-- A moment of a publish that began at `old`: a crash leaves in each sector what it might have left before, or the new superblock in its place;
-- the devices are the same; what was down is down, and only a device that gets the superblock may have gone down.
pub record IsInPublish (table : Table) (last : Option ℕ) (sectors : ℕ → Bytes) (old h : History) : Type 0 where
  pub holds : (device at : ℕ) (value : Bytes) → MayHold h device at value → MayHold old device at value ⊎ IsNewThere table last sectors device at value
  pub start : (device : ℕ) → start_of h device ≡ start_of old device
  pub stays_down : (device : ℕ) → is_down old device ≡ true → is_down h device ≡ true
  pub others_stay : (device : ℕ) → ¬ GetsIt table last device → is_down h device ≡ is_down old device

-- before its first call
pub in_publish_first : (table : Table) (last : Option ℕ) (sectors : ℕ → Bytes) (old : History) → IsInPublish table last sectors old old
in_publish_first table last sectors old = record {
  holds = λ device at value may. inl may;
  start = λ device. refl;
  stays_down = λ device down. down;
  others_stay = λ device not_got. refl;
}

-- a list has its first element, and all of the others
pub has_first : (slot : ℕ) (slots : List ℕ) → Contains (slot ∷ slots) slot
has_first slot slots = (0, omega arith, refl)

pub has_later : (slot : ℕ) (slots : List ℕ) (other : ℕ) → Contains slots other → Contains (slot ∷ slots) other
has_later slot slots other has = (suc has.0, omega (arith, has.1), has.2)

module _ (table : Table) (last : Option ℕ) (sectors : ℕ → Bytes) (old : History) where
  abbrev Is : History → Type 0
  Is = IsInPublish table last sectors old

  by_event : (e : Event) (h : History) → Is h → ((d a : ℕ) (v : Bytes) → Puts e d a v → IsNewThere table last sectors d a v)
      → ((d : ℕ) → is_down h d ≡ true → is_down (After e h) d ≡ true) → ((d : ℕ) → ¬ GetsIt table last d → is_down (After e h) d ≡ is_down h d) → Is (After e h)
  by_event e h is put down others = record {
    holds = λ d a v may. ⊎_elim (λ puts. inr (put d a v puts)) (is.holds d a v) (may_hold_before e h d a v may);
    start = is.start;
    stays_down = λ d was. down d (is.stays_down d was);
    others_stay = λ d not_got. others d not_got ∙ is.others_stay d not_got;
  }

  new_there : (device : ℕ) → GetsIt table last device → (d a : ℕ) (v : Bytes) → (d ≡ device) × (a ≡ place_of table) × (v ≡ sectors device)
      → IsNewThere table last sectors d a v
  new_there device gets d a v (same, place, is) = record { gets = subst (GetsIt table last) (sym same) gets; in_place = place; is = is ∙ ap sectors (sym same) }

  stay_up : (device : ℕ) → GetsIt table last device → (h : History) (d : ℕ) → ¬ GetsIt table last d → (d == device || is_down h d) ≡ is_down h d
  stay_up device gets h d not_got = ap (λ (b : Bool). b || is_down h d) (eqb_other d device (λ same. not_got (subst (GetsIt table last) (sym same) gets)))

  by_fault : (device : ℕ) (fault : Event) (h : History) → Is h → Is (After fault h) → Is (After (fault_at device fault h) h)
  by_fault device fault h is faulty = by_case (is_down h device)
    where
      by_case : (b : Bool) → Is (After (cond b Quiet fault) h)
      by_case true = by_event Quiet h is (λ d a v put. absurd put) (λ d down. down) (λ d not_got. refl)
      by_case false = faulty

  by_write : (device : ℕ) → GetsIt table last device → (answered : Bool) (h : History) → Is h
      → Is (after_call (Write device (place_of table) (sectors device)) answered h)
  by_write device gets true h is = by_event (Wrote device (place_of table) (sectors device)) h is (new_there device gets) (λ d down. down) (λ d not_got. refl)
  by_write device gets false h is =
      by_fault device (Lost device (place_of table) (sectors device)) h is
      (by_event (Lost device (place_of table) (sectors device)) h is (new_there device gets) (λ d down. or_right (d == device) (is_down h d) down)
      (stay_up device gets h))

  by_flush : (device : ℕ) → GetsIt table last device → (answered : Bool) (h : History) → Is h → Is (after_call (Flush device) answered h)
  by_flush device gets true h is = by_event (Flushed device) h is (λ d a v put. absurd put) (λ d down. down) (λ d not_got. refl)
  by_flush device gets false h is =
      by_fault device (DeviceFailed device) h is
      (by_event (DeviceFailed device) h is (λ d a v put. absurd put) (λ d down. or_right (d == device) (is_down h d) down) (stay_up device gets h))

  writes_keep : (slots : List ℕ) → ((slot : ℕ) → Contains slots slot → GetsIt table last slot)
      → AllKeep Is (map (λ slot. Write slot (place_of table) (sectors slot)) slots)
  writes_keep [] get = tt
  writes_keep (slot ∷ slots) get = (
    record { keeps = λ answered h is. by_write slot (get slot (has_first slot slots)) answered h is },
    writes_keep slots (λ other has. get other (has_later slot slots other has)),
  )

  flushes_keep : (slots : List ℕ) → ((slot : ℕ) → Contains slots slot → GetsIt table last slot) → AllKeep Is (map (λ slot. Flush slot) slots)
  flushes_keep [] get = tt
  flushes_keep (slot ∷ slots) get = (
    record { keeps = λ answered h is. by_flush slot (get slot (has_first slot slots)) answered h is },
    flushes_keep slots (λ other has. get other (has_later slot slots other has)),
  )

  phase_keeps : (slots : List ℕ) → ((slot : ℕ) → Contains slots slot → GetsIt table last slot) → AllKeep Is (written_and_flushed table sectors slots)
  phase_keeps slots get =
      keep_both Is (map (λ slot. Write slot (place_of table) (sectors slot)) slots) (map (λ slot. Flush slot) slots) (writes_keep slots get)
      (flushes_keep slots get)

-- all calls of a publish keep that
pub publish_keeps : (table : Table) (last : Option ℕ) (sectors : ℕ → Bytes) (old : History)
    → AllKeep (IsInPublish table last sectors old) (publish_calls table last sectors)
publish_keeps table last sectors old =
    let first = first_slots table last in
    let lasts = last_slots last in
    keep_both (IsInPublish table last sectors old) (written_and_flushed table sectors first) (written_and_flushed table sectors lasts)
    (phase_keeps table last sectors old first (λ slot has. Contains-append_left first lasts slot has))
    (phase_keeps table last sectors old lasts (λ slot has. Contains-append_right first lasts slot has))

-- at each moment of a publish a crash leaves what it might have left before, and the new superblocks
pub in_publish : (table : Table) (last : Option ℕ) (sectors : ℕ → Bytes) (answered : Bool) (old new : History)
    → Made (publish_calls table last sectors) answered old new
    → Throughout (IsInPublish table last sectors old) old new
in_publish table last sectors answered old new made =
    throughout_kept (IsInPublish table last sectors old) (publish_keeps table last sectors old) (in_publish_first table last sectors old) made
