-- What clearing the devices of a set leaves, call by call.
use Rattle.std.proofs.Common.{◌≡◌, ◌⊎◌, inl, inr, ℕ, suc, ◌+◌, ◌<◌, ◌≤◌, Bool, true, false, cond, List, length, replicate, refl, sym, ◌∙◌, ap, subst, arith}
use Rattle.std.proofs.Common.{◌==◌}
use Rattle.std.specs.Prelude.{slice_set, Result, Ok, Err, OnOk}
use Rattle.std.proofs.lemmas.Bool.{cases_eq, cases_lt}
use Rattle.std.proofs.lemmas.List.{get_or-set_same, get_or-set_other, set_past}
use Rattle.sector_model.specs.declared.event.Event.TheVariants.{Quiet, Wrote, Flushed}
use Rattle.sector_model.specs.declared.sector.Stop.{Stop}
use Rattle.sector_model.specs.declared.sector.Stop.TheVariants.{Down, Worn}
use Rattle.sector_model.specs.Bank.{IsCauseOf, IsTrueTo, Panel, after_flush, after_read, after_try, after_write}
use Rattle.sector_model.specs.History.{After, Bytes, History, MayHold, sector_of, seen}
use Rattle.sector_model.specs.MemoryLaw.{length-seen}
use Rattle.sector_model.proofs.Sequences.{seen_written}
use Rattle.parity.specs.Xor.{zero_sector}
use Rattle.parity.proofs.Laws.{zero_sector-replicate}
use Rattle.layout_map.specs.declared.sizes.TheConstants.{FIRST_ROW, FIRST_SEAL, HALVES, SUPERBLOCK_PLACES}
use Rattle.layout_map.specs.declared.geometry.Geometry.{Geometry}
use Rattle.layout_map.specs.Placement.{rows_of}
use Rattle.recovery.specs.Clearing.{AreZero, HasCleared, IsClearedSlot, IsFlushed, IsStopIn, IsZeroAt}

-- no call
pub cleared_none : (slots : ℕ) (h : History) → HasCleared slots h h
cleared_none slots h = record {
  start = λ device. refl;
  down = λ device. refl;
  beyond = λ device at value beyond may. may;
  zeros = λ device at zero. zero;
}

-- one row of calls after another
pub cleared_both : (slots : ℕ) (old mid new : History) → HasCleared slots old mid → HasCleared slots mid new → HasCleared slots old new
cleared_both slots old mid new first second = record {
  start = λ device. second.start device ∙ first.start device;
  down = λ device. second.down device ∙ first.down device;
  beyond = λ device at value beyond may. first.beyond device at value beyond (second.beyond device at value beyond may);
  zeros = λ device at zero. second.zeros device at (first.zeros device at zero);
}

-- a read that is answered writes nothing, and shows where a sector is zero
read_clears : (slots : ℕ) (h : History) → HasCleared slots h (After Quiet h)
read_clears slots h = record {
  start = λ device. refl;
  down = λ device. refl;
  beyond = λ device at value beyond may. may;
  zeros = λ device at zero. zero;
}

pub cleared_read : (slots dev : ℕ) (old new : History) → new ≡ after_try (after_read dev) (Ok tt) old → HasCleared slots old new
cleared_read slots dev old new is = subst (HasCleared slots old) (sym is) (read_clears slots old)

pub zero_read : (dev at : ℕ) (held : Bytes) (old new : History) → new ≡ after_try (after_read dev) (Ok tt) old → held ≡ sector_of (seen old dev) at
    → held ≡ zero_sector → IsZeroAt new dev at
zero_read dev at held old new is shown zero =
    subst (λ (h : History). IsZeroAt h dev at) (sym is) (sym shown ∙ zero ∙ sym (zero_sector-replicate 512 refl))

-- a zero put anywhere leaves each zero
set_keeps : (l : List Bytes) (at a : ℕ) (v : Bytes) → sector_of l a ≡ v → sector_of (slice_set l at v) a ≡ v
set_keeps l at a v is = elim (cases_eq a at) [
  | inl same ↦ ap (λ (k : ℕ). sector_of (slice_set l at v) k) same ∙ there (cases_lt at (length l)) (sym (ap (λ (k : ℕ). sector_of l k) same) ∙ is)
  | inr other ↦ get_or-set_other l at a v _ other ∙ is
]
  where
    there : (at < length l) ⊎ (length l ≤ at) → sector_of l at ≡ v → sector_of (slice_set l at v) at ≡ v
    there (inl within) was = get_or-set_same l at v _ within
    there (inr beyond) was = ap (λ (s : List Bytes). sector_of s at) (set_past l at v beyond) ∙ was

seen_keeps : (b : Bool) (l : List Bytes) (at a : ℕ) (v : Bytes) → sector_of l a ≡ v → sector_of (cond b (slice_set l at v) l) a ≡ v
seen_keeps true l at a v is = set_keeps l at a v is
seen_keeps false l at a v is = is

wrote_beyond : (slots dev at : ℕ) (v : Bytes) (h : History) → dev < slots → (device a : ℕ) (value : Bytes) → slots ≤ device
    → ((device ≡ dev) × (a ≡ at) × (value ≡ v)) ⊎ MayHold h device a value → MayHold h device a value
wrote_beyond slots dev at v h below device a value beyond (inl (same, place, is)) = absurd (omega (arith, below, beyond, same))
wrote_beyond slots dev at v h below device a value beyond (inr before) = before

wrote_clears : (slots dev at : ℕ) (h : History) → dev < slots → HasCleared slots h (After (Wrote dev at (replicate 512 0)) h)
wrote_clears slots dev at h below = record {
  start = λ device. refl;
  down = λ device. refl;
  beyond = λ device a value beyond may. wrote_beyond slots dev at (replicate 512 0) h below device a value beyond may;
  zeros = λ device a zero. seen_keeps (device == dev) (seen h device) at a (replicate 512 0) zero;
}

-- a zero is written, if the call is answered
pub cleared_write : (slots dev at : ℕ) (result : Result (Unit {0}) Stop) (old new : History)
    → new ≡ after_try (after_write dev at (replicate 512 0)) result old → dev < slots → OnOk result (HasCleared slots old new)
cleared_write slots dev at (Ok done) old new is below = subst (HasCleared slots old) (sym is) (wrote_clears slots dev at old below)
cleared_write slots dev at (Err stop) old new is below = tt

-- the sectors of a device that the panel counts are there
has_sector : (panel : Panel) (h : History) (dev at : ℕ) → IsTrueTo panel h → at < panel.sectors dev → at < length (seen h dev)
has_sector panel h dev at is_true within = omega (arith, within, is_true.sectors dev, length-seen h dev)

pub zero_written : (panel : Panel) (dev at : ℕ) (result : Result (Unit {0}) Stop) (old new : History) → IsTrueTo panel old → at < panel.sectors dev
    → new ≡ after_try (after_write dev at (replicate 512 0)) result old → OnOk result (IsZeroAt new dev at)
zero_written panel dev at (Ok done) old new is_true within is =
    subst (λ (h : History). IsZeroAt h dev at) (sym is) (seen_written dev at (replicate 512 0) old (has_sector panel old dev at is_true within))
zero_written panel dev at (Err stop) old new is_true within is = tt

flush_clears : (slots dev : ℕ) (h : History) → HasCleared slots h (After (Flushed dev) h)
flush_clears slots dev h = record {
  start = λ device. refl;
  down = λ device. refl;
  beyond = λ device a value beyond may. may.0;
  zeros = λ device a zero. zero;
}

-- a flush that is answered
pub cleared_flush : (slots dev : ℕ) (result : Result (Unit {0}) Stop) (old new : History)
    → new ≡ after_try (after_flush dev) result old → OnOk result (HasCleared slots old new)
cleared_flush slots dev (Ok done) old new is = subst (HasCleared slots old) (sym is) (flush_clears slots dev old)
cleared_flush slots dev (Err stop) old new is = tt

-- flushes the device, and leaves flushed those that were
pub flushed_now : (dev : ℕ) (result : Result (Unit {0}) Stop) (old new : History)
    → new ≡ after_try (after_flush dev) result old → OnOk result (IsFlushed new dev)
flushed_now dev (Ok done) old new is = subst (λ (h : History). IsFlushed h dev) (sym is) (λ at value may. may.1 refl)
flushed_now dev (Err stop) old new is = tt

pub flushed_still : (dev other : ℕ) (result : Result (Unit {0}) Stop) (old new : History)
    → new ≡ after_try (after_flush dev) result old → IsFlushed old other → OnOk result (IsFlushed new other)
flushed_still dev other (Ok done) old new is was = subst (λ (h : History). IsFlushed h other) (sym is) (λ at value may. was at value may.0)
flushed_still dev other (Err stop) old new is was = tt

-- one more sector is zero
pub zeros_grow : (dev from at : ℕ) (old new : History) → AreZero old dev from at
    → HasCleared (suc dev) old new → IsZeroAt new dev at → AreZero new dev from (at + 1)
zeros_grow dev from at old new before cleared zero a least below = elim (cases_eq a at) [
  | inl same ↦ subst (λ (k : ℕ). IsZeroAt new dev k) (sym same) zero
  | inr other ↦ cleared.zeros dev a (before a least (omega (arith, below, other)))
]

-- zeros stay
pub zeros_stay : (slots dev from end : ℕ) (old new : History) → HasCleared slots old new → AreZero old dev from end → AreZero new dev from end
zeros_stay slots dev from end old new cleared are a least below = cleared.zeros dev a (are a least below)

pub slot_stays : (slots : ℕ) (geometry : Geometry) (old new : History) (slot : ℕ)
    → HasCleared slots old new → IsClearedSlot geometry old slot → IsClearedSlot geometry new slot
slot_stays slots geometry old new slot cleared is = record {
  places = zeros_stay slots slot 0 SUPERBLOCK_PLACES old new cleared is.places;
  seals = λ beyond. zeros_stay slots slot FIRST_SEAL (FIRST_SEAL + HALVES) old new cleared (is.seals beyond);
  rows = λ below. zeros_stay slots slot FIRST_ROW _ old new cleared (is.rows below);
}

-- one row of calls that is answered, and then another
pub cleared_then : (slots : ℕ) (result : Result (Unit {0}) Stop) (old mid new : History)
    → HasCleared slots old mid → OnOk result (HasCleared slots mid new) → OnOk result (HasCleared slots old new)
cleared_then slots (Ok done) old mid new first second = cleared_both slots old mid new first second
cleared_then slots (Err stop) old mid new first second = tt

pub member_cleared : (slots : ℕ) (geometry : Geometry) (slot end : ℕ) (result : Result (Unit {0}) Stop) (mid new : History) → slot < geometry.members
    → end ≡ FIRST_ROW + rows_of geometry.chunk geometry.stripes → AreZero mid slot 0 SUPERBLOCK_PLACES → OnOk result (HasCleared slots mid new)
    → OnOk result (AreZero new slot FIRST_ROW end)
    → OnOk result (IsClearedSlot geometry new slot)
member_cleared slots geometry slot end (Ok done) mid new member is places cleared rows = record {
  places = zeros_stay slots slot 0 SUPERBLOCK_PLACES mid new cleared places;
  seals = λ beyond. absurd (omega (arith, member, beyond));
  rows = λ below. subst (λ (n : ℕ). AreZero new slot FIRST_ROW n) is rows;
}
member_cleared slots geometry slot end (Err stop) mid new member is places cleared rows = tt

-- why clearing one slot of a set ended, as why clearing them all did
pub stop_in : (slots slot : ℕ) (panel : Panel) (stop : Stop) → slot < slots → IsCauseOf panel stop × ((stop ≡ Worn) ⊎ (stop ≡ Down slot))
    → IsStopIn slots panel stop
stop_in slots slot panel stop within (cause, inl is) = subst (λ (s : Stop). IsStopIn slots panel s) (sym is) (subst (λ (s : Stop). IsCauseOf panel s) is cause)
stop_in slots slot panel stop within (cause, inr is) =
    subst (λ (s : Stop). IsStopIn slots panel s) (sym is) (within, subst (λ (s : Stop). IsCauseOf panel s) is cause)

-- a journal's places and seals are its first sectors
pub journal_cleared : (geometry : Geometry) (slot : ℕ) (result : Result (Unit {0}) Stop) (h : History) → geometry.members ≤ slot
    → OnOk result (AreZero h slot 0 (FIRST_SEAL + HALVES))
    → OnOk result (IsClearedSlot geometry h slot)
journal_cleared geometry slot (Ok done) h beyond zeros = record {
  places = λ at from below. zeros at from (omega (arith, below));
  seals = λ _ at from below. zeros at (omega arith) below;
  rows = λ below. absurd (omega (arith, below, beyond));
}
journal_cleared geometry slot (Err stop) h beyond zeros = tt
