-- What one event changes in what a crash may leave, and how moments go on.
use Rattle.std.proofs.Common.{◌≡◌, ◌≢◌, ◌⊎◌, inl, inr, ⊎_elim, ℕ, ◌+◌, ◌≤◌, Bool, true, false, zero, suc, List, [], ◌∷◌, Option, Some, None, refl, sym, ◌∙◌, ap}
use Rattle.std.proofs.Common.{subst, arith, ◌==◌, ◌||◌, cond}
use Rattle.std.specs.Prelude.{nat_lt, slice_set, is_none}
use Rattle.std.proofs.lemmas.Bool.{eqb-true}
use Rattle.std.proofs.lemmas.Bool.Decides.{nat_tests}
use Rattle.sector_model.specs.declared.event.Event.{Event}
use Rattle.sector_model.specs.declared.event.Event.TheVariants.{Quiet, Wrote, Lost, Flushed, DeviceFailed}
use Rattle.sector_model.specs.History.{History, Began, After, Bytes, Slots, calls_of, cut_at, seen, is_down, start_of, disk_of, sector_of, IsAt, MayHold}
use Rattle.sector_model.specs.History.{SlotMayHold, MayLeave}
use Rattle.sector_model.specs.Moments.{Throughout, here, then_also, Contents, LeavesWithin, IsWithin}

-- an event puts this value there
abbrev pub Puts : Event → ℕ → ℕ → Bytes → Type 0
Puts Quiet d a v = ⊥
Puts (Wrote device at value) d a v = (d ≡ device) × (a ≡ at) × (v ≡ value)
Puts (Lost device at value) d a v = (d ≡ device) × (a ≡ at) × (v ≡ value)
Puts (Flushed device) d a v = ⊥
Puts (DeviceFailed device) d a v = ⊥

-- after an event a crash may leave what it put there, or what a crash might have left before
pub may_hold_before : (e : Event) (h : History) (d a : ℕ) (v : Bytes) → MayHold (After e h) d a v → Puts e d a v ⊎ MayHold h d a v
may_hold_before Quiet h d a v may = inr may
may_hold_before (Wrote device at value) h d a v may = may
may_hold_before (Lost device at value) h d a v may = may
may_hold_before (Flushed device) h d a v may = inr may.0
may_hold_before (DeviceFailed device) h d a v may = inr may

-- an event that puts only what may stand there
pub within_event : (Q : Contents) (e : Event) (h : History) → LeavesWithin Q h → ((d a : ℕ) (v : Bytes) → Puts e d a v → Q d a v) → LeavesWithin Q (After e h)
within_event Q e h before put = record { each = λ d a v may. ⊎_elim (put d a v) (before.each d a v) (may_hold_before e h d a v may) }

-- after a flush the device's sectors are left with what reads give
pub within_flush : (Q : Contents) (dev : ℕ) (h : History) → LeavesWithin Q h
    → LeavesWithin (λ d a v. Q d a v × (d ≡ dev → v ≡ sector_of (seen h dev) a)) (After (Flushed dev) h)
within_flush Q dev h before = record {
  each = λ d a v may. (before.each d a v may.0, λ same. may.1 same ∙ ap (λ (k : ℕ). sector_of (seen h k) a) same);
}

pub within_more : (P Q : Contents) (h : History) → ((d a : ℕ) (v : Bytes) → P d a v → Q d a v) → LeavesWithin P h → LeavesWithin Q h
within_more P Q h more left = record { each = λ d a v may. more d a v (left.each d a v may) }

-- the same facts of each image that a crash may leave
slot_within : (h : History) (d a : ℕ) (slot : Option (List Bytes)) (disk : List Bytes) → SlotMayHold h d slot → slot ≡ Some disk
    → MayHold h d a (sector_of disk a)
slot_within h d a slot disk may is = let at_disk = subst (SlotMayHold h d) is may in at_disk.2 a

pub image_within : (Q : Contents) (h : History) (image : Slots) → LeavesWithin Q h → MayLeave h image → IsWithin Q image
image_within Q h image left may = record { each = λ d disk a is. left.each d a (sector_of disk a) (slot_within h d a (image d) disk (may d) is) }

-- a device that isn't down is there
slot_is_there : (h : History) (d : ℕ) (slot : Option (List Bytes)) → SlotMayHold h d slot → is_down h d ≡ false → (disk : List Bytes) × (slot ≡ Some disk)
slot_is_there h d None may is_up = absurd (cc)
slot_is_there h d (Some disk) may is_up = (disk, refl)

pub is_there : (h : History) (d : ℕ) (image : Slots) → is_down h d ≡ false → MayLeave h image → (disk : List Bytes) × (image d ≡ Some disk)
is_there h d image is_up may = slot_is_there h d (image d) (may d) is_up

-- a slot that is not empty has a device
pub slot_has : (slot : Option (List Bytes)) → slot ≢ None → (disk : List Bytes) × (slot ≡ Some disk)
slot_has None is = absurd (is refl)
slot_has (Some disk) is = (disk, refl)

-- a sector that stands in a slot is one of its device
pub in_slot : (slot : Option (List Bytes)) (a : ℕ) (v : Bytes) → IsAt slot a v → (disk : List Bytes) × (slot ≡ Some disk) × (v ≡ sector_of disk a)
in_slot None a v is = absurd is
in_slot (Some disk) a v is = (disk, refl, is)

pub within_began : (Q : Contents) (image : Slots) → IsWithin Q image → LeavesWithin Q (Began image)
within_began Q image within = record { each = λ d a v may. let at = in_slot (image d) a v may in subst (Q d a) (sym at.2) (within.each d at.0 a at.1) }

-- a device that was there has what reads give
at_start : (slot : Option (List Bytes)) (a : ℕ) → slot ≢ None → IsAt slot a (sector_of (disk_of slot) a)
at_start None a there = absurd (there refl)
at_start (Some disk) a there = refl

set_sector : (l : List Bytes) (at a : ℕ) (v : Bytes) → ((a ≡ at) × (sector_of (slice_set l at v) a ≡ v)) ⊎ (sector_of (slice_set l at v) a ≡ sector_of l a)
set_sector [] at a v = inr refl
set_sector (x ∷ l) zero zero v = inl (refl, refl)
set_sector (x ∷ l) zero (suc a) v = inr refl
set_sector (x ∷ l) (suc at) zero v = inr refl
set_sector (x ∷ l) (suc at) (suc a) v = elim (set_sector l at a v) [
  | inl new ↦ inl (ap suc new.0, new.1)
  | inr old ↦ inr old
]

pub may_hold_seen : (h : History) (d a : ℕ) → start_of h d ≢ None → MayHold h d a (sector_of (seen h d) a)
may_hold_seen (Began start) d a there = at_start (start d) a there
may_hold_seen (After Quiet h) d a there = may_hold_seen h d a there
may_hold_seen (After (Wrote device at value) h) d a there = by_device (d == device) refl (may_hold_seen h d a there)
  where
    by_device : (b : Bool) → (d == device) ≡ b → MayHold h d a (sector_of (seen h d) a)
        → MayHold (After (Wrote device at value) h) d a (sector_of (cond b (slice_set (seen h d) at value) (seen h d)) a)
    by_device true is before = elim (set_sector (seen h d) at a value) [
      | inl new ↦ inl (eqb-true d device is, new.0, new.1)
      | inr old ↦ inr (subst (MayHold h d a) (sym old) before)
    ]
    by_device false is before = inr before
may_hold_seen (After (Lost device at value) h) d a there = inr (may_hold_seen h d a there)
may_hold_seen (After (Flushed device) h) d a there = (may_hold_seen h d a there, λ same. refl)
may_hold_seen (After (DeviceFailed device) h) d a there = may_hold_seen h d a there

or_true : (a b : Bool) → b ≡ true → (a || b) ≡ true
or_true true b is = refl
or_true false b is = is

pub absent_down : (h : History) (d : ℕ) → start_of h d ≡ None → is_down h d ≡ true
absent_down (Began start) d is = ap is_none is
absent_down (After Quiet h) d is = absent_down h d is
absent_down (After (Wrote device at value) h) d is = absent_down h d is
absent_down (After (Lost device at value) h) d is = or_true (d == device) (is_down h d) (absent_down h d is)
absent_down (After (Flushed device) h) d is = absent_down h d is
absent_down (After (DeviceFailed device) h) d is = or_true (d == device) (is_down h d) (absent_down h d is)

-- what reads give is what a crash may leave of a device that is up
pub up_seen : (h : History) (d a : ℕ) → is_down h d ≡ false → MayHold h d a (sector_of (seen h d) a)
up_seen h d a up = may_hold_seen h d a (λ none. differ (sym (absent_down h d none) ∙ up))
  where
    differ : true ≡ false → ⊥
    differ is = cc

-- moments

pub throughout_first : {P : History → Type 0} {old : History} (new : History) → Throughout P old new → P old
throughout_first new (here is) = is
throughout_first new (then_also e h so_far is) = throughout_first h so_far

pub throughout_last : {P : History → Type 0} {old : History} (new : History) → Throughout P old new → P new
throughout_last new (here is) = is
throughout_last new (then_also e h so_far is) = is

pub throughout_on : {P : History → Type 0} {old : History} (mid : History) → Throughout P old mid → (new : History) → Throughout P mid new
    → Throughout P old new
throughout_on mid first new (here is) = first
throughout_on mid first new (then_also e h so_far is) = then_also e h (throughout_on mid first h so_far) is

pub throughout_more : {P Q : History → Type 0} {old : History} → ((h : History) → P h → Q h) → (new : History) → Throughout P old new → Throughout Q old new
throughout_more more new (here is) = here (more new is)
throughout_more more new (then_also e h so_far is) = then_also e h (throughout_more more h so_far) (more (After e h) is)

-- by number: the run as it was after t calls

cut_whole : (t : ℕ) (h : History) → calls_of h ≤ t → cut_at t h ≡ h
cut_whole t (Began start) le = refl
cut_whole t (After e h) le = ap (λ (b : Bool). cond b (cut_at t h) (After e h)) (later t (calls_of h + 1) le)
  where
    later : (a b : ℕ) → b ≤ a → nat_lt a b ≡ false
    later a b le = grind (arith, nat_tests)

pub throughout_cut : {P : History → Type 0} {old : History} (new : History) → Throughout P old new → (t : ℕ) → calls_of old ≤ t → P (cut_at t new)
throughout_cut {P = P} new (here is) t le = subst P (sym (cut_whole t new le)) is
throughout_cut {P = P} new (then_also e h so_far is) t le = by_case (nat_lt t (calls_of h + 1)) (throughout_cut h so_far t le)
  where
    by_case : (b : Bool) → P (cut_at t h) → P (cond b (cut_at t h) (After e h))
    by_case true before = before
    by_case false before = is
