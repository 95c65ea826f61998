-- What reads give is one of the images that a crash now may leave; a run begins with nothing pending, and a crash then leaves what it began with.
use Rattle.std.proofs.Common.{◌≡◌, ◌≢◌, ℕ, Bool, true, false, List, [], length, Option, Some, None, refl, sym, ◌∙◌, ap, cond}
use Rattle.std.specs.Prelude.{is_none}
use Rattle.std.proofs.Math.Path.{fun_ext}
use Rattle.std.proofs.lemmas.List.{ext_get_or}
use Rattle.sector_model.specs.History.{History, Began, Bytes, Slots, disk_of, sector_of, start_of, is_down, seen, IsAt, SlotMayHold, MayLeave}
use Rattle.sector_model.specs.MemoryLaw.{length-seen}
use Rattle.sector_model.specs.Readable.{NothingPending, readable}
use Rattle.sector_model.proofs.Steps.{absent_down, up_seen}

-- a device that is up was there when the run began
up_was_there : (h : History) (d : ℕ) → is_down h d ≡ false → start_of h d ≢ None
up_was_there h d up none = differ (sym (absent_down h d none) ∙ up)
  where
    differ : true ≡ false → ⊥
    differ is = cc

-- what reads of a device give may be left in its slot
pub readable_left : (h : History) → MayLeave h (readable h)
readable_left h d = by_state (is_down h d) refl
  where
    by_state : (b : Bool) → is_down h d ≡ b → SlotMayHold h d (cond b None (Some (seen h d)))
    by_state true is = is
    by_state false is = (up_was_there h d is, length-seen h d, λ a. up_seen h d a is)

-- of a device that is down reads give nothing
pub readable_down : (h : History) (d : ℕ) → is_down h d ≡ true → readable h d ≡ None
readable_down h d is = ap (λ (b : Bool). cond b None (Some (seen h d))) is

-- of one that is up they give its sectors
pub readable_up : (h : History) (d : ℕ) → is_down h d ≡ false → readable h d ≡ Some (seen h d)
readable_up h d is = ap (λ (b : Bool). cond b None (Some (seen h d))) is

one_at : (slot : Option (List Bytes)) (at : ℕ) (first second : Bytes) → IsAt slot at first → IsAt slot at second → first ≡ second
one_at None at first second is_first is_second = absurd is_first
one_at (Some disk) at first second is_first is_second = is_first ∙ sym is_second

-- when a run begins, nothing is pending
pub none_pending_began : (image : Slots) → NothingPending (Began image)
none_pending_began image device at first second up is_first is_second = one_at (image device) at first second is_first is_second

slot_readable : (slot : Option (List Bytes)) → cond (is_none slot) None (Some (disk_of slot)) ≡ slot
slot_readable None = refl
slot_readable (Some disk) = refl

-- when a run begins, reads give what it began with
pub readable_began : (image : Slots) → readable (Began image) ≡ image
readable_began image = fun_ext (λ d. slot_readable (image d))

-- sectors that are the same one by one are the same
same_sectors : (old new : List Bytes) → length new ≡ length old → ((a : ℕ) → sector_of new a ≡ sector_of old a) → new ≡ old
same_sectors old new long each = ext_get_or [] new old long (λ a below. each a)

slot_left : (image : Slots) (d : ℕ) (old new : Option (List Bytes)) → image d ≡ old → SlotMayHold (Began image) d new → new ≡ old
slot_left image d old None is may = none_there old (sym (ap is_none is) ∙ may)
  where
    none_there : (slot : Option (List Bytes)) → is_none slot ≡ true → None ≡ slot
    none_there None is = refl
    none_there (Some disk) is = absurd (cc)
slot_left image d None (Some disk) is may = absurd (may.0 is)
slot_left image d (Some there) (Some disk) is may = ap (λ (l : List Bytes). Some l)
    (same_sectors there disk (may.1 ∙ ap (λ (slot : Option (List Bytes)). length (disk_of slot)) is)
    (λ a. at_there (image d) is a (sector_of disk a) (may.2 a)))
  where
    at_there : (slot : Option (List Bytes)) → slot ≡ Some there → (a : ℕ) (v : Bytes) → IsAt slot a v → v ≡ sector_of there a
    at_there None is a v at = absurd at
    at_there (Some disk) is a v at = at ∙ ap (λ (s : Option (List Bytes)). sector_of (disk_of s) a) is

-- when a run begins, a crash leaves what it began with
pub began_left : (image left : Slots) → MayLeave (Began image) left → left ≡ image
began_left image left may = fun_ext (λ d. slot_left image d (image d) (left d) refl (may d))
