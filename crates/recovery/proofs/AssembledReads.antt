-- While devices are read, some of which may fail, every case that a crash may leave keeps holding.
use Rattle.std.proofs.Common.{◌≡◌, ◌⊎◌, inl, inr, ℕ, ◌+◌, ◌≤◌, Bool, true, false, cond, List, [], length, Option, Some, None, refl, sym, ◌∙◌, ap, subst, arith}
use Rattle.std.proofs.Common.{◌==◌}
use Rattle.std.proofs.lemmas.Bool.{cases_lt, or_right}
use Rattle.std.proofs.lemmas.List.{ext_get_or}
use Rattle.sector_model.specs.History.{Bytes, History, MayHold, MayLeave, SlotMayHold, Slots, disk_of, is_down, sector_of, seen, start_of}
use Rattle.sector_model.specs.MemoryLaw.{length-seen}
use Rattle.sector_model.specs.Moments.{Throughout}
use Rattle.sector_model.specs.Readable.{NothingPending, readable}
use Rattle.sector_model.specs.Reads.{HasRead}
use Rattle.sector_model.proofs.Readable.{readable_left, readable_up}
use Rattle.sector_model.proofs.Reading.{throughout_read}
use Rattle.sector_model.proofs.Steps.{throughout_last, up_seen}
use Rattle.layout_map.specs.declared.geometry.Geometry.{Geometry}
use Rattle.superblock.specs.declared.table.Table.{Table}
use Rattle.superblock.specs.Cases.{Case, IsLostIn, Lost}
use Rattle.superblock.specs.Counted.{Content, Counts}
use Rattle.superblock.specs.Losses.{IsLostAt}
use Rattle.superblock.specs.NextTables.{slots_of}
use Rattle.superblock.proofs.LaterTables.{not_older_same}
use Rattle.array_io.specs.Believed.Holds.{Holds}
use Rattle.array_io.specs.Believed.Moments.{HoldsNow}
use Rattle.array_io.specs.Laws.Starts.{DiffersBeyond}
use Rattle.array_io.proofs.Rest.AtRestImages.{Held}
use Rattle.array_io.proofs.Images.Beyond.{holds_in_beyond}
use Rattle.array_io.proofs.Images.CaseAfter.{IsCaseAfter, case_after, counts_since, of_case_holds, stands_same}
use Rattle.array_io.proofs.Images.Counting.{none_counts}
use Rattle.array_io.proofs.Images.LossBefore.{HoldsBy, WasLost, before_of, by_table, holds_by_table, up_before, was_lost}
use Rattle.array_io.proofs.Images.Spellings.{Spellings}

-- From the one moment to the other devices were read: each has what it had, and what was down is down.
pub record IsRead (old h : History) : Type 0 where
  pub holds : (device at : ℕ) (value : Bytes) → MayHold h device at value → MayHold old device at value
  pub start : (device : ℕ) → start_of h device ≡ start_of old device
  pub same : (device : ℕ) → seen h device ≡ seen old device
  pub stays_down : (device : ℕ) → is_down old device ≡ true → is_down h device ≡ true

differ : true ≡ false → ⊥
differ is = cc

same_read : (old : History) → IsRead old old
same_read old = record { holds = λ device at value may. may; start = λ device. refl; same = λ device. refl; stays_down = λ device down. down }

-- at each moment
pub read_throughout : {old new : History} → HasRead old new → Throughout (IsRead old) old new
read_throughout {old = old} {new = new} read = throughout_read (IsRead old)
    (λ h is. record { holds = is.holds; start = is.start; same = is.same; stays_down = is.stays_down })
    (λ h d is. record {
      holds = is.holds;
      start = is.start;
      same = is.same;
      stays_down = λ device down. or_right (device == d) (is_down h device) (is.stays_down device down);
    })
    read (same_read old)

pub read_last : {old new : History} → HasRead old new → IsRead old new
read_last {old = old} {new = new} read = throughout_last new (read_throughout read)

-- nothing comes to be pending
pub none_pending_read : (old h : History) → IsRead old h → NothingPending old → NothingPending h
none_pending_read old h is nothing device at first second up may may' =
    nothing device at first second (up_before old h is.stays_down device up) (is.holds device at first may) (is.holds device at second may')

-- a device that is up gives what it gave
pub readable_read : (old h : History) → IsRead old h → (device : ℕ) → is_down h device ≡ false → readable h device ≡ readable old device
readable_read old h is device up =
    readable_up h device up
    ∙ ap (λ (l : List Bytes). Some l) (is.same device)
    ∙ sym (readable_up old device (up_before old h is.stays_down device up))

-- what is held by a table, said of an image and of what is lost
pub held_of : (base : Table) (devices : ℕ) (table : Table) (X : List (List Bytes)) (image : Slots) (lost : Option Lost)
    → HoldsBy base devices table X record { image = image; lost = lost } → Held base devices table X image lost
held_of base devices table X image lost by = record {
  not_older = by.not_older;
  lost_in_set = by.lost_in_set;
  whole = by.whole;
  weakened = by.weakened;
  one_counts = by.one_counts;
}

-- the device of a slot failed
record HasGone (old h : History) (slot : ℕ) (content : Content) : Type 0 where
  pub up : is_down old slot ≡ false
  pub down : is_down h slot ≡ true
  pub none : content ≡ None

module _ (spellings : Spellings) (devices : ℕ) (base : Table) (lost : Option Lost) (X : List (List Bytes)) (old h : History)
    (nothing : NothingPending old) (is : IsRead old h) where
  slot_back : (d : ℕ) → is_down old d ≡ true → (content : Content) → SlotMayHold h d content → SlotMayHold old d content
  slot_back d down None may = down
  slot_back d down (Some disk) may = (
    λ none. may.0 (is.start d ∙ none),
    may.1 ∙ ap (λ (c : Content). length (disk_of c)) (is.start d),
    λ a. is.holds d a (sector_of disk a) (may.2 a),
  )

  pub left_before : (image : Slots) → MayLeave h image → MayLeave old (before_of old image)
  left_before image may = λ d. by_state d (is_down old d) refl
    where
      by_state : (d : ℕ) (b : Bool) → is_down old d ≡ b → SlotMayHold old d (cond b (image d) (Some (seen old d)))
      by_state d true down = slot_back d down (image d) (may d)
      by_state d false up = subst (SlotMayHold old d) (readable_up old d up) (readable_left old d)

  found_up : (d : ℕ) → is_down old d ≡ false → (content : Content) → SlotMayHold h d content → (content ≡ Some (seen old d)) ⊎ HasGone old h d content
  found_up d up None may = inr record { up = up; down = may; none = refl }
  found_up d up (Some disk) may = inl (ap (λ (l : List Bytes). Some l) (ext_get_or [] disk (seen old d)
      (may.1 ∙ ap (λ (c : Content). length (disk_of c)) (is.start d) ∙ sym (length-seen old d))
      (λ a below. nothing d a (sector_of disk a) (sector_of (seen old d) a) up (is.holds d a (sector_of disk a) (may.2 a)) (up_seen old d a up))))

  -- what stands in a slot stood there before, or its device failed
  found : (image : Slots) → MayLeave h image → (d : ℕ) → (image d ≡ before_of old image d) ⊎ HasGone old h d (image d)
  found image may d = by_state (is_down old d) refl
    where
      by_state : (b : Bool) → is_down old d ≡ b → (image d ≡ cond b (image d) (Some (seen old d))) ⊎ HasGone old h d (image d)
      by_state true down = inl refl
      by_state false up = found_up d up (image d) (may d)

  module _ (after : Option Lost) (image : Slots) (lost_at : IsLostAt (slots_of base) lost h after) (may : MayLeave h image) where
    pub w : WasLost (slots_of base) lost old h after
    w = was_lost (slots_of base) lost old h after is.stays_down lost_at

    -- what is put where: nothing, but that a device after the set's slots may be gone
    abbrev Puts : ℕ → Content → Content → Type 0
    Puts d before now = (now ≡ before) ⊎ ((slots_of base ≤ d) × (now ≡ None))

    abbrev old_case : Case
    old_case = record { image = before_of old image; lost = w.before }

    abbrev new_case : Case
    new_case = record { image = image; lost = after }

    module _ (table : Table) (by : HoldsBy base devices table X old_case) where
      same_slots : slots_of table ≡ slots_of base
      same_slots = ap (λ (g : Geometry). g.members + 2) by.not_older.same_geometry

      read_after : IsCaseAfter devices table table Puts old_case new_case
      read_after = record {
        not_older = not_older_same table;
        lost_in_set = subst (λ (n : ℕ). IsLostIn n after) (sym same_slots) w.in_set;
        put = λ d. elim (found image may d) [
          | inl was ↦ inl (inl was)
          | inr gone ↦ elim (cases_lt d (slots_of base)) [
            | inl below ↦ inr (w.gone d below gone.up gone.down, gone.none)
            | inr beyond ↦ inl (inr (beyond, gone.none))
          ]
        ];
        out = w.out;
        stands = λ slot content out.
            stands_same devices table Puts (λ k c. inl refl) (slots_of base) lost old h after w slot content;
        one_counts = counts_since devices table (slots_of base) lost old h after w (before_of old image) image (λ d. elim (found image may d) [
          | inl was ↦ inl was
          | inr gone ↦ inr gone.none
        ]) by.one_counts after refl;
      }

      differs : (before now : Slots) → ((d : ℕ) → Puts d (before d) (now d)) → DiffersBeyond devices table before now
      differs before now put = record {
        of_set = λ d of_set. elim (put d) [
          | inl same ↦ same
          | inr gone ↦ absurd (omega (arith, of_set, gone.0, same_slots))
        ];
        beyond = λ d beyond. elim (put d) [
          | inl same ↦ inl same
          | inr gone ↦ inr (λ place superblock counts. none_counts spellings table.id devices d place superblock
              (subst (λ (c : Content). Counts table.id devices d c place superblock) gone.1 counts))
        ];
      }

      held_now : HoldsBy base devices table X new_case
      held_now = case_after devices base table table X X Puts old_case new_case by read_after (λ before now of_old of_new put.
          holds_in_beyond devices table X before now (differs before now put) (of_case_holds base devices table X old_case by before of_old))

    -- by the table by which it held before
    holds_read : (holds : Holds base devices old_case X) → HoldsBy base devices holds.table X new_case
    holds_read holds = held_now holds.table (by_table base devices holds.table X old_case holds.not_older.same_id holds holds.whole.chosen)

    pub held_read : (holds : Holds base devices record { image = before_of old image; lost = w.before } X) → Held base devices holds.table X image after
    held_read holds = held_of base devices holds.table X image after (holds_read holds)

  pub read_holds : HoldsNow base devices lost X old → HoldsNow base devices lost X h
  read_holds now after image lost_at may =
      let holds = now (w after image lost_at may).before (before_of old image) (w after image lost_at may).was (left_before image may) in
      holds_by_table base devices holds.table X record { image = image; lost = after } (holds_read after image lost_at may holds)
