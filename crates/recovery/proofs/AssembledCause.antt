-- Why assembling was refused, and what counts where it was not.
use Rattle.std.proofs.Common.{◌≡◌, ◌≢◌, ◌⊎◌, inl, inr, ℕ, ◌%◌, ◌<◌, ◌≤◌, Bool, true, false, List, refl, sym, ◌∙◌, ap, subst, arith}
use Rattle.sector_model.specs.declared.calls.TheConstants.{GREATEST_COUNT}
use Rattle.sector_model.specs.History.{Bytes, History, calls_of, cut_at, disk_of, is_down, sector_of, seen}
use Rattle.sector_model.specs.Moments.{Throughout, here, then_also}
use Rattle.sector_model.specs.Readable.{readable}
use Rattle.sector_model.specs.Reads.{HasRead}
use Rattle.sector_model.proofs.Readable.{readable_down, readable_up}
use Rattle.layout_map.specs.declared.sizes.TheConstants.{SUPERBLOCK_PLACES}
use Rattle.superblock.specs.declared.table.Superblock.{Superblock}
use Rattle.superblock.specs.declared.table.Table.{Table}
use Rattle.superblock.specs.Counted.{Content, Counts, IsChosen, IsInFull}
use Rattle.superblock.specs.NextTables.{slots_of}
use Rattle.superblock.specs.Publishing.{StandsAt, place_of}
use Rattle.array_io.specs.Steps.Bringing.{IsBringing}
use Rattle.array_io.proofs.Images.Counting.{none_counts}
use Rattle.array_io.proofs.Marks.MarkingMoments.{calls_grow, cut_before, cut_whole}
use Rattle.array_io.proofs.Images.Spellings.{Spellings}
use Rattle.recovery.specs.Assembling.{IsTwoLostThen, IsWornThen}
use Rattle.recovery.specs.StaleSuperblocks.{AreSpelled}
use Rattle.recovery.specs.Making.{IsCarried}
use Rattle.recovery.proofs.AssembledReads.{IsRead, readable_read}

-- a run that went on, cut where it was, is what it was
pub cut_back : {P : History → Type 0} (mid new : History) → Throughout P mid new → cut_at (calls_of mid) new ≡ mid
cut_back mid new (here is) = cut_whole (calls_of mid) mid (omega arith)
cut_back mid new (then_also e h so_far is) = cut_before (calls_of mid) e h (calls_grow h so_far) ∙ cut_back mid h so_far

-- two slots were out at a moment of the run, or are down now
pub record AreOutSince (id : List ℕ) (devices : ℕ) (old mid new : History) (table : Table) (first second : ℕ) : Type 0 where
  pub from : calls_of old ≤ calls_of mid
  pub until : calls_of mid ≤ calls_of new
  pub cut : cut_at (calls_of mid) new ≡ mid
  pub chosen : IsChosen id devices (readable mid) table
  pub apart : first ≢ second
  pub first_of_set : first < slots_of table
  pub second_of_set : second < slots_of table
  pub first_out : (is_down new first ≡ true) ⊎ ¬ IsInFull devices table first (readable mid first)
  pub second_out : (is_down new second ≡ true) ⊎ ¬ IsInFull devices table second (readable mid second)
  pub unwritten : ¬ IsInFull devices table first (readable mid first) → ¬ IsInFull devices table second (readable mid second) → HasRead old new

pub two_lost_then : (id : List ℕ) (devices : ℕ) (old mid new : History) (table : Table) (first second : ℕ)
    → AreOutSince id devices old mid new table first second → IsTwoLostThen id devices old new
two_lost_then id devices old mid new table first second out = record {
  t = calls_of mid;
  from = out.from;
  until = out.until;
  table = table;
  chosen = subst (λ (h : History). IsChosen id devices (readable h) table) (sym out.cut) out.chosen;
  first = first;
  second = second;
  apart = out.apart;
  first_of_set = out.first_of_set;
  second_of_set = out.second_of_set;
  first_out = subst (λ (h : History). (is_down new first ≡ true) ⊎ ¬ IsInFull devices table first (readable h first)) (sym out.cut) out.first_out;
  second_out = subst (λ (h : History). (is_down new second ≡ true) ⊎ ¬ IsInFull devices table second (readable h second)) (sym out.cut) out.second_out;
  unwritten = subst (λ (h : History). ¬ IsInFull devices table first (readable h first) → ¬ IsInFull devices table second (readable h second) → HasRead old new)
      (sym out.cut) out.unwritten;
}

-- a device on which a superblock counts is up
pub counted_up : Spellings → (id : List ℕ) (devices slot place : ℕ) (superblock : Superblock) (h : History)
    → Counts id devices slot (readable h slot) place superblock
    → is_down h slot ≡ false
counted_up spellings id devices slot place superblock h counts = by_state (is_down h slot) refl
  where
    by_state : (b : Bool) → is_down h slot ≡ b → b ≡ false
    by_state true is = absurd (none_counts spellings id devices slot place superblock
        (subst (λ (c : Content). Counts id devices slot c place superblock) (readable_down h slot is) counts))
    by_state false is = refl

-- the table that was chosen after reads is carried by a superblock that counted before
pub carried_then : Spellings → (id : List ℕ) (devices : ℕ) (old mid : History) (table : Table) → IsRead old mid → IsChosen id devices (readable mid) table
    → IsCarried id devices (readable old) table
carried_then spellings id devices old mid table is chosen = record {
  slot = chosen.slot;
  place = chosen.place;
  superblock = chosen.best;
  counted = subst (λ (c : Content). Counts id devices chosen.slot c chosen.place chosen.best)
      (readable_read old mid is chosen.slot (counted_up spellings id devices chosen.slot chosen.place chosen.best mid chosen.counted)) chosen.counted;
  carries = chosen.carried;
}

-- so it is one of which none can come after
pub worn_then : Spellings → (id : List ℕ) (devices : ℕ) (old mid : History) (table : Table) → IsRead old mid → IsChosen id devices (readable mid) table
    → GREATEST_COUNT ≤ table.generation
    → IsWornThen id devices (readable old)
worn_then spellings id devices old mid table is chosen worn = record {
  table = table;
  carried = carried_then spellings id devices old mid table is chosen;
  generation = worn;
}

-- a superblock counts in what a slot has
pub record HasOne (id : List ℕ) (devices : ℕ) (h : History) : Type 0 where
  pub slot : ℕ
  pub place : ℕ
  pub superblock : Superblock
  pub counts : Counts id devices slot (readable h slot) place superblock

-- the table's own superblock, which reads of a device that is up give, counts
pub own_counts : (id : List ℕ) (devices : ℕ) (table : Table) (slot : ℕ) (sector : Bytes) (h : History) → table.id ≡ id → slots_of table ≤ devices
    → (stands : StandsAt table slot sector)
    → is_down h slot ≡ false → sector_of (seen h slot) (place_of table) ≡ sector → HasOne id devices h
own_counts id devices table slot sector h of_id room stands up is = record {
  slot = slot;
  place = place_of table;
  superblock = stands.superblock;
  counts = record {
    stands = ap (λ (c : Content). sector_of (disk_of c) (place_of table)) (readable_up h slot up) ∙ is ∙ stands.spelled;
    of_set = ap (λ (t : Table). t.id) stands.carries ∙ of_id;
    own_place = ap (λ (t : Table). t.generation % SUPERBLOCK_PLACES) stands.carries;
    own_slot = stands.own_slot;
    has_slots = omega (arith, room, ap (λ (t : Table). t.geometry.members) stands.carries);
  };
}

-- while superblocks of the chosen table are brought up, and no device fails, one counts
pub one_brought : Spellings → (id : List ℕ) (devices : ℕ) (table : Table) (sectors : ℕ → Bytes) (old h : History) → table.id ≡ id → slots_of table ≤ devices
    → IsChosen id devices (readable old) table
    → AreSpelled table sectors → IsBringing table sectors old h → ((device : ℕ) → is_down h device ≡ is_down old device) → HasOne id devices h
one_brought spellings id devices table sectors old h of_id room chosen spelled is stay = elim (is.reads chosen.slot chosen.place) [
  | inl same ↦ record {
    slot = chosen.slot;
    place = chosen.place;
    superblock = chosen.best;
    counts = record {
      stands = ap (λ (c : Content). sector_of (disk_of c) chosen.place) (readable_up h chosen.slot up)
          ∙ same
          ∙ sym (ap (λ (c : Content). sector_of (disk_of c) chosen.place) (readable_up old chosen.slot was_up))
          ∙ chosen.counted.stands;
      of_set = chosen.counted.of_set;
      own_place = chosen.counted.own_place;
      own_slot = chosen.counted.own_slot;
      has_slots = chosen.counted.has_slots;
    };
  }
  | inr own ↦ own_counts id devices table chosen.slot (sectors chosen.slot) h of_id room (spelled chosen.slot own.counted.of_set own.counted.there) up
      (subst (λ (k : ℕ). sector_of (seen h chosen.slot) k ≡ sectors chosen.slot) own.in_place own.is)
]
  where
    was_up : is_down old chosen.slot ≡ false
    was_up = counted_up spellings id devices chosen.slot chosen.place chosen.best old chosen.counted

    up : is_down h chosen.slot ≡ false
    up = stay chosen.slot ∙ was_up
