-- While the superblocks of the chosen table are brought up, every case keeps holding, and the table stays chosen.
use Rattle.std.proofs.Common.{◌≡◌, ◌≢◌, inl, inr, ℕ, ◌<◌, Bool, true, false, List, length, Option, Some, refl, sym, ◌∙◌, ap, subst}
use Rattle.sector_model.specs.History.{Bytes, History, MayHold, MayLeave, SlotMayHold, Slots, disk_of, is_down, sector_of, seen}
use Rattle.sector_model.specs.MemoryLaw.{length-seen}
use Rattle.sector_model.specs.Moments.{Throughout}
use Rattle.sector_model.specs.Readable.{NothingPending, readable}
use Rattle.sector_model.proofs.Readable.{readable_down, readable_up}
use Rattle.sector_model.proofs.Steps.{throughout_more, up_seen}
use Rattle.superblock.specs.declared.state.State.TheVariants.{Missing}
use Rattle.superblock.specs.declared.table.Table.{Table}
use Rattle.superblock.specs.Cases.{Lost}
use Rattle.superblock.specs.Counted.{Content, IsChosen, IsLive}
use Rattle.superblock.specs.Losses.{InEachImage, IsLostAt}
use Rattle.superblock.specs.NextTables.{slots_of}
use Rattle.superblock.specs.Publishing.{StandsAt, place_of}
use Rattle.superblock.specs.Tables.{state_at}
use Rattle.array_io.specs.Steps.Bringing.{IsBringing}
use Rattle.array_io.specs.Believed.Moments.{HoldsNow, HoldsThroughout}
use Rattle.array_io.specs.Believed.Settled.{IsAllThere}
use Rattle.array_io.specs.Steps.Writing.{WritesFrom}
use Rattle.array_io.proofs.Writes.BringingUpImages.{AreBrought, IsBrought, brought_same, holds_brought}
use Rattle.array_io.proofs.Images.LossBefore.{HoldsBy}
use Rattle.array_io.proofs.Writes.PutSince.{IsPutting, PutKeeps, put_chosen, put_holds, put_holds_at, put_read}
use Rattle.array_io.proofs.Images.Spellings.{Spellings}

-- The superblocks of a table may be brought up: nothing is pending, and what the table doesn't call missing is there.
pub record IsReady (devices : ℕ) (table : Table) (sectors : ℕ → Bytes) (old : History) : Type 0 where
  pub nothing_pending : NothingPending old
  pub there : IsAllThere devices table old
  pub spelled : (slot : ℕ) → slot < slots_of table → state_at table.states slot ≢ Missing → StandsAt table slot (sectors slot)

-- From where they are: all cases that a crash may leave hold for X, and their images choose the table.
pub record BringsFrom (devices : ℕ) (base table : Table) (lost : Option Lost) (X : List (List Bytes)) (sectors : ℕ → Bytes) (old : History) : Type 0 where
  pub ready : IsReady devices table sectors old
  pub same_id : table.id ≡ base.id
  pub holds : HoldsNow base devices lost X old
  pub chosen : (after : Option Lost) → IsLostAt (slots_of base) lost old after
      → InEachImage devices table old after (λ image. IsChosen table.id devices image table)

differ : true ≡ false → ⊥
differ is = cc

-- as a moment at which something may have been put
brings : (devices : ℕ) (table : Table) (sectors : ℕ → Bytes) (old h : History) → IsReady devices table sectors old
    → IsBringing table sectors old h → IsPutting table (IsBrought devices table sectors) old h
brings devices table sectors old h ready is = record {
  back = λ d at value may. elim (is.holds d at value may) [
    | inl was ↦ inl was
    | inr own ↦ inr own.counted
  ];
  start = is.start;
  stays_down = is.stays_down;
  others_stay = is.others_stay;
  same = brought_same devices table sectors;
  put = brought_up;
}
  where
    stayed : (d at : ℕ) (disk : List Bytes) → is_down old d ≡ false → MayHold old d at (sector_of disk at)
        → sector_of disk at ≡ sector_of (seen old d) at
    stayed d at disk up was =
        ready.nothing_pending d at (sector_of disk at) (sector_of (seen old d) at) up was (up_seen old d at up)

    brought_up : (d : ℕ) (disk : List Bytes) → is_down old d ≡ false → SlotMayHold h d (Some disk)
        → IsBrought devices table sectors d (Some (seen old d)) (Some disk)
    brought_up d disk up may = record {
      long = may.1 ∙ ap (λ (c : Content). length (disk_of c)) (is.start d) ∙ sym (length-seen old d);
      others = λ at apart. elim (is.holds d at (sector_of disk at) (may.2 at)) [
        | inl was ↦ stayed d at disk up was
        | inr own ↦ absurd (apart own.in_place)
      ];
      place = elim (is.holds d (place_of table) (sector_of disk (place_of table)) (may.2 (place_of table))) [
        | inl was ↦ inl (stayed d (place_of table) disk up was)
        | inr own ↦ inr record {
          stands = ready.spelled d own.counted.of_set own.counted.there;
          was_live = subst (IsLive devices table d) (readable_up old d up)
              (ready.there d own.counted.of_set own.counted.there);
          is = own.is;
        }
      ];
    }

-- from where it begins
brings_from : (devices : ℕ) (base table : Table) (lost : Option Lost) (X : List (List Bytes)) (sectors : ℕ → Bytes)
    (old : History) → BringsFrom devices base table lost X sectors old → WritesFrom devices base table lost X old
brings_from devices base table lost X sectors old from = record {
  nothing_pending = from.ready.nothing_pending;
  there = from.ready.there;
  same_id = from.same_id;
  holds = from.holds;
  chosen = from.chosen;
}

-- an image whose superblocks were brought up holds as the one before did
keeps_brought : Spellings → (devices : ℕ) (table : Table) (sectors : ℕ → Bytes) (reads : Slots) (X : List (List Bytes))
    → PutKeeps devices table (IsBrought devices table sectors) reads X X
keeps_brought spellings devices table sectors reads X whole before image put =
    holds_brought spellings devices table sectors X before image put.holds put.put

-- each case now
pub holds_at : Spellings → (devices : ℕ) (base table : Table) (lost : Option Lost) (X : List (List Bytes)) (sectors : ℕ → Bytes) (old h : History)
    → BringsFrom devices base table lost X sectors old → IsBringing table sectors old h → (after : Option Lost) (image : Slots)
    → IsLostAt (slots_of base) lost h after → MayLeave h image
    → HoldsBy base devices table X (record { image = image; lost = after })
holds_at spellings devices base table lost X sectors old h from is after image lost_at may =
    put_holds_at spellings devices base table lost X X (IsBrought devices table sectors) old h
    (brings_from devices base table lost X sectors old from)
    (keeps_brought spellings devices table sectors (readable old) X) (brings devices table sectors old h from.ready is) after image lost_at may

-- at each moment while superblocks are brought up every case holds
pub bringing_holds : Spellings → (devices : ℕ) (base table : Table) (lost : Option Lost) (X : List (List Bytes)) (sectors : ℕ → Bytes) (old h : History)
    → BringsFrom devices base table lost X sectors old → IsBringing table sectors old h → HoldsNow base devices lost X h
bringing_holds spellings devices base table lost X sectors old h from is =
    put_holds spellings devices base table lost X X (IsBrought devices table sectors) old h
    (brings_from devices base table lost X sectors old from)
    (keeps_brought spellings devices table sectors (readable old) X) (brings devices table sectors old h from.ready is)

-- and each image chooses the table
pub bringing_chosen : Spellings → (devices : ℕ) (base table : Table) (lost : Option Lost) (X : List (List Bytes)) (sectors : ℕ → Bytes) (old h : History)
    → BringsFrom devices base table lost X sectors old → IsBringing table sectors old h → (after : Option Lost) → IsLostAt (slots_of base) lost h after
    → InEachImage devices table h after (λ image. IsChosen table.id devices image table)
bringing_chosen spellings devices base table lost X sectors old h from is =
    put_chosen spellings devices base table lost X X (IsBrought devices table sectors) old h
    (brings_from devices base table lost X sectors old from)
    (keeps_brought spellings devices table sectors (readable old) X) (brings devices table sectors old h from.ready is)

-- throughout
pub bringing_throughout : Spellings → (devices : ℕ) (base table : Table) (lost : Option Lost) (X : List (List Bytes)) (sectors : ℕ → Bytes) (old new : History)
    → BringsFrom devices base table lost X sectors old → Throughout (IsBringing table sectors old) old new → HoldsThroughout base devices lost X old new
bringing_throughout spellings devices base table lost X sectors old new from moments =
    throughout_more (λ h is. bringing_holds spellings devices base table lost X sectors old h from is) new moments

-- Where no device failed meanwhile

-- what reads give is what they gave, but for these
pub readable_brought : Spellings → (devices : ℕ) (table : Table) (sectors : ℕ → Bytes) (old h : History) → IsReady devices table sectors old
    → IsBringing table sectors old h
    → ((d : ℕ) → is_down h d ≡ is_down old d) → AreBrought devices table sectors (readable old) (readable h)
readable_brought spellings devices table sectors old h ready is stay d = by_state (is_down h d) refl
  where
    by_state : (b : Bool) → is_down h d ≡ b → IsBrought devices table sectors d (readable old d) (readable h d)
    by_state true down = subst (λ (c : Content). IsBrought devices table sectors d c (readable h d))
        (readable_down h d down ∙ sym (readable_down old d (sym (stay d) ∙ down)))
        (brought_same devices table sectors d (readable h d))
    by_state false up = put_read table (IsBrought devices table sectors) old h
        (brings devices table sectors old h ready is) d (sym (stay d) ∙ up) up
