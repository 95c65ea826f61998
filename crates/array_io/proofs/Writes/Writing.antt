-- While a set is written after its superblocks, every case keeps holding, and the table stays chosen.
use Rattle.std.proofs.Common.{◌≡◌, inl, inr, ℕ, true, false, List, length, Option, refl, sym, ◌∙◌, ap}
use Rattle.sector_model.specs.History.{Bytes, History, Slots, disk_of, is_down, sector_of, seen}
use Rattle.sector_model.specs.MemoryLaw.{length-seen}
use Rattle.sector_model.specs.Moments.{Contents, Throughout}
use Rattle.sector_model.specs.Readable.{NothingPending, readable}
use Rattle.sector_model.proofs.Steps.{throughout_more, up_seen}
use Rattle.superblock.specs.declared.table.Table.{Table}
use Rattle.superblock.specs.Cases.{Lost}
use Rattle.superblock.specs.Counted.{Content, IsChosen, IsLive}
use Rattle.superblock.specs.Losses.{InEachImage, IsLostAt}
use Rattle.superblock.specs.NextTables.{slots_of}
use Rattle.array_io.specs.Steps.Bringing.{CountsOn}
use Rattle.array_io.specs.Believed.Moments.{HoldsNow, HoldsThroughout}
use Rattle.array_io.specs.Believed.Settled.{IsAllThere}
use Rattle.array_io.specs.Steps.Writing.{IsWriting, WritesFrom}
use Rattle.array_io.proofs.Writes.Written.{IsWritten, KeepsRows}
use Rattle.array_io.proofs.Writes.PutSince.{IsPutting, PutKeeps, counted_up, put_chosen, put_holds, put_read}
use Rattle.array_io.proofs.Images.Spellings.{Spellings}
use Rattle.array_io.proofs.Writes.WritingImages.{holds_written, live_front, written_front, written_same}

differ : true ≡ false → ⊥
differ is = cc

-- as a moment at which something may have been put
writes : (table : Table) (puts : Contents) (old h : History) → NothingPending old → IsWriting table puts old h
    → IsPutting table (IsWritten puts) old h
writes table puts old h pending is = record {
  back = λ d at value may. elim (is.holds d at value may) [
    | inl was ↦ inl was
    | inr put ↦ inr put.0
  ];
  start = is.start;
  stays_down = is.stays_down;
  others_stay = is.others_stay;
  same = written_same puts;
  put = λ d disk up may. record {
    long = may.1 ∙ ap (λ (c : Content). length (disk_of c)) (is.start d) ∙ sym (length-seen old d);
    each = λ at. elim (is.holds d at (sector_of disk at) (may.2 at)) [
      | inl was ↦ inl (pending d at (sector_of disk at) (sector_of (seen old d) at) up was (up_seen old d at up))
      | inr put ↦ inr (put.1, put.2)
    ];
  };
}

-- an image that was written holds for X' where its rows are as they have to be
keeps_written : (devices : ℕ) (table : Table) (puts : Contents) (reads : Slots) (X X' : List (List Bytes))
    → KeepsRows devices table puts reads X X' → PutKeeps devices table (IsWritten puts) reads X X'
keeps_written devices table puts reads X X' keeps whole before image put =
    holds_written devices table puts reads X X' whole before image (keeps whole before image put) put

-- what reads give of a device that is up is written
pub writing_read : Spellings → (devices : ℕ) (table : Table) (puts : Contents) (old h : History) → NothingPending old → IsAllThere devices table old
    → IsWriting table puts old h
    → (slot : ℕ) → CountsOn table slot → is_down h slot ≡ false → IsWritten puts slot (readable old slot) (readable h slot)
writing_read spellings devices table puts old h pending there is slot counted up =
    put_read table (IsWritten puts) old h (writes table puts old h pending is) slot
    (counted_up spellings devices table old there slot counted) up

-- and it is live
pub writing_live : Spellings → (devices : ℕ) (table : Table) (puts : Contents) (old h : History) → NothingPending old → IsAllThere devices table old
    → IsWriting table puts old h
    → (slot : ℕ) → CountsOn table slot → is_down h slot ≡ false → IsLive devices table slot (readable h slot)
writing_live spellings devices table puts old h pending there is slot counted up =
    live_front devices table slot (readable old slot) (readable h slot)
    (written_front puts slot (readable old slot) (readable h slot) (writing_read spellings devices table puts old h pending there is slot counted up))
    (there slot counted.of_set counted.there)

-- where no such device is down, all is there
pub writing_there : Spellings → (devices : ℕ) (table : Table) (puts : Contents) (old h : History) → NothingPending old → IsAllThere devices table old
    → IsWriting table puts old h
    → ((slot : ℕ) → CountsOn table slot → is_down h slot ≡ false) → IsAllThere devices table h
writing_there spellings devices table puts old h pending there is up slot of_set not_missing =
    let counted : CountsOn table slot = record { of_set = of_set; there = not_missing } in
    writing_live spellings devices table puts old h pending there is slot counted (up slot counted)

-- at each moment while the set is written every case holds
pub writing_holds : Spellings → (devices : ℕ) (base table : Table) (lost : Option Lost) (X X' : List (List Bytes)) (puts : Contents) (old h : History)
    → WritesFrom devices base table lost X old → KeepsRows devices table puts (readable old) X X' → IsWriting table puts old h → HoldsNow base devices lost X' h
writing_holds spellings devices base table lost X X' puts old h from keeps is =
    put_holds spellings devices base table lost X X' (IsWritten puts) old h from
    (keeps_written devices table puts (readable old) X X' keeps) (writes table puts old h from.nothing_pending is)

-- and each image chooses the table
pub writing_chosen : Spellings → (devices : ℕ) (base table : Table) (lost : Option Lost) (X X' : List (List Bytes)) (puts : Contents) (old h : History)
    → WritesFrom devices base table lost X old → KeepsRows devices table puts (readable old) X X' → IsWriting table puts old h
    → (after : Option Lost) → IsLostAt (slots_of base) lost h after → InEachImage devices table h after (λ image. IsChosen table.id devices image table)
writing_chosen spellings devices base table lost X X' puts old h from keeps is =
    put_chosen spellings devices base table lost X X' (IsWritten puts) old h from
    (keeps_written devices table puts (readable old) X X' keeps) (writes table puts old h from.nothing_pending is)

-- throughout
pub writing_throughout : Spellings → (devices : ℕ) (base table : Table) (lost : Option Lost) (X X' : List (List Bytes)) (puts : Contents) (old new : History)
    → WritesFrom devices base table lost X old → KeepsRows devices table puts (readable old) X X' → Throughout (IsWriting table puts old) old new
    → HoldsThroughout base devices lost X' old new
writing_throughout spellings devices base table lost X X' puts old new from keeps moments =
    throughout_more (λ h is. writing_holds spellings devices base table lost X X' puts old h from keeps is) new moments

-- how writing goes on

-- nothing was written yet
pub writing_none : (table : Table) (puts : Contents) (old : History) → IsWriting table puts old old
writing_none table puts old = record {
  holds = λ device at value may. inl may;
  start = λ device. refl;
  stays_down = λ device down. down;
  others_stay = λ device not. refl;
}

-- one stretch of writing after another
pub writing_on : (table : Table) (puts : Contents) (old mid new : History) → IsWriting table puts old mid → IsWriting table puts mid new
    → IsWriting table puts old new
writing_on table puts old mid new first second = record {
  holds = λ device at value may. elim (second.holds device at value may) [
    | inl was ↦ first.holds device at value was
    | inr put ↦ inr put
  ];
  start = λ device. second.start device ∙ first.start device;
  stays_down = λ device down. second.stays_down device (first.stays_down device down);
  others_stay = λ device not. second.others_stay device not ∙ first.others_stay device not;
}
