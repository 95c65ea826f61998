-- A run of which each image that a crash may leave is that of a set that was just made is settled on zeros.
use Rattle.std.proofs.Common.{◌≡◌, ℕ, None, replicate, refl}
use Rattle.sector_model.specs.History.{History, MayLeave, Slots}
use Rattle.sector_model.specs.Readable.{NothingPending, readable}
use Rattle.sector_model.proofs.Readable.{readable_left}
use Rattle.parity.specs.Xor.{zero_sector}
use Rattle.parity.proofs.Laws.{zero_sector-replicate}
use Rattle.superblock.specs.declared.table.Table.{Table}
use Rattle.superblock.specs.Cases.{MayStand, with_slot}
use Rattle.superblock.specs.Counted.{Content, IsChosen}
use Rattle.superblock.specs.Losses.{InEachImage}
use Rattle.array_io.specs.Believed.Fresh.{IsFresh, zeros_of}
use Rattle.array_io.specs.Believed.Settled.{HaveNumber, IsSettled, rows_by}
use Rattle.array_io.proofs.Images.Choice.{chosen_with}
use Rattle.array_io.proofs.Images.Codecs.{spellings}
use Rattle.array_io.proofs.Laws.Fresh.{fresh_chosen, fresh_chosen_without, fresh_live, fresh_set_holds, no_last_seal, zeros_listed, zeros_sound}
use Rattle.array_io.proofs.Laws.FromCore.{holds_from_core}
use Rattle.array_io.proofs.Laws.SettledBegins.{no_number, none_lost, number_with, own_rows, stands_for_nothing}

-- 512 bytes of zero are a sector of zeros
pub zeros_are : replicate 512 0 ≡ zero_sector
zeros_are = zero_sector-replicate 512 refl

-- each image that a crash now may leave is that of a set that was just made, and nothing is pending
pub record IsFreshNow (devices : ℕ) (table : Table) (h : History) : Type 0 where
  pub nothing_pending : NothingPending h
  pub each : (image : Slots) → MayLeave h image → IsFresh devices table image

-- what is said of each such image, and of each without one device
each_fresh : (devices : ℕ) (table : Table) (h : History) (P : Slots → Type 0) → ((image : Slots) → MayLeave h image → P image)
    → ((image : Slots) → MayLeave h image → (slot : ℕ) (content : Content) → MayStand devices table None slot content → P (with_slot image slot content))
    → InEachImage devices table h None P
each_fresh devices table h P whole weakened = record {
  whole = whole;
  weakened = λ image slot content may out stands. weakened image may slot content stands;
}

pub settled_fresh : (devices : ℕ) (table : Table) (h : History) → IsFreshNow devices table h → IsSettled devices table 0 h None (zeros_of table.geometry)
settled_fresh devices table h now =
    let read = now.each (readable h) (readable_left h) in
    record {
      nothing_pending = now.nothing_pending;
      holds = λ image may. fresh_set_holds spellings (holds_from_core spellings) devices table image (now.each image may);
      there = λ slot of_set not_missing. fresh_live spellings devices table (readable h) read slot of_set;
      listed = zeros_listed table (readable h) (rows_by table (readable h)) (own_rows devices table (readable h) read);
      sound = zeros_sound table (readable h) (rows_by table (readable h)) (own_rows devices table (readable h) read);
      chosen = each_fresh devices table h (λ i. IsChosen table.id devices i table)
          (λ image may. fresh_chosen spellings devices table image (now.each image may))
          (λ image may slot content stands. chosen_with spellings devices table image slot content
          (fresh_chosen_without spellings devices table image (now.each image may) slot)
          (stands_for_nothing spellings devices table slot content stands).known);
      numbered = each_fresh devices table h (HaveNumber devices table 0)
          (λ image may journal last live is. no_number last (no_last_seal spellings devices table image (now.each image may) journal last live is))
          (λ image may slot content stands. number_with spellings devices table image (now.each image may) slot content
          (stands_for_nothing spellings devices table slot content stands).out);
      none_back = tt;
      lost_slot = none_lost devices table (readable h) read;
    }
