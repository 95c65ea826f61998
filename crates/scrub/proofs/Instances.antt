-- Small cases that meet what a scrub promises.
use Rattle.std.proofs.Common.{◌≡◌, inl, inr, ℕ, zero, suc, ◌<◌, List, [], Option, None, Ok, Err, refl, sym, subst, arith}
use Rattle.std.specs.Prelude.{Contains}
use Rattle.std.proofs.lemmas.Result.{IfOk-at_ok}
use Rattle.sector_model.specs.declared.event.Event.TheVariants.{Quiet, Wrote, Lost, Flushed, DeviceFailed}
use Rattle.sector_model.specs.declared.refusal.Refusal.TheVariants.{Incomplete}
use Rattle.sector_model.specs.Bank.{Panel}
use Rattle.sector_model.specs.History.{After, Began, Bytes, History, Slots}
use Rattle.sector_model.specs.Readable.{readable}
use Rattle.sector_model.specs.Reads.{OnlyRead}
use Rattle.parity.specs.Xor.{IsSoundRow}
use Rattle.superblock.specs.declared.table.Table.{Table}
use Rattle.superblock.specs.Cases.{Lost as LostSlot}
use Rattle.superblock.specs.NextTables.{IsComplete, IsOut}
use Rattle.array_io.specs.Believed.Fresh.{IsFresh, zeros_of}
use Rattle.array_io.specs.Believed.Holds.{row_count}
use Rattle.array_io.specs.Believed.Views.{ArrayView, RestsOn}
use Rattle.array_io.proofs.Instances.{after_reads, fresh_array, fresh_rests, goes_on_in_reads, keeps_in_reads, own_rows_are_sound, stays_in_reads, with_reads}
use Rattle.scrub.proofs.Scrubbed.{not_complete_is_refused}
use Rattle.scrub.specs.Scrubbing.{AreUnsound, IsReport, Report, Scrubs, row_in}

-- a run that didn't go on has only read
only_read_itself : (h : History) → OnlyRead h h
only_read_itself (Began start) = refl
only_read_itself (After Quiet h) = inl refl
only_read_itself (After (Wrote device at value) h) = refl
only_read_itself (After (Lost device at value) h) = refl
only_read_itself (After (Flushed device) h) = refl
only_read_itself (After (DeviceFailed device) h) = inl refl

only_read_after : (n : ℕ) (h : History) → OnlyRead h (after_reads n h)
only_read_after zero h = only_read_itself h
only_read_after (suc n) h = inr (only_read_after n h)

no_row : (row : ℕ) → Contains [] row → ⊥
no_row row (k, below, is) = omega (arith, below)

-- where all rows are sound, none is unsound
none_unsound : (table : Table) (image : Slots) → ((row : ℕ) → row < row_count table → IsSoundRow
    (row_in table image row)) → AreUnsound table image []
none_unsound table image sound = record {
  rising = λ k below. omega (arith, below);
  unsound = λ row among. absurd (no_row row among);
  all = λ row below. inr (sound row below);
}

-- the report that all rows are sound
abbrev pub all_sound : Table → Report
all_sound table = record { rows = row_count table; bad = 0; first_bad = None }

reports_all_sound : (honest : Type 0) (table : Table) (image : Slots)
    → ((row : ℕ) → row < row_count table → IsSoundRow (row_in table image row)) → IsReport honest table image
    (all_sound table)
reports_all_sound honest table image sound = record {
  rows = [];
  rising = λ k below. omega (arith, below);
  of_set = λ row among. absurd (no_row row among);
  tells = record { rows = refl; bad = refl; first_bad = refl };
  are = λ fair. none_unsound table image sound;
}

readable_after : (n : ℕ) (h : History) → readable (after_reads n h) ≡ readable h
readable_after zero h = refl
readable_after (suc n) h = readable_after n h

-- of a complete set that is settled a scrub by so many reads that were answered tells that all rows are sound
pub scrub_of_settled : (honest : Type 0) (n : ℕ) (array : ArrayView) (lost : Option LostSlot) (V : List Bytes)
    → IsComplete array.table → RestsOn array lost V
    → Scrubs honest array (with_reads n array) (Ok (all_sound array.table))
scrub_of_settled honest n array lost V complete rests = record {
  goes_on = goes_on_in_reads n array;
  number = refl;
  stays = stays_in_reads _ n array _;
  incomplete = λ lacking. absurd (lacking complete);
  complete = λ told answered. complete;
  told = λ told answered. IfOk-at_ok (λ (r : Report). IsReport honest array.table
      (readable (after_reads n array.history)) r) answered
      (subst (λ (i : Slots). IsReport honest array.table i (all_sound array.table))
      (sym (readable_after n array.history))
      (reports_all_sound honest array.table (readable array.history) (own_rows_are_sound array lost V complete rests)));
  reads = λ true_bank same. record { only = only_read_after n array.history };
  keeps = keeps_in_reads honest n array _;
  cause = λ refusal refused. absurd (cc);
}

-- also of a set that was just made
pub scrub_of_fresh : (honest : Type 0) (n : ℕ) (panel : Panel) (table : Table) (image : Slots) → IsFresh panel.devices
    table image
    → Scrubs honest (fresh_array panel table image) (with_reads n (fresh_array panel table image))
    (Ok (all_sound table))
scrub_of_fresh honest n panel table image fresh =
    scrub_of_settled honest n (fresh_array panel table image) None (zeros_of table.geometry) record
    { in_sync = fresh.in_sync } (fresh_rests panel table image fresh)

-- a set that lacks a slot is not scrubbed
pub incomplete_is_refused : (honest : Type 0) (array : ArrayView) (slot : ℕ) → IsOut array.table slot → Scrubs honest
    array array (Err Incomplete)
incomplete_is_refused honest array slot lacks = not_complete_is_refused honest (IsReport honest) array
    (λ complete. lacks.out (complete.in_sync slot lacks.of_set))
