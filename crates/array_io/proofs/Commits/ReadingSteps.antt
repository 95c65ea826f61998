-- A device is read, on which the table counts: as steps that put nothing, or that mark its slot missing where it fails.
use Rattle.std.proofs.Common.{◌≡◌, ◌≢◌, inl, inr, ℕ, ◌≤◌, Bool, true, List, Ok, Err, Result, refl, sym, ◌∙◌, ap, subst}
use Rattle.std.specs.Prelude.{is_ok}
use Rattle.sector_model.specs.declared.sector.Stop.{Stop}
use Rattle.sector_model.specs.Bank.{IsTrueTo, Panel}
use Rattle.sector_model.specs.History.{Bytes, History, MayHold, is_down, sector_of, seen}
use Rattle.sector_model.specs.Moments.{Throughout}
use Rattle.sector_model.specs.Readable.{readable}
use Rattle.sector_model.specs.Reads.{HasRead}
use Rattle.sector_model.proofs.Reading.{seen_read}
use Rattle.sector_model.proofs.Steps.{throughout_last}
use Rattle.layout_map.specs.declared.sizes.TheConstants.{SUPERBLOCK_PLACES}
use Rattle.superblock.specs.declared.table.Table.{Table}
use Rattle.stripe_journal.specs.OneEntry.{StaysOff}
use Rattle.array_io.specs.Believed.ArrayCalls.{Answer}
use Rattle.array_io.specs.Believed.Views.{HasItsSlots, view_of}
use Rattle.array_io.specs.Steps.Bringing.{CountsOn}
use Rattle.array_io.specs.Steps.CallSteps.{CallsOne}
use Rattle.array_io.specs.Steps.Putting.{MayWrite, PutsFrom}
use Rattle.array_io.specs.Steps.PuttingSteps.{Brings, EndsOrFailsSlot}
use Rattle.array_io.specs.Steps.Writing.{IsWriting}
use Rattle.array_io.proofs.Commits.EntryCarried.{CountsOnNoMore, Nothing, counts_on_the_same, nothing_keeps, reads_write}
use Rattle.array_io.proofs.Commits.EntryCalls.{writes_on}
use Rattle.array_io.proofs.Commits.EntrySteps.{counted_is_up}
use Rattle.array_io.proofs.Commits.PuttingParts.{IsPartOf}
use Rattle.array_io.proofs.Commits.PuttingStates.{marked_beside, marked_out}
use Rattle.array_io.proofs.Commits.PuttingSteps.{part_steps}
use Rattle.array_io.proofs.Marks.FailedMarked.{failed_in_step}
use Rattle.array_io.proofs.Images.Spellings.{Spellings}
use Rattle.array_io.proofs.Writes.Writing.{writing_throughout}

-- The table counts on no more, and on each other slot on which it did; and after the superblocks of each slot on which it counts stands what stood there.
pub record IsReadOver (slot : ℕ) (old_table new_table : Table) (old new : History) : Type 0 where
  pub goes : CountsOnNoMore old_table new_table
  pub counts : (other : ℕ) → other ≢ slot → CountsOn old_table other → CountsOn new_table other
  pub same : (other at : ℕ) → CountsOn new_table other → SUPERBLOCK_PLACES ≤ at → sector_of (seen new other) at ≡ sector_of (seen old other) at

-- the set may be written on, and all is as it was
abbrev pub IsRead : (slot : ℕ) (old_table : Table) (old : History) → PutsFrom → Table → History → Type 0
IsRead slot old_table old from table h = MayWrite from table h × IsReadOver slot old_table table old h

module _ (spellings : Spellings) (slot : ℕ) (table : Table) (old mid : History) (counted : CountsOn table slot) (off : StaysOff (λ d. d ≡ slot) old mid)
    (read : HasRead old mid) where
  moments : Throughout (IsWriting table Nothing old) old mid
  moments = reads_write table Nothing old mid read (λ device not. off.others_down device (λ same. not (subst (CountsOn table) (sym same) counted)))

  held : (device at : ℕ) (value : Bytes) → MayHold mid device at value → MayHold old device at value
  held device at value may = elim ((throughout_last mid moments).holds device at value may) [
    | inl was ↦ was
    | inr put ↦ absurd put.2
  ]

  -- a part that puts nothing
  pub read_part : (answered : Bool) → (answered ≡ true → (device : ℕ) → is_down mid device ≡ is_down old device) → (from : PutsFrom) → MayWrite from table old
      → IsPartOf (IsRead slot table old) from slot table old mid answered
  read_part answered stay from writes = record {
    moments = writing_throughout spellings from.devices from.base table from.lost from.lists from.lists Nothing old mid writes
        (nothing_keeps from.devices table (readable old) from.lists) moments;
    done = λ all. (
      writes_on spellings from.devices from.base table from.lost from.lists from.lists Nothing old mid writes
          (nothing_keeps from.devices table (readable old) from.lists) (throughout_last mid moments)
          (λ device at first second up may may'. writes.nothing_pending device at first second (sym (stay all device) ∙ up) (held device at first may)
          (held device at second may'))
          (λ other on. stay all other ∙ counted_is_up spellings from.devices from.base table from.lost from.lists old writes other on),
      record {
        goes = counts_on_the_same table;
        counts = λ other apart on. on;
        same =
            λ other at on beyond. ap (λ (disk : List Bytes). sector_of disk at) (seen_read read other);
      },
    );
    failed = λ down. (failed_in_step spellings from.devices from.base table from.lost from.lists from.lists Nothing slot old mid writes
        (nothing_keeps from.devices table (readable old) from.lists) moments off
        counted down).0;
    marked = λ new_table new marked writes_then.
        let beside = marked_beside spellings from slot table new_table old mid new counted off.others_seen marked writes_then in (
          writes_then,
          record {
            goes = beside.goes;
            counts = beside.counts;
            same = λ other at on. beside.same other at
                (λ same. marked_out spellings from slot table new_table old mid new counted off.others_seen marked writes_then
                (subst (CountsOn new_table) same on)) on;
          },
        );
  }

-- Reads of one device, however they ended, and what is made of their end.
pub read_brings : Spellings → (honest : Type 0) (slot number : ℕ) (table new_table : Table) (old_panel mid_panel new_panel : Panel) (old mid new : History)
    (done : Result (Unit {0}) Stop) (answer : Answer)
    (still : Type 0) → (honest → still) → (honest → IsTrueTo old_panel old) → (honest → IsTrueTo mid_panel mid) → (honest → IsTrueTo new_panel new)
    → HasItsSlots table old_panel → CountsOn table slot
    → CallsOne honest slot old_panel mid_panel old mid done → (honest → HasRead old mid)
    → EndsOrFailsSlot still slot mid_panel new_panel table new_table mid new done answer
    → Brings honest MayWrite (IsRead slot table old) (view_of old_panel old table number) (view_of new_panel new new_table number) answer
read_brings spellings honest slot number table new_table old_panel mid_panel new_panel old mid new done answer still more true_old true_mid true_new its counted
    calls read ends =
    part_steps spellings honest MayWrite (IsRead slot table old) slot number table old_panel mid_panel old mid true_old true_mid new_panel new_table new done
    answer still more true_new its counted calls
    (λ fair from loss writes. read_part spellings slot table old mid counted (calls.off fair) (read fair) (is_ok done)
    (λ all. calls.none_failed fair (by_ok done all)) from writes) ends
  where
    by_ok : (r : Result (Unit {0}) Stop) → is_ok r ≡ true → r ≡ Ok tt
    by_ok (Ok tt) all = refl
    by_ok (Err why) all = absurd (cc)
