-- The step by which an entry's rows come onto one member, once the entry is the last on each journal that counts.
use Rattle.std.proofs.Common.{◌≡◌, ℕ, ◌≤◌, true, List, Option, sym, ◌∙◌, subst}
use Rattle.sector_model.specs.History.{Bytes, History, MayHold, is_down, seen, sector_of}
use Rattle.sector_model.specs.Moments.{Contents, Throughout}
use Rattle.sector_model.specs.Readable.{readable}
use Rattle.sector_model.proofs.Steps.{throughout_last}
use Rattle.superblock.specs.declared.table.Table.{Table}
use Rattle.superblock.specs.Cases.{Lost}
use Rattle.superblock.specs.Counted.{Content}
use Rattle.stripe_journal.specs.declared.seal.Seal.{Seal}
use Rattle.stripe_journal.specs.LastEntry.{IsGreatest}
use Rattle.stripe_journal.specs.OneEntry.{StaysOff}
use Rattle.array_io.specs.Steps.Bringing.{CountsOn}
use Rattle.array_io.specs.Believed.Moments.{HoldsThroughout}
use Rattle.array_io.specs.Steps.Writing.{HasFailedOnce, IsWriting, WritesFrom}
use Rattle.array_io.proofs.Writes.Written.{KeepsRows}
use Rattle.array_io.proofs.Commits.EntryCalls.{none_pending_off, writes_on}
use Rattle.array_io.proofs.Commits.EntryPhases.{IsRowSector, rows_keep}
use Rattle.array_io.proofs.Commits.EntrySteps.{HasIt, IsStepOf, counted_is_up, read_is_seen}
use Rattle.array_io.proofs.Marks.FailedMarked.{failed_in_step}
use Rattle.array_io.proofs.Images.Spellings.{Spellings}
use Rattle.array_io.proofs.Writes.Writing.{writing_throughout}
use Rattle.array_io.proofs.Writes.WritingImages.{written_alive}

module _ (spellings : Spellings) (devices : ℕ) (base table : Table) (lost : Option Lost) (X : List (List Bytes)) (member : ℕ) (seal : Seal) (body : List Bytes)
    (puts : Contents)
    (old new : History) (from : WritesFrom devices base table lost X old)
    (only : (device at : ℕ) (value : Bytes) → puts device at value → IsRowSector table.geometry.members seal device at)
    (says : (journal : ℕ) → table.geometry.members ≤ journal → CountsOn table journal → HasIt table old journal seal body) where
  last_there : (journal : ℕ) → table.geometry.members ≤ journal → CountsOn table journal → IsGreatest table.id table.geometry (readable old journal) seal
  last_there journal beyond counted = subst (λ (c : Content). IsGreatest table.id table.geometry c seal)
      (sym (read_is_seen spellings devices base table lost X old from journal counted)) (says journal beyond counted).last

  rows_kept : KeepsRows devices table puts (readable old) X X
  rows_kept whole before image written = rows_keep devices table puts (readable old) X whole before image written
      (written_alive devices table puts before image written.put) seal only last_there

  -- Where the member's device failed meanwhile, only that did.
  pub member_failed : Throughout (IsWriting table puts old) old new → StaysOff (λ d. d ≡ member) old new → CountsOn table member → is_down new member ≡ true
      → HasFailedOnce devices base table lost X member new
  member_failed moments off counted failed = (failed_in_step spellings devices base table lost X X puts member old new from rows_kept moments off counted
      failed).0

  -- The rows come onto the member: every case keeps holding, and once it is flushed the set may be written on.
  pub member_step : Throughout (IsWriting table puts old) old new → StaysOff (λ d. d ≡ member) old new
      → HoldsThroughout base devices lost X old new
      × (((at : ℕ) (value : Bytes) → MayHold new member at value → value ≡ sector_of (seen new member) at) → ((d : ℕ) → is_down new d ≡ is_down old d)
      → IsStepOf devices base table lost X member old new)
  member_step moments off = (
    writing_throughout spellings devices base table lost X X puts old new from rows_kept moments,
    λ flushed down. record {
      from = writes_on spellings devices base table lost X X puts old new from rows_kept (throughout_last new moments)
          (none_pending_off member old new from.nothing_pending off flushed)
          (λ slot counted. down slot ∙ counted_is_up spellings devices base table lost X old from slot counted);
      others = λ other apart. off.others_seen other apart;
      down = down;
    },
  )
