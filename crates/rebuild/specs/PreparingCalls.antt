-- The device calls that prepare a device for a missing slot, part by part.
use Rattle.std.specs.Prelude.{◌≡◌, ◌⊎◌, ℕ, ◌+◌, false, List, [], ◌∷◌, ◌++◌, Option, Some, None, Result, Ok, Err, is_ok}
use Rattle.std.specs.Prelude.{replicate}
use Rattle.sector_model.specs.declared.sector.Stop.{Stop}
use Rattle.sector_model.specs.declared.sector.Stop.TheVariants as stop
use Rattle.sector_model.specs.Bank.{IsCauseOf, IsLater, Panel}
use Rattle.sector_model.specs.Calls.{Call, Flush, Made, Read, writes_from}
use Rattle.sector_model.specs.History.{Bytes, History, seen}
use Rattle.layout_map.specs.declared.sizes.TheConstants.{FIRST_SEAL, HALVES}
use Rattle.superblock.specs.declared.table.Table.{Table}
use Rattle.stripe_journal.specs.declared.seal.Seal.{Seal}
use Rattle.stripe_journal.specs.Copying.{body_in, copy_calls}
use Rattle.stripe_journal.specs.LastEntry.{IsLastSealed}
use Rattle.rebuild.specs.Preparing.{IsJournalBeside}

-- so many sectors of zeros
abbrev pub zeros : ℕ → List Bytes
zeros count = replicate count (replicate 512 0)

-- the first so many sectors of a device are made zero, and it is flushed
abbrev pub clear_calls : (slot end : ℕ) → List Call
clear_calls slot end = writes_from slot 0 (zeros end) ++ Flush slot ∷ []

-- a copy of the entry of a journal's last seal, if there is one
abbrev pub copy_of : (source journal members : ℕ) → List Bytes → Option Seal → List Call
copy_of source journal members disk None = []
copy_of source journal members disk (Some seal) = copy_calls source journal seal (body_in members disk seal)

-- a journal is prepared: the other's last seal is read, the places of superblocks and seals are cleared, and the entry
-- is copied
abbrev pub journal_calls : (source journal members : ℕ) → List Bytes → Option Seal → List Call
journal_calls source journal members disk last =
    (Read source FIRST_SEAL ∷ Read source (FIRST_SEAL + 1) ∷ clear_calls journal (FIRST_SEAL + HALVES)) ++ copy_of source journal members disk last

-- These calls, by what reads of the other journal give; at Ok its last seal is known.
pub record CopiesTheLast (table : Table) (source journal : ℕ) (old new : History)
    (result : Result (Unit {0}) Stop) : Type 0 where
  pub last : Option Seal
  pub made : Made (journal_calls source journal table.geometry.members (seen old source) last) (is_ok result) old new
  pub is_last : result ≡ Ok tt → IsLastSealed table.id table.geometry (Some (seen old source)) last

-- a journal's device is prepared, with the last entry of the other journal, if there is one
pub record PreparesJournal (honest : Type 0) (table : Table) (journal : ℕ) (old_panel new_panel : Panel)
    (old new : History) (result : Result (Unit {0}) Stop) : Type 0 where
  pub later : IsLater old_panel new_panel
  pub source : ℕ
  pub beside : IsJournalBeside table journal source
  pub copies : honest → CopiesTheLast table source journal old new result
  pub cause : (end : Stop) → result ≡ Err end → IsCauseOf new_panel end
  pub named : (device : ℕ) → result ≡ Err (stop.Down device) → (device ≡ journal) ⊎ (device ≡ source)
  pub up : result ≡ Ok tt → new_panel.down journal ≡ false
