-- What copying an entry from one journal to the other promises.
use Rattle.std.specs.Prelude.{◌≡◌, ◌⊎◌, ℕ, ◌+◌, List, [], ◌∷◌, ◌++◌, length, map, Result, Err, is_ok}
use Rattle.std.specs.List.{range_with_len}
use Rattle.sector_model.specs.declared.sector.Stop.{Stop}
use Rattle.sector_model.specs.declared.sector.Stop.TheVariants.{Down}
use Rattle.sector_model.specs.Bank.{IsCauseOf, IsLater, Panel}
use Rattle.sector_model.specs.Calls.{Call, Flush, Made, Read, Write}
use Rattle.sector_model.specs.History.{Bytes, History, sector_of, seen}
use Rattle.stripe_journal.specs.declared.seal.Seal.{Seal}
use Rattle.stripe_journal.specs.Body.{seal_place}
use Rattle.stripe_journal.specs.Entries.{body_start}
use Rattle.stripe_journal.specs.Forms.{held_before, rows_in}
use Rattle.stripe_journal.specs.Spelling.{seal_sector}

-- each of these sectors is read from the one device, and written to the same place of the other
abbrev pub copied_from : (from to at : ℕ) → List Bytes → List Call
copied_from from to at [] = []
copied_from from to at (value ∷ values) = Read from at ∷ Write to at value ∷ copied_from from to (at + 1) values

-- the body of a seal's entry, as reads of a journal give it
abbrev pub body_in : (members : ℕ) → List Bytes → Seal → List Bytes
body_in members journal seal =
    map (λ i. sector_of journal (body_start seal + i)) (range_with_len 0 (held_before members seal.form (length (rows_in seal.form))))

-- The calls of a copy: the body is copied and flushed, and only then the seal is written and flushed.
abbrev pub copy_calls : (from to : ℕ) → Seal → List Bytes → List Call
copy_calls from to seal body = copied_from from to (body_start seal) body ++ Flush to ∷ Write to (seal_place seal.number) (seal_sector seal) ∷ Flush to
    ∷ []

-- `copy_entry(bank, from, to, seal, geometry)` of a set with so many members
pub record CopiesEntry (honest : Type 0) (members from to : ℕ) (seal : Seal) (old_panel new_panel : Panel) (old new : History)
    (result : Result (Unit {0}) Stop) : Type 0 where
  pub later : IsLater old_panel new_panel
  pub made : honest → Made (copy_calls from to seal (body_in members (seen old from) seal)) (is_ok result) old new
  pub cause : (stop : Stop) → result ≡ Err stop → IsCauseOf new_panel stop
  pub named : (device : ℕ) → result ≡ Err (Down device) → (device ≡ from) ⊎ (device ≡ to)
