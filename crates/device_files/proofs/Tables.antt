-- Tables that are found on a bank over files.
use Rattle.std.proofs.Common.{◌≢◌, ℕ, Err, List, Ok, Option}
use Rattle.std.specs.Prelude.{IfErr, IfOk, Result}
use Rattle.sector_model.specs.declared.refusal.Refusal.{Refusal}
use Rattle.sector_model.specs.declared.refusal.Refusal.TheVariants.{Memory}
use Rattle.sector_model.specs.History.{History}
use Rattle.superblock.specs.declared.table.Table.{Table}
use Rattle.recovery.specs.Making.{BankView, FindsTable}
use Rattle.device_files.specs.DeviceFiles.{IsNoTableIn, IsTableIn}

module _ (honest : Type 0) (Begins : History → Type 0) (id : List ℕ) (old new : BankView) (begins : Begins old.history) where
  -- the table that was found on a bank that began so
  pub table_in : (answer : Result (Option Table) Refusal) → FindsTable honest id old new answer → IfOk answer (IsTableIn honest Begins id)
  table_in (Ok table) found = (old, new, begins, found)
  table_in (Err refusal) found = tt

  -- or what was sought was refused
  pub no_table_in : (answer : Result (Option Table) Refusal) → FindsTable honest id old new answer
      → IfErr answer (λ refusal. refusal ≢ Memory → IsNoTableIn honest Begins id refusal)
  no_table_in (Ok table) found = tt
  no_table_in (Err refusal) found = λ _. (old, new, begins, found)
