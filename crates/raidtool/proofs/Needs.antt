-- What the file of a slot needs, by the table that was found.
use Rattle.std.proofs.Common.{◌≡◌, ◌≢◌, ◌<◌, ◌≤◌, inl, inr, refl, ℕ, List, Option, Some, None, Ok, Err, arith}
use Rattle.std.specs.Prelude.{IfErr, IfOk, IfSome, Result}
use Rattle.sector_model.specs.declared.refusal.Refusal.{Refusal}
use Rattle.superblock.specs.declared.table.Table.{Table}
use Rattle.superblock.specs.NextTables.{slots_of}
use Rattle.recovery.specs.Making.{BankView, FindsTable}
use Rattle.sector_model.specs.declared.refusal.Refusal.TheVariants.{Memory}
use Rattle.sector_model.specs.History.{History}
use Rattle.device_files.specs.DeviceFiles.{IsNoTableIn}
use Rattle.raidtool.specs.Done.{IsNeedIn}
use Rattle.raidtool.specs.Needs.{FindsNeed, IsNeed, NeedsByTable}
use Rattle.raidtool.specs.Stops.{IsPreparingRefusal}

module _ (honest : Type 0) (id : List ℕ) (slot : ℕ) (old new : BankView) where
  pub need_found : (table : Table) (need : Option ℕ) → FindsTable honest id old new (Ok (Some table)) → IsNeed table new.panel slot need
      → FindsNeed honest id slot old new (Ok need)
  need_found table (Some bytes) found is = record { table = table; found = found; need_is = is }
  need_found table None found is = inl (record { table = table; found = found; need_is = is })

  -- a slot whose file is made anew is one of the bank's
  within_bank : (bytes : ℕ) → NeedsByTable honest id slot old new (Some bytes) → slot < old.panel.devices
  within_bank bytes needs =
      let below : slot < slots_of needs.table = needs.need_is.0.of_set in
      let fits : slots_of needs.table ≤ new.panel.devices = (needs.found.fits needs.table refl).1 in
      omega (arith, below, fits, needs.found.later.devices)

  pub need_within : (answer : Result (Option ℕ) Refusal) → FindsNeed honest id slot old new answer → old.panel.devices ≡ 10
      → IfOk answer (λ need. IfSome need (λ _. slot < 10))
  need_within (Ok (Some bytes)) finds ten =
      let below : slot < old.panel.devices = within_bank bytes finds in
      omega (arith, below, ten)
  need_within (Ok None) finds ten = tt
  need_within (Err refusal) finds ten = tt

  pub need_refused : (answer : Result (Option ℕ) Refusal) → FindsNeed honest id slot old new answer → IfErr answer IsPreparingRefusal
  need_refused (Ok need) finds = tt
  need_refused (Err refusal) finds = inr (finds.cause refusal refl).0

-- it was found on a bank that began so
pub need_over : (honest : Type 0) (Begins : History → Type 0) (id : List ℕ) (slot : ℕ) (old new : BankView) → Begins old.history
    → (answer : Result (Option ℕ) Refusal) → FindsNeed honest id slot old new answer → IfOk answer (IsNeedIn honest Begins id slot)
need_over honest Begins id slot old new begins (Ok need) finds = (old, new, begins, finds)
need_over honest Begins id slot old new begins (Err refusal) finds = tt

-- or no table was
pub need_not_found : (honest : Type 0) (Begins : History → Type 0) (id : List ℕ) (slot : ℕ) (old new : BankView) → Begins old.history
    → (answer : Result (Option ℕ) Refusal) → FindsNeed honest id slot old new answer
    → IfErr answer (λ refusal. refusal ≢ Memory → IsNoTableIn honest Begins id refusal)
need_not_found honest Begins id slot old new begins (Ok need) finds = tt
need_not_found honest Begins id slot old new begins (Err refusal) finds = λ _. (old, new, begins, finds)
