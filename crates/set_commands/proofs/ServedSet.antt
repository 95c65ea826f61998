-- What a rebuild on a bank comes to, from what its steps do.
use Rattle.std.proofs.Common.{◌≡◌, ◌≢◌, inl, inr, ℕ, List, Option, None, Result, Ok, Err, refl, subst}
use Rattle.std.specs.Prelude.{IfErr, OnErr, OnOk}
use Rattle.sector_model.specs.declared.refusal.Refusal.{Refusal}
use Rattle.sector_model.specs.declared.refusal.Refusal.TheVariants.{WriteFault}
use Rattle.array_io.specs.Believed.Holds.{row_count}
use Rattle.array_io.specs.Believed.Views.{EndsIt}
use Rattle.recovery.specs.Making.{BankView}
use Rattle.rebuild.specs.Rebuilding.{Progress}
use Rattle.volume_table.specs.Stands.{StoreView}
use Rattle.report.specs.Replies.{progress_line}
use Rattle.set_commands.specs.Serving.{IsOpened, IsRebuildEnd, RebuildsOn, ServesOn, StopsRebuildingOn}
use Rattle.set_commands.specs.Steps.{Rebuilds}
use Rattle.set_commands.proofs.MadeSteps.{rebuild_refused, rebuilds_for}

-- ---- over a store that was opened on a bank

module _ (honest then : Type 0) (so : honest → then) (id : List ℕ) (bank : BankView) (first last : StoreView) (opened : IsOpened honest id bank first) where
  going : first.ended ≡ None
  going = opened.opens.going first refl

  on : (Comes : StoreView → StoreView → Type 0) → Comes first last → ServesOn honest id bank Comes
  on Comes comes = record { first = first; last = last; opened = opened; comes = comes }

  pub rebuilt_on : (steps : Option ℕ) (progress : Progress) (rows : ℕ) (IsWritten : List ℕ → Type 0) → Rebuilds then steps first last (Ok progress)
      → rows ≡ row_count last.array.table → IsWritten (progress_line last.array.table.geometry.format rows progress) → RebuildsOn honest id steps bank IsWritten
  rebuilt_on steps progress rows IsWritten rebuilds is written = record {
    first = first;
    last = last;
    progress = progress;
    opened = opened;
    rebuilds = rebuilds_for then honest steps first last (Ok progress) so rebuilds;
    written = subst (λ (n : ℕ). IsWritten (progress_line last.array.table.geometry.format n progress)) is written;
  }

  pub rebuild_stopped : (steps : Option ℕ) (refusal : Refusal) → Rebuilds then steps first last (Err refusal) → StopsRebuildingOn honest id steps bank refusal
  rebuild_stopped steps refusal rebuilds = on (λ f l. Rebuilds honest steps f l (Err refusal))
      (rebuilds_for then honest steps first last (Err refusal) so rebuilds)

  pub rebuild_end : (steps : Option ℕ) (refusal : Refusal) → Rebuilds then steps first last (Err refusal) → IsRebuildEnd refusal
  rebuild_end steps refusal rebuilds = elim (rebuild_refused then steps refusal first last going rebuilds) [
    | inl ends ↦ inl (inr (inr ends))
    | inr nothing ↦ inr nothing
  ]

  pub rebuild_uncut : (steps : Option ℕ) (refusal : Refusal) → Rebuilds then steps first last (Err refusal) → refusal ≢ WriteFault
  rebuild_uncut steps refusal rebuilds is = elim (rebuild_refused then steps refusal first last going rebuilds) [
    | inl ends ↦ subst EndsIt is ends
    | inr nothing ↦ cc
  ]

-- ---- what was written, by how the writing ended

pub ok_then : (result : Result (Unit {0}) Refusal) (P Q : Type 0) → (P → Q) → OnOk result P → OnOk result Q
ok_then (Ok done) P Q so is = so is
ok_then (Err refusal) P Q so is = tt

pub part_then : (result : Result (Unit {0}) Refusal) (P Q : Type 0) → (P → Q) → OnErr result P → IfErr result (λ refusal. refusal ≡ WriteFault → Q)
part_then (Ok done) P Q so part = tt
part_then (Err refusal) P Q so part = λ cut. so part
