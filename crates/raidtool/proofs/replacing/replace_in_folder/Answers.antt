use Rattle.std.proofs.Common.{◌≡◌, ◌≢◌, ◌<◌, ◌≤◌, ◌+◌, List, Option, arith, inl, inr, refl, rules, subst}
use Rattle.std.proofs.lemmas.Bool.{false≢true}
use Rattle.std.proofs.lemmas.Result.{err_from_is_err_and}
use Rattle.sector_model.specs.declared.refusal.Refusal.TheVariants.{Memory, WriteFault}
use Rattle.device_files.specs.declared.FolderFault.{FolderFault}
use Rattle.device_files.specs.declared.FolderFault.TheVariants.{Refused}
use Rattle.device_files.specs.declared.Reason.{Reason}
use Rattle.device_files.specs.DeviceFiles.{slot_path}
use Rattle.device_files.proofs.MadeSafe.{all_safe}
use Rattle.raidtool.specs.Begun.{IsMissingOver}
use Rattle.raidtool.specs.DoneOver.{IsReplacedOver}
use Rattle.device_files.specs.Faults.{IsBarredIn, IsOpenFault, IsPassingFault, IsUnsyncedIn}
use Rattle.set_commands.specs.Serving.{IsReplaceEnd}
use Rattle.raidtool.proofs.Causes.{by_memory, by_refusal, no_table_safely, not_memory}
use Rattle.raidtool.proofs.Renewed.{replaces_more}
use Rattle.raidtool.proofs.Taken.{barred_blamed, barred_passing, passing_slot, taken_over, unsynced_blamed, unsynced_slot}
use Rattle.raidtool.proofs.replacing.replace_in_folder.Goals as goal

-- no file that is passed over is a fault of what is written
never_written : (barred : List (Option Reason)) → IsPassingFault barred (Refused WriteFault) → ⊥
never_written barred (inl is) = cc
never_written barred (inr is) = cc

pub returns-in_err-refuse_unsynced-clause-replaces : goal.returns-in_err-refuse_unsynced-clause-replaces
returns-in_err-refuse_unsynced-clause-replaces g c =
    let from = err_from_is_err_and c.from_residual-in_err-refuse_unsynced.result c.from_residual-in_err-refuse_unsynced.ensures.1 in
    let most : c.saturating_add-2.result ≤ c.args.slot + 1 = omega (arith, c.saturating_add-2.ensures) in
    rw (from.1, from.2) (record {
      synced = tt;
      replaced = tt;
      written = tt;
      fault = unsynced_slot IsReplaceEnd c.in_ok-files.files.unsynced c.args.slot c.saturating_add-2.result _ most c.in_err-refuse_unsynced.ensures.fault;
      blamed = unsynced_blamed _ _ _ _ _ (λ other. g.D.SlotFiles.opens c.args.disk.now (slot_path c.args.folder.now other))
          c.in_ok-files.files.files.items c.in_ok-files.files.unsynced c.in_ok-files.files.barred (g.D.SlotFiles.opens c.args.disk.now)
          (g.D.SlotFiles.creates c.args.disk.now) c.args.folder.now
          c.args.slot c.saturating_add-2.result _ c.in_ok-files.ensures.safe c.in_err-refuse_unsynced.ensures.fault;
      cause = by_memory (IsUnsyncedIn c.in_ok-files.files.unsynced c.args.slot c.saturating_add-2.result) _ _ (λ refusal never. absurd never)
          c.in_err-refuse_unsynced.ensures.fault;
      unwritten = λ _. refl;
      cut = λ cut. absurd (subst (λ (fault : FolderFault). IsUnsyncedIn c.in_ok-files.files.unsynced c.args.slot c.saturating_add-2.result fault) cut
          c.in_err-refuse_unsynced.ensures.fault);
    })

pub pass_over-requires-clause-safe : goal.pass_over-requires-clause-safe
pass_over-requires-clause-safe g c κs within = all_safe _ _ _ _ _ c.in_ok-files.files.files.items c.in_ok-files.files.unsynced c.in_ok-files.files.barred
    c.in_ok-files.ensures.safe

pub replace_or_undo-requires-clause-safe : goal.replace_or_undo-requires-clause-safe
replace_or_undo-requires-clause-safe g c κs within = all_safe _ _ _ _ _ c.in_ok-files.files.files.items c.in_ok-files.files.unsynced
    c.in_ok-files.files.barred c.in_ok-files.ensures.safe

pub returns-clause-replaces : goal.returns-clause-replaces
returns-clause-replaces g c = replaces_more _ _ _ _ _ _ _ _ g.W.Write.contents c.args.slot c.args.out.now c.replace_or_undo.new.out
    c.replace_or_undo.result.done
    (λ over.
    let both = taken_over g.D.File.Growing (λ other. g.D.SlotFiles.opens c.args.disk.now (slot_path c.args.folder.now other))
    c.in_ok-files.files.files.items c.in_ok-files.files.unsynced c.in_ok-files.files.barred (λ other. other ≡ c.args.slot)
    (λ files other. (other ≢ c.args.slot) × IsMissingOver g.D.File.Growing g.D.File.BankFile.left c.args.id files other)
    (IsReplacedOver g.D.File.Growing g.D.File.BankFile.left (g.D.SlotFiles.creates c.args.disk.now) c.args.folder.now c.args.id c.args.slot)
    c.in_ok-files.ensures.safe (λ other under same.
    let from : c.args.slot ≤ other = omega (arith, same) in
    let below : other < c.saturating_add-2.result = omega (arith, same, under, c.saturating_add-2.ensures) in
    c.in_ok-refuse_unsynced.ensures.none other from below under)
    (λ other under some.
    let apart : other ≢ c.args.slot = λ same.
    let from : c.args.slot ≤ other = omega (arith, same) in
    let below : other < c.saturating_add.result = omega (arith, same, under, c.saturating_add.ensures) in
    false≢true (rw (c.in_ok-refuse_barred.ensures.none other from below under) at some) in
    (apart, c.in_ok-pass_over.ensures.missing other under some)) over in
    record { taken = both.0; over = both.1 }) (λ synced. synced) (λ refusal cause. cause) (λ fault blamed. blamed) c.replace_or_undo.ensures.replaces

pub returns-in_err-refuse_barred-clause-replaces : goal.returns-in_err-refuse_barred-clause-replaces
returns-in_err-refuse_barred-clause-replaces g c =
    let from = err_from_is_err_and c.from_residual-in_err-refuse_barred.result c.from_residual-in_err-refuse_barred.ensures.1 in
    let barred = barred_passing c.in_ok-files.files.barred _ _ _ c.in_err-refuse_barred.ensures.fault in
    rw (from.1, from.2) (record {
      synced = tt;
      replaced = tt;
      written = tt;
      fault = passing_slot c.in_ok-files.files.barred c.args.slot _ barred;
      blamed = barred_blamed _ _ _ _ _ c.in_ok-files.files.files.items c.in_ok-files.files.unsynced c.in_ok-files.files.barred
          (g.D.SlotFiles.opens c.args.disk.now) (g.D.SlotFiles.creates c.args.disk.now) c.args.folder.now _ c.in_ok-files.ensures.safe barred;
      cause = by_memory (IsBarredIn c.in_ok-files.files.barred c.args.slot c.saturating_add.result) _ _ (λ refusal never. absurd never)
          c.in_err-refuse_barred.ensures.fault;
      unwritten = λ _. refl;
      cut = λ cut. absurd (subst (λ (fault : FolderFault). IsBarredIn c.in_ok-files.files.barred c.args.slot c.saturating_add.result fault) cut
          c.in_err-refuse_barred.ensures.fault);
    })

pub returns-in_err-pass_over-clause-replaces : goal.returns-in_err-pass_over-clause-replaces
returns-in_err-pass_over-clause-replaces g c =
    let from = err_from_is_err_and c.from_residual-in_err-pass_over.result c.from_residual-in_err-pass_over.ensures.1 in
    rw (from.1, from.2) (record {
      synced = tt;
      replaced = tt;
      written = tt;
      fault = passing_slot c.in_ok-files.files.barred c.args.slot _ c.in_err-pass_over.ensures.fault;
      blamed = barred_blamed _ _ _ _ _ c.in_ok-files.files.files.items c.in_ok-files.files.unsynced c.in_ok-files.files.barred
          (g.D.SlotFiles.opens c.args.disk.now) (g.D.SlotFiles.creates c.args.disk.now) c.args.folder.now _ c.in_ok-files.ensures.safe
          c.in_err-pass_over.ensures.fault;
      cause = λ refusal same other. inr (no_table_safely g.D.File.Growing g.D.File.BankFile.left c.args.id c.in_ok-files.files.files.items refusal
          (all_safe _ _ _ _ _ c.in_ok-files.files.files.items c.in_ok-files.files.unsynced c.in_ok-files.files.barred c.in_ok-files.ensures.safe)
          (c.in_err-pass_over.ensures.cause refusal same (not_memory refusal other)));
      unwritten = λ _. refl;
      cut = λ cut. absurd (never_written c.in_ok-files.files.barred (subst (λ (fault : FolderFault). IsPassingFault c.in_ok-files.files.barred fault) cut
          c.in_err-pass_over.ensures.fault));
    })

pub returns-clause-passed : goal.returns-clause-passed
returns-clause-passed g c = (c.in_ok-files.files.barred, c.in_ok-pass_over.ensures.told)

pub returns-in_err-files-clause-replaces : goal.returns-in_err-files-clause-replaces
returns-in_err-files-clause-replaces g c =
    let from = err_from_is_err_and c.from_residual-in_err-files.result c.from_residual-in_err-files.ensures.1 in
    record {
      synced = search rules;
      replaced = search rules;
      written = search rules;
      fault = search rules;
      blamed = search rules;
      cause = rw (from.1, from.2) (by_memory IsOpenFault _ _ (λ refusal memory. memory) c.in_err-files.ensures.fault);
      unwritten = search rules;
      cut = search rules;
    }

pub returns-in_err-paths-clause-replaces : goal.returns-in_err-paths-clause-replaces
returns-in_err-paths-clause-replaces g c =
    let from = err_from_is_err_and c.from_residual-in_err-paths.result c.from_residual-in_err-paths.ensures.1 in
    record {
      synced = search rules;
      replaced = search rules;
      written = search rules;
      fault = search rules;
      blamed = search rules;
      cause = rw (from.1, from.2) (by_refusal _ Memory (λ other. absurd (other tt)));
      unwritten = search rules;
      cut = search rules;
    }

pub returns-in_err-entry-clause-replaces : goal.returns-in_err-entry-clause-replaces
returns-in_err-entry-clause-replaces g c =
    let from = err_from_is_err_and c.from_residual.result c.from_residual.ensures.1 in
    record {
      synced = search rules;
      replaced = search rules;
      written = search rules;
      fault = search rules;
      blamed = search rules;
      cause = rw (from.1, from.2) (by_refusal _ _ (λ other. absurd (not_memory _ other c.in_err-entry.ensures.err)));
      unwritten = search rules;
      cut = search rules;
    }
