use Rattle.std.proofs.Common.{◌<◌, ◌≤◌, ◌+◌, arith}
use Rattle.std.proofs.lemmas.Result.{err_from_is_err_and, on_ok_weaker}
use Rattle.device_files.specs.DeviceFiles.{slot_path}
use Rattle.device_files.proofs.MadeSafe.{all_safe}
use Rattle.device_files.specs.Faults.{IsBarredIn, IsOpenFault, IsUnsyncedIn}
use Rattle.sector_model.specs.declared.refusal.Refusal.TheVariants.{Memory}
use Rattle.raidtool.specs.DoneOver.{IsMadeOver}
use Rattle.raidtool.proofs.Causes.{by_memory, by_refusal}
use Rattle.raidtool.proofs.Taken.{barred_blamed, barred_passing, barred_unmade, none_barred, taken_over, unsynced_blamed}
use Rattle.raidtool.proofs.make.make_in.Goals as goal

pub make_or_undo-requires-clause-safe : goal.make_or_undo-requires-clause-safe
make_or_undo-requires-clause-safe g c κs within = all_safe _ _ _ _ _ c.in_ok-files.files.files.items c.in_ok-files.files.unsynced
    c.in_ok-files.files.barred c.in_ok-files.ensures.safe

pub returns-clause-made : goal.returns-clause-made
returns-clause-made g c = on_ok_weaker c.make_or_undo.result.done (λ made.
    let both = taken_over g.D.File.Growing (λ slot. g.D.SlotFiles.opens c.args.disk.now (slot_path c.args.folder.now slot))
    c.in_ok-files.files.files.items c.in_ok-files.files.unsynced c.in_ok-files.files.barred (λ slot. slot < c.args.geometry.members + 2) (λ _ _. ⊥)
    (IsMadeOver g.D.File.Growing g.D.File.BankFile.left (g.D.SlotFiles.creates c.args.disk.now) c.args.folder.now c.args.id c.args.geometry)
    c.in_ok-files.ensures.safe (λ slot under needed. let from : 0 ≤ slot = omega arith in c.in_ok-refuse_unsynced.ensures.none slot from needed under)
    (none_barred (λ _. ⊥) c.in_ok-files.files.barred
    (λ slot under. let from : 0 ≤ slot = omega arith in c.in_ok-refuse_barred.ensures.none slot from under under)) made in
    record { taken = both.0; over = both.1 }) c.make_or_undo.ensures.made

pub returns-in_err-refuse_unsynced-clause-named : goal.returns-in_err-refuse_unsynced-clause-named
returns-in_err-refuse_unsynced-clause-named g c =
    let from = err_from_is_err_and c.from_residual-in_err-refuse_unsynced.result c.from_residual-in_err-refuse_unsynced.ensures.1 in
    rw (from.1, from.2) (unsynced_blamed _ _ _ _ _ (λ slot. g.D.SlotFiles.opens c.args.disk.now (slot_path c.args.folder.now slot))
    c.in_ok-files.files.files.items c.in_ok-files.files.unsynced c.in_ok-files.files.barred (g.D.SlotFiles.opens c.args.disk.now)
    (g.D.SlotFiles.creates c.args.disk.now) c.args.folder.now
    _ _ _ c.in_ok-files.ensures.safe c.in_err-refuse_unsynced.ensures.fault)

pub returns-in_err-refuse_barred-clause-fault : goal.returns-in_err-refuse_barred-clause-fault
returns-in_err-refuse_barred-clause-fault g c =
    let from = err_from_is_err_and c.from_residual-in_err-refuse_barred.result c.from_residual-in_err-refuse_barred.ensures.1 in
    rw (from.1, from.2) (barred_unmade c.in_ok-files.files.barred _ _ c.args.geometry.members _ c.in_err-refuse_barred.ensures.fault)

pub returns-in_err-refuse_barred-clause-named : goal.returns-in_err-refuse_barred-clause-named
returns-in_err-refuse_barred-clause-named g c =
    let from = err_from_is_err_and c.from_residual-in_err-refuse_barred.result c.from_residual-in_err-refuse_barred.ensures.1 in
    rw (from.1, from.2) (barred_blamed _ _ _ _ _ c.in_ok-files.files.files.items c.in_ok-files.files.unsynced c.in_ok-files.files.barred
    (g.D.SlotFiles.opens c.args.disk.now) (g.D.SlotFiles.creates c.args.disk.now) c.args.folder.now _ c.in_ok-files.ensures.safe
    (barred_passing c.in_ok-files.files.barred _ _ _ c.in_err-refuse_barred.ensures.fault))

-- ---- why it was refused

pub returns-in_err-files-clause-cause : goal.returns-in_err-files-clause-cause
returns-in_err-files-clause-cause g c =
    let from = err_from_is_err_and c.from_residual-in_err-files.result c.from_residual-in_err-files.ensures.1 in
    rw (from.1, from.2) (by_memory IsOpenFault _ _ (λ refusal memory. memory) c.in_err-files.ensures.fault)

pub returns-in_err-refuse_barred-clause-cause : goal.returns-in_err-refuse_barred-clause-cause
returns-in_err-refuse_barred-clause-cause g c =
    let from = err_from_is_err_and c.from_residual-in_err-refuse_barred.result c.from_residual-in_err-refuse_barred.ensures.1 in
    rw (from.1, from.2) (by_memory (IsBarredIn c.in_ok-files.files.barred 0 10) _ _ (λ refusal never. absurd never) c.in_err-refuse_barred.ensures.fault)

pub returns-in_err-refuse_unsynced-clause-cause : goal.returns-in_err-refuse_unsynced-clause-cause
returns-in_err-refuse_unsynced-clause-cause g c =
    let from = err_from_is_err_and c.from_residual-in_err-refuse_unsynced.result c.from_residual-in_err-refuse_unsynced.ensures.1 in
    rw (from.1, from.2) (by_memory (IsUnsyncedIn c.in_ok-files.files.unsynced 0 (c.args.geometry.members + 2)) _ _ (λ refusal never. absurd never)
    c.in_err-refuse_unsynced.ensures.fault)

pub returns-in_err-paths-clause-cause : goal.returns-in_err-paths-clause-cause
returns-in_err-paths-clause-cause g c =
    let from = err_from_is_err_and c.from_residual.result c.from_residual.ensures.1 in
    rw (from.1, from.2) (by_refusal _ Memory (λ other. absurd (other tt)))
