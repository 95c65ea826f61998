use Rattle.std.proofs.Common.{◌≤◌, ◌<◌, ℕ, arith, inl, refl, subst, sym, List}
use Rattle.std.proofs.lemmas.Result.{err_from_is_err_and}
use Rattle.device_files.specs.BankFiles.{AreAllSafe}
use Rattle.device_files.specs.DeviceFiles.{slot_path}
use Rattle.device_files.proofs.MadeSafe.{all_safe}
use Rattle.raidtool.proofs.Causes.{caused_as}
use Rattle.raidtool.specs.Sized.{IsSizedFor}
use Rattle.raidtool.proofs.SizedMakes.{looking_found, made_caused, shape_caused, shape_found, sized_in, taken_all}
use Rattle.raidtool.proofs.Taken.{unsynced_blamed}
use Rattle.raidtool.proofs.make.sized.make_sized_in.Goals as goal

pub look-requires-clause-safe : goal.look-requires-clause-safe
look-requires-clause-safe g c κs within = subst (AreAllSafe g.D.File.Growing.is_safe) (sym c.deref_mut.ensures.value)
    (all_safe _ _ _ _ _ c.in_ok-files.files.files.items c.in_ok-files.files.unsynced c.in_ok-files.files.barred c.in_ok-files.ensures.safe)

pub returns-in_err-refuse_unsynced-clause-named : goal.returns-in_err-refuse_unsynced-clause-named
returns-in_err-refuse_unsynced-clause-named g c =
    let from = err_from_is_err_and c.from_residual-in_err-refuse_unsynced.result c.from_residual-in_err-refuse_unsynced.ensures.1 in
    rw (from.1, from.2) (unsynced_blamed _ _ _ _ _ (λ slot. g.D.SlotFiles.opens c.args.disk.now (slot_path c.args.folder.now slot))
    c.in_ok-files.files.files.items c.in_ok-files.files.unsynced c.in_ok-files.files.barred (g.D.SlotFiles.opens c.args.disk.now)
    (g.D.SlotFiles.creates c.args.disk.now) c.args.folder.now
    _ _ _ c.in_ok-files.ensures.safe c.in_err-refuse_unsynced.ensures.fault)

pub returns-in_err-make_or_undo-clause-cause : goal.returns-in_err-make_or_undo-clause-cause
returns-in_err-make_or_undo-clause-cause g c =
    let from = err_from_is_err_and c.from_residual-in_err-make_or_undo.result c.from_residual-in_err-make_or_undo.ensures.1 in
    let most = c.in_ok-geometry.geometry.limits.members_most in
    let sized = rw c.deref.ensures.value at c.in_ok-geometry.ensures.sized in
    let Opens = λ (slot : ℕ). g.D.SlotFiles.opens c.args.disk.now (slot_path c.args.folder.now slot) in
    let taken = taken_all g.D.File.Growing Opens c.in_ok-files.files.files.items c.in_ok-files.files.unsynced c.in_ok-files.files.barred
    (λ files. IsSizedFor g.D.File.Growing.tells g.D.File.Growing.told c.args.wanted.now.members c.args.wanted.now.chunk c.args.wanted.now.size files
    c.in_ok-geometry.geometry) c.in_ok-files.ensures.safe c.in_ok-refuse_barred.ensures.none c.in_ok-refuse_unsynced.ensures.none sized in
    rw (from.1, from.2) (caused_as _ _ _ (λ refusal. made_caused g.D.File.Growing g.D.File.BankFile.left Opens c.args.id _ _ _
    c.in_ok-geometry.geometry refusal most taken) (rw c.in_err-make_or_undo.was at c.make_or_undo.ensures.cause))

pub returns-in_err-geometry-clause-cause : goal.returns-in_err-geometry-clause-cause
returns-in_err-geometry-clause-cause g c =
    let from = err_from_is_err_and c.from_residual-in_err-geometry.result c.from_residual-in_err-geometry.ensures.1 in
    rw (from.1, from.2) (shape_caused g.D.File.Growing g.D.File.BankFile.left (λ slot. g.D.SlotFiles.opens c.args.disk.now (slot_path c.args.folder.now slot))
    c.args.id _ _ _ c.in_ok-files.files.files.items c.in_ok-files.files.unsynced c.in_ok-files.files.barred _ c.in_ok-files.ensures.safe
    c.in_ok-refuse_barred.ensures.none c.in_ok-refuse_unsynced.ensures.none (rw c.deref.ensures.value at c.in_err-geometry.ensures.fault))

pub returns-in_err-geometry-clause-found : goal.returns-in_err-geometry-clause-found
returns-in_err-geometry-clause-found g c =
    let from = err_from_is_err_and c.from_residual-in_err-geometry.result c.from_residual-in_err-geometry.ensures.1 in
    rw (from.1, from.2) (shape_found g.D.File.Growing (λ slot. g.D.SlotFiles.opens c.args.disk.now (slot_path c.args.folder.now slot))
    _ _ _ c.in_ok-files.files.files.items c.in_ok-files.files.unsynced c.in_ok-files.files.barred _ c.in_ok-files.ensures.safe
    c.in_ok-refuse_barred.ensures.none c.in_ok-refuse_unsynced.ensures.none (rw c.deref.ensures.value at c.in_err-geometry.ensures.fault))

pub returns-in_err-look-clause-found : goal.returns-in_err-look-clause-found
returns-in_err-look-clause-found g c =
    let from = err_from_is_err_and c.from_residual-in_err-look.result c.from_residual-in_err-look.ensures.1 in
    rw (from.1, from.2) (looking_found g.D.File.Growing (λ slot. g.D.SlotFiles.opens c.args.disk.now (slot_path c.args.folder.now slot))
    _ c.in_ok-files.files.files.items c.in_ok-files.files.unsynced c.in_ok-files.files.barred _ c.in_ok-files.ensures.safe
    c.in_ok-refuse_barred.ensures.none c.in_ok-refuse_unsynced.ensures.none (rw c.deref_mut.ensures.value at c.in_err-look.ensures.fault))

pub returns-clause-synced : goal.returns-clause-synced
returns-clause-synced g c = rw c.in_ok-make_or_undo.was at c.make_or_undo.ensures.synced

pub returns-clause-made : goal.returns-clause-made
returns-clause-made g c = sized_in g.D.File.Growing g.D.File.BankFile.left (g.D.SlotFiles.creates c.args.disk.now) c.args.folder.now
    (g.D.SlotFiles.opens c.args.disk.now) c.args.id c.args.wanted.now.members c.args.wanted.now.chunk c.args.wanted.now.size c.args.wanted.now.over
    c.in_ok-geometry.geometry c.in_ok-files.files.files.items _ c.in_ok-files.files.unsynced c.in_ok-files.files.barred c.in_ok-files.ensures.safe
    c.in_ok-refuse_barred.ensures.none c.in_ok-refuse_unsynced.ensures.none (rw c.deref.ensures.value at c.in_ok-geometry.ensures.sized)
    (λ not_over. rw c.deref_mut.ensures.value at (c.in_ok-look.ensures.alone not_over))
    (λ over. rw c.deref_mut.ensures.value at (c.in_ok-look.ensures.cleared over))
    c.in_ok-files.files.files.len (rw c.deref_mut.ensures.value at c.deref_mut.ensures.len)
    (rw c.deref_mut.ensures.value at c.in_ok-look.ensures.long) (rw c.in_ok-make_or_undo.was at c.make_or_undo.ensures.made)
