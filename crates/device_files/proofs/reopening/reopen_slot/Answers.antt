use Rattle.device_files.specs.DeviceFiles.{file_in, slot_path}
use Rattle.std.proofs.lemmas.Result.{err_from_is_err_and}
use Rattle.device_files.proofs.Reopened.{kept_same, other_kept, reopened_still}
use Rattle.device_files.proofs.reopening.reopen_slot.Goals as goal

pub returns-clause-opened : goal.returns-clause-opened
returns-clause-opened g c = reopened_still g.D.File.Growing.tells g.D.File.Growing.told
    (g.D.SlotFiles.opens c.args.disk.now (slot_path c.args.folder.now c.args.slot)) (file_in c.open_anew.new.files c.args.slot)
    (file_in c.close_unsynced.new.files c.args.slot) c.in_ok-open_anew.ensures.opened (c.close_unsynced.ensures.kept c.args.slot)

pub returns-clause-others : goal.returns-clause-others
returns-clause-others g c = λ other apart. other_kept g.D.File.Growing.tells g.D.File.Growing.told (file_in c.args.files.now other)
    (file_in c.open_anew.new.files other) (file_in c.close_unsynced.new.files other) (c.in_ok-open_anew.ensures.others other apart)
    (c.close_unsynced.ensures.kept other)

pub returns-in_err-open_anew-clause-others : goal.returns-in_err-open_anew-clause-others
returns-in_err-open_anew-clause-others g c = λ other apart. kept_same g.D.File.Growing.tells g.D.File.Growing.told (file_in c.args.files.now other)
    (file_in c.open_anew.new.files other) (c.in_err-open_anew.ensures.others other apart)
