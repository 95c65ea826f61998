use Rattle.device_files.specs.DeviceFiles.{slot_path}
use Rattle.server.proofs.Opened.{last_ends}
use Rattle.raidtool.proofs.ServedRuns.{again_none, again_over, memory_ends}
use Rattle.raidtool.proofs.serving.serve_again.Goals as goal

pub returns-in-Ok-clause-again : goal.returns-in-Ok-clause-again
returns-in-Ok-clause-again g c = again_over g.D.File.Growing g.D.File.BankFile.left c.args.id c.args.slot
    (λ slot. g.D.SlotFiles.opens c.args.disk.now (slot_path c.args.folder.now slot)) _ _ _ c.serve_over.result c.in-Ok.ensures.safe c.in-Ok.ensures.opened
    c.serve_over.ensures.over

pub returns-in-Ok-clause-end : goal.returns-in-Ok-clause-end
returns-in-Ok-clause-end g c = c.serve_over.ensures.end

pub returns-in-Err-clause-again : goal.returns-in-Err-clause-again
returns-in-Err-clause-again g c = again_none g.D.File.Growing g.D.File.BankFile.left c.args.id c.args.slot
    (λ slot. g.D.SlotFiles.opens c.args.disk.now (slot_path c.args.folder.now slot)) _ _ _ _ c.write_last.result c.in-Err.ensures.err c.write_last.ensures

pub returns-in-Err-clause-end : goal.returns-in-Err-clause-end
returns-in-Err-clause-end g c = last_ends _ _ _ c.write_last.result (memory_ends _ c.in-Err.ensures.err) c.write_last.ensures
