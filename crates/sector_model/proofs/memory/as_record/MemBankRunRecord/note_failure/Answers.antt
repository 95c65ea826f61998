use Rattle.std.proofs.Common.{refl}
use Rattle.sector_model.proofs.Replay.{replayed_few}
use Rattle.sector_model.proofs.memory.as_record.MemBankRunRecord.note_failure.Goals as goal

pub fail_device-requires-clause-calls : goal.fail_device-requires-clause-calls
fail_device-requires-clause-calls c = replayed_few c.args.self.now.start.items c.args.self.now.log.items c.args.self.now.calls (c.requires.calls refl)
