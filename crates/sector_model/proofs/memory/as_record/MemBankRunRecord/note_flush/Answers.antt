use Rattle.std.proofs.Common.{refl}
use Rattle.sector_model.proofs.Replay.{replayed_few}
use Rattle.sector_model.proofs.memory.as_record.MemBankRunRecord.note_flush.Goals as goal

pub settle-requires-clause-calls : goal.settle-requires-clause-calls
settle-requires-clause-calls c = replayed_few c.args.self.now.start.items c.args.self.now.log.items c.args.self.now.calls (c.requires.calls refl)
