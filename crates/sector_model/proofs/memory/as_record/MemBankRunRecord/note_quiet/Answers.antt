use Rattle.std.proofs.Common.{refl}
use Rattle.sector_model.proofs.Replay.{replayed_few}
use Rattle.sector_model.proofs.memory.as_record.MemBankRunRecord.note_quiet.Goals as goal

pub pass-requires : goal.pass-requires
pass-requires c = replayed_few c.args.self.now.start.items c.args.self.now.log.items c.args.self.now.calls (c.requires refl)
