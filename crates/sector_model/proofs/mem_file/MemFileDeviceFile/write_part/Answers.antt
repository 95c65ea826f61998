use Rattle.std.proofs.Common.{arith}
use Rattle.sector_model.proofs.DeviceParts.{piece_written}
use Rattle.sector_model.proofs.mem_file.MemFileDeviceFile.write_part.Goals as goal

pub returns-clause-written : goal.returns-clause-written
returns-clause-written c = λ tells.
    piece_written c.deref_mut.result.now c.args.self.now.bytes.items c.copy_from_slice.new.self c.args.from.now _ c.args.place c.deref_mut.ensures.value
    c.deref_mut.ensures.len
    (omega (arith, c.requires.within tells, c.deref_mut.ensures.len)) c.copy_from_slice.ensures.after

pub returns-clause-interrupted : goal.returns-clause-interrupted
returns-clause-interrupted c = λ tells. tt
