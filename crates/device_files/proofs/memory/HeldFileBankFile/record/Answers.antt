use Rattle.std.proofs.Common.{arith}
use Rattle.device_files.proofs.Held.{begins_with}
use Rattle.device_files.proofs.memory.HeldFileBankFile.record.Goals as goal

pub returns-in-Ok-clause-begun : goal.returns-in-Ok-clause-begun
returns-in-Ok-clause-begun c = λ safe tells.
    begins_with (λ file. file.bytes.items) (λ file. file.safe.items) c.args.files.now c.in_ok-slots.slots.items _ c.in-Ok.ensures.history
    (omega (arith, c.in_ok-slots.ensures.len, c.in_ok-slots.slots.ok.0, c.requires.ten))
    (λ slot under. c.in_ok-slots.ensures.each slot (omega (arith, under, c.requires.ten))) safe
