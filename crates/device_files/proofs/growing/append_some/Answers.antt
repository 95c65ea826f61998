use Rattle.device_files.proofs.Appended.{part_appended}
use Rattle.device_files.proofs.growing.append_some.Goals as goal

pub returns-in-Ok-clause-grown : goal.returns-in-Ok-clause-grown
returns-in-Ok-clause-grown g c = λ tells. part_appended _ _ _ c.in-Ok.count c.min.result 65536 (c.loop.invariant.told tells) (c.in-Ok.ensures.grown tells)
    c.in-Ok.ensures.bound
