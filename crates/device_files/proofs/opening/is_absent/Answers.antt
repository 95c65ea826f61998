use Rattle.std.proofs.Common.{rules, Ok, Err}
use Rattle.device_files.specs.Faults.{SaysAbsent}
use Rattle.device_files.proofs.opening.is_absent.Goals as goal

pub returns-in-Ok-clause-there : goal.returns-in-Ok-clause-there
returns-in-Ok-clause-there g c = λ _. (Ok c.in-Ok.field-0, c.in-Ok.ensures, tt)

pub returns-in-Err-clause-there : goal.returns-in-Err-clause-there
returns-in-Err-clause-there g c = λ no.
    let apart : ¬ SaysAbsent c.in-Err.error = search rules in
    (Err c.in-Err.error, c.in-Err.ensures, apart)
