use Rattle.std.specs.Prelude.{◌≡◌, Err, IfErr}
use Rattle.std.proofs.Common.{subst, sym}
use Rattle.device_files.specs.Faults.{SaysAbsent}
use Rattle.device_files.proofs.folders.folder_of_target.Goals as goal

pub returns-in-Err-clause-fault : goal.returns-in-Err-clause-fault
returns-in-Err-clause-fault c =
    subst (λ file. IfErr file (λ error. ¬ SaysAbsent error → c.none_if_absent.result ≡ Err error)) (sym c.in-Err.is)
    c.none_if_absent.ensures.fault
