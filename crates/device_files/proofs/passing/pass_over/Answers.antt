use Rattle.std.proofs.Common.{◌≡◌, ◌∙◌, false, Result, Ok, Err, subst, sym, arith}
use Rattle.std.specs.Prelude.{IsSome, OnOk}
use Rattle.std.specs.Result.{is_err}
use Rattle.std.proofs.lemmas.Bool.{false≢true}
use Rattle.device_files.specs.declared.FolderFault.{FolderFault}
use Rattle.device_files.proofs.passing.pass_over.Goals.{then-is_err+in_ok-table+in_ok-refuse_needed, else-is_err}
use Rattle.device_files.proofs.passing.pass_over.Goals as goal

-- what holds of an answer without a fault
without_fault : {P : Type 0} (result : Result (Unit {0}) FolderFault) → is_err result ≡ false → OnOk result P → P
without_fault (Ok done) none holds = holds
without_fault (Err fault) none holds = absurd cc

pub returns-clause-missing : goal.returns-clause-missing
returns-clause-missing g c = λ slot below some. elim c.if-is_err.branch [
  | then-is_err+in_ok-table+in_ok-refuse_needed w ↦ (w.in_ok-table.table, w.in_ok-table.ensures.found, w.in_ok-refuse_needed.ensures.missing slot below some)
  | else-is_err w ↦
      let none = without_fault c.refuse_barred.result (sym c.is_err.ensures.value ∙ w.if-is_err.false) c.refuse_barred.ensures.none in
      absurd (false≢true (subst IsSome (none slot (omega arith) (omega (arith, below)) below) some))
]
