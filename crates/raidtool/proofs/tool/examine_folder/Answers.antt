use Rattle.std.proofs.lemmas.Result.{err_from_is_err_and}
use contract.BorrowLft.{⊑_static, ⊑_trans}
use Rattle.device_files.specs.Faults.{IsOpenFault}
use Rattle.raidtool.proofs.Causes.{by_memory, by_refusal, not_cut, not_memory}
use Rattle.raidtool.proofs.tool.examine_folder.Goals as goal

pub returns-in_err-files-clause-cause : goal.returns-in_err-files-clause-cause
returns-in_err-files-clause-cause g c =
    let from = err_from_is_err_and c.from_residual.result c.from_residual.ensures.1 in
    rw (from.1, from.2) (by_memory IsOpenFault _ _ (λ refusal memory. memory) c.in_err-files.ensures.fault)

pub returns-in_err-bank-clause-cause : goal.returns-in_err-bank-clause-cause
returns-in_err-bank-clause-cause g c =
    let from = err_from_is_err_and c.from_residual-in_err-bank.result c.from_residual-in_err-bank.ensures.1 in
    rw (from.1, from.2) (by_refusal _ _ (λ other. absurd (not_memory _ other c.in_err-bank.ensures.err)))

pub returns-in_err-examine_on-clause-cause : goal.returns-in_err-examine_on-clause-cause
returns-in_err-examine_on-clause-cause g c =
    let from = err_from_is_err_and c.from_residual-in_err-examine_on.result c.from_residual-in_err-examine_on.ensures.1 in
    rw (from.1, from.2) (by_refusal _ _ (λ other. (
      _,
      (c.in_ok-files.files.files.items, c.in_ok-files.ensures.inspected, c.in_ok-bank.ensures.begins),
      c.in_err-examine_on.ensures.refused (not_memory _ other) (not_cut _ other),
    )))

-- ---- what was done

pub returns-clause-examined : goal.returns-clause-examined
returns-clause-examined g c = record {
  files = c.in_ok-files.files.files.items;
  inspected = c.in_ok-files.ensures.inspected;
  bank = _;
  begins = c.in_ok-bank.ensures.begins;
  examines = c.in_ok-examine_on.ensures.examined;
  health = c.in_ok-examine_on.ensures.health;
}

-- ---- what its bank may hold

pub examine_on-requires-lives-B-Bank : goal.examine_on-requires-lives-B-Bank
examine_on-requires-lives-B-Bank g c κs within = ⊑_trans _ _ _ (⊑_static _) c.type_bounds.static-D-InspectedFile

pub examine_on-requires-lives-B-Destruct : goal.examine_on-requires-lives-B-Destruct
examine_on-requires-lives-B-Destruct g c κs within = ⊑_trans _ _ _ (⊑_static _) c.type_bounds.static-D-InspectedFile
