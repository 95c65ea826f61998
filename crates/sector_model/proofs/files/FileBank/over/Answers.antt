use Rattle.std.proofs.Common.{arith, refl, sym, ◌∙◌}
use Rattle.sector_model.proofs.FileRuns.{over_begun}
use Rattle.std.proofs.lemmas.Result.{err_from_is_err_and}
use Rattle.sector_model.proofs.files.FileBank.over.Goals as goal

pub invariant_of-result-clause-over : goal.invariant_of-result-clause-over
invariant_of-result-clause-over g c = λ tells. over_begun _ _ c.args.files.items c.in_ok-slots.slots.items _
    (sym c.in_ok-slots.slots.ok.0 ∙ c.in_ok-slots.ensures.len ∙ c.requires.ten) c.in_ok-slots.ensures.opened
    (λ d lt. c.in_ok-slots.ensures.made tells d (omega (arith, lt, c.requires.ten))) (c.requires.begun tells)

pub returns-in_err-slots-clause-honest : goal.returns-in_err-slots-clause-honest
returns-in_err-slots-clause-honest g c = λ tells. rw (err_from_is_err_and c.from_residual.result c.from_residual.ensures.1).1 tt

pub returns-in_err-slots-clause-history : goal.returns-in_err-slots-clause-history
returns-in_err-slots-clause-history g c = λ tells. rw (err_from_is_err_and c.from_residual.result c.from_residual.ensures.1).1 tt

pub returns-in_err-slots-clause-devices : goal.returns-in_err-slots-clause-devices
returns-in_err-slots-clause-devices g c = rw (err_from_is_err_and c.from_residual.result c.from_residual.ensures.1).1 tt

pub returns-in_err-slots-clause-calls : goal.returns-in_err-slots-clause-calls
returns-in_err-slots-clause-calls g c = rw (err_from_is_err_and c.from_residual.result c.from_residual.ensures.1).1 tt

pub returns-in_err-slots-clause-absent : goal.returns-in_err-slots-clause-absent
returns-in_err-slots-clause-absent g c = rw (err_from_is_err_and c.from_residual.result c.from_residual.ensures.1).1 tt

pub returns-in_err-slots-clause-synced : goal.returns-in_err-slots-clause-synced
returns-in_err-slots-clause-synced g c = rw (err_from_is_err_and c.from_residual.result c.from_residual.ensures.1).1 tt

pub returns-in_err-slots-clause-err : goal.returns-in_err-slots-clause-err
returns-in_err-slots-clause-err g c = let p = err_from_is_err_and c.from_residual.result c.from_residual.ensures.1 in rw p.1 p.2

pub invariant_of-result-clause-ten : goal.invariant_of-result-clause-ten
invariant_of-result-clause-ten g c = c.in_ok-slots.ensures.len ∙ c.requires.ten

pub invariant_of-result-clause-paired : goal.invariant_of-result-clause-paired
invariant_of-result-clause-paired g c = c.requires.paired

pub returns-clause-honest : goal.returns-clause-honest
returns-clause-honest g c = λ tells. tells

pub returns-clause-history : goal.returns-clause-history
returns-clause-history g c = λ tells. refl

pub returns-clause-devices : goal.returns-clause-devices
returns-clause-devices g c = refl

pub returns-clause-calls : goal.returns-clause-calls
returns-clause-calls g c = refl

pub returns-clause-absent : goal.returns-clause-absent
returns-clause-absent g c = λ d. (c.in_ok-slots.ensures.opened d).absent

pub returns-clause-synced : goal.returns-clause-synced
returns-clause-synced g c = λ d. (c.in_ok-slots.ensures.opened d).synced

pub returns-clause-err : goal.returns-clause-err
returns-clause-err g c = tt
