use Rattle.std.proofs.Common.{◌≡◌, ◌+◌, ◌≤◌, ℕ, ◌∙◌, ap, arith}
use Rattle.std.proofs.lemmas.Result.{err_from_is_err_and}
use Rattle.sector_model.proofs.files.open_files.Goals as goal

ten_so_far : {count number : ℕ} → count ≡ number → 10 ≤ number → number ≤ 10 → count ≡ 10
ten_so_far is past within = omega (arith, is, past, within)

pub returns-in_err-files : goal.returns-in_err-files
returns-in_err-files g c = rw (err_from_is_err_and c.from_residual.result c.from_residual.ensures.1).1 tt

pub returns-in_err-path : goal.returns-in_err-path
returns-in_err-path g c = rw (err_from_is_err_and c.from_residual-in_err-path.result c.from_residual-in_err-path.ensures.1).1 tt

pub returns-in_err-push : goal.returns-in_err-push
returns-in_err-push g c = rw (err_from_is_err_and c.from_residual-in_err-push.result c.from_residual-in_err-push.ensures.1).1 tt

pub loop-number-init : goal.loop-number-init
loop-number-init g c = c.in_ok-files.ensures.len

pub loop-number-preserved : goal.loop-number-preserved
loop-number-preserved g c = c.in_ok-push.ensures.len ∙ ap (λ (n : ℕ). n + 1) c.loop-number.invariant

pub returns : goal.returns
returns g c = ten_so_far c.loop-number.invariant c.loop-number-test.false c.loop-number.auto.number-counter-end
