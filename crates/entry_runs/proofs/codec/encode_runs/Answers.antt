use Rattle.std.proofs.Common.{◌≡◌, ℕ, ◌-◌, ◌*◌, List, ◌++◌, length, replicate, take_all, ap, ◌∙◌, arith}
use Rattle.std.specs.List.{flat_map}
use Rattle.entry_runs.specs.declared.run.Run.{Run}
use Rattle.entry_runs.specs.Spelling.{run_bytes, runs_bytes}
use Rattle.entry_runs.proofs.codec.encode_runs.Goals as goal

pub returns : goal.returns
unfolding runs_bytes
returns c =
    let list = c.as_slice-list.result.now in
    let last : c.loop-number.number ≡ length list = omega (arith, c.loop-number-test.false, c.loop-number.auto.number-end) in
    c.loop-number.invariant
    ∙ ap (λ (xs : List Run). flat_map run_bytes xs ++ replicate (464 - 8 * c.loop-number.number) 0) (take_all c.loop-number.number list (omega (arith, last)))
    ∙ ap (λ (n : ℕ). flat_map run_bytes list ++ replicate (464 - 8 * n) 0) last
    ∙ ap runs_bytes c.as_slice-list.ensures.value
