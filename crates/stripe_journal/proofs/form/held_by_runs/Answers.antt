use Rattle.std.proofs.Common.{◌<◌, List, ◌^◌, length, arith, ap, ◌∙◌}
use Rattle.std.proofs.lemmas.Nat.{mul-le}
use Rattle.entry_runs.specs.declared.run.Run.{Run}
use Rattle.entry_runs.specs.Body.{bits_below}
use Rattle.entry_runs.specs.Runs.{run_at}
use Rattle.stripe_journal.proofs.HeldRuns.{held_by_few, held_by_on}
use Rattle.stripe_journal.proofs.form.held_by_runs.Goals as goal

pub loop-run-preserved : goal.loop-run-preserved
loop-run-preserved c =
    let items = c.as_slice-run-items.ensures.value in
    let at = c.loop-run.run-index in
    held_by_on c.args.members c.args.runs.now.list.items at c.loop-run.count c.from.result c.bits_below.result
    (omega (arith, c.loop-run-test.true, ap length items)) c.loop-run.invariant
    (c.from.ensures ∙ ap (λ (runs : List Run). (run_at runs at).length) items)
    (c.bits_below.ensures.bits ∙ ap (λ (runs : List Run). bits_below (run_at runs at).mask c.args.members) items)

pub overflow_add-count : goal.overflow_add-count
overflow_add-count c =
    let list = c.args.runs.now.list.items in
    let within : c.loop-run.run-index < length list = omega (arith, c.loop-run-test.true, ap length c.as_slice-run-items.ensures.value) in
    let long : c.from.result < 2 ^ 16 =
    omega (
      arith,
      c.from.ensures,
      ap (λ (runs : List Run). (run_at runs c.loop-run.run-index).length) c.as_slice-run-items.ensures.value,
      (c.args.runs.now.allowed.fit.each c.loop-run.run-index within).length_most,
    ) in
    omega (
      arith,
      c.loop-run.invariant,
      held_by_few c.args.members list c.requires (λ i within. (c.args.runs.now.allowed.fit.each i within).mask_most),
      c.args.runs.now.allowed.fit.held_most,
      mul-le c.from.result c.bits_below.result 65535 8 (omega (arith, long)) (omega (arith, c.bits_below.ensures.most, c.requires)),
    )

pub returns-clause-most : goal.returns-clause-most
returns-clause-most c =
    omega (
      arith,
      c.loop-run.invariant,
      held_by_few c.args.members c.args.runs.now.list.items c.requires (λ i within. (c.args.runs.now.allowed.fit.each i within).mask_most),
      c.args.runs.now.allowed.fit.held_most,
    )
