use Rattle.std.proofs.Common.{◌≡◌, ◌<◌, [], ℕ, ◌+◌, ◌-◌, ◌*◌, ◌^◌, cond, List, Some, None, length, drop, ap, sym, ◌∙◌, arith}
use Rattle.std.proofs.lemmas.List.{drop_all}
use Rattle.std.proofs.lemmas.Nat.{mul-le}
use Rattle.entry_runs.specs.declared.run.Run.{Run}
use Rattle.entry_runs.specs.Body.{bits_below, has_bit, has_row, run_of}
use Rattle.entry_runs.specs.Runs.{run_at}
use Rattle.stripe_journal.proofs.HeldRuns.{held_by_few, held_by_on}
use Rattle.stripe_journal.proofs.RankRuns.{held_so_far, left_on, no_rank, rank_found}
use Rattle.stripe_journal.proofs.oracle.rank_by_runs.Goals as goal

pub rank_after-requires-clause-before : goal.rank_after-requires-clause-before
rank_after-requires-clause-before c =
    omega (
      arith,
      c.loop-run.invariant.sum,
      held_by_few c.args.members c.args.runs.now.list.items c.requires.members (λ i within. (c.args.runs.now.allowed.fit.each i within).mask_most),
      c.args.runs.now.allowed.fit.held_most,
    )

pub returns-then-has_row : goal.returns-then-has_row
returns-then-has_row c =
    let items = c.as_slice-run-items.ensures.value in
    let at = c.loop-run.run-index in
    let list = c.args.runs.now.list.items in
    let members = c.args.members in
    let row = c.args.row in
    let member = c.args.member in
    let run = run_at list at in
    let within : at < length list = omega (arith, c.loop-run-test.true, ap length items) in
    let here = ap (λ (runs : List Run). has_row (run_at runs at) row) (sym items) ∙ sym c.has_row.ensures ∙ c.if-has_row.true in
    c.rank_after.ensures
    ∙ ap (λ (runs : List Run). cond (has_bit (run_at runs at).mask member) (Some (c.loop-run.before + (row - (run_at runs at).first)
    * bits_below (run_at runs at).mask members + bits_below (run_at runs at).mask member)) None) items
    ∙ ap (λ (n : ℕ). cond (has_bit run.mask member) (Some (n + (row - run.first) * bits_below run.mask members + bits_below run.mask member)) None)
    (held_so_far members list at c.loop-run.before c.loop-run.invariant.sum)
    ∙ sym (rank_found members c.args.runs.now at row member within here)

pub overflow_add-before : goal.overflow_add-before
overflow_add-before c =
    let list = c.args.runs.now.list.items in
    let items = c.as_slice-run-items.ensures.value in
    let within : c.loop-run.run-index < length list = omega (arith, c.loop-run-test.true, ap length items) in
    let long : c.from.result < 2 ^ 16 =
    omega (
      arith,
      c.from.ensures,
      ap (λ (runs : List Run). (run_at runs c.loop-run.run-index).length) items,
      (c.args.runs.now.allowed.fit.each c.loop-run.run-index within).length_most,
    ) in
    omega (
      arith,
      c.loop-run.invariant.sum,
      held_by_few c.args.members list c.requires.members (λ i within. (c.args.runs.now.allowed.fit.each i within).mask_most),
      c.args.runs.now.allowed.fit.held_most,
      mul-le c.from.result c.bits_below.result 65535 8 (omega (arith, long)) (omega (arith, c.bits_below.ensures.most, c.requires.members)),
    )

pub loop-run-preserved : goal.loop-run-preserved
loop-run-preserved c =
    let items = c.as_slice-run-items.ensures.value in
    let at = c.loop-run.run-index in
    let list = c.args.runs.now.list.items in
    let within : at < length list = omega (arith, c.loop-run-test.true, ap length items) in
    record {
      left = left_on list at c.args.row within (ap (λ (runs : List Run). has_row (run_at runs at) c.args.row) (sym items) ∙ sym c.has_row.ensures
          ∙ c.if-has_row.false)
          c.loop-run.invariant.left;
      sum = held_by_on c.args.members list at c.loop-run.before c.from.result c.bits_below.result within c.loop-run.invariant.sum
          (c.from.ensures ∙ ap (λ (runs : List Run). (run_at runs at).length) items)
          (c.bits_below.ensures.bits ∙ ap (λ (runs : List Run). bits_below (run_at runs at).mask c.args.members) items);
    }

pub returns : goal.returns
returns c =
    let list = c.args.runs.now.list.items in
    let end : drop c.loop-run.run-index list ≡ [] = drop_all c.loop-run.run-index list
    (omega (arith, c.loop-run-test.false, ap length c.as_slice-run-items.ensures.value)) in
    sym (no_rank c.args.members c.args.runs.now c.args.row c.args.member (c.loop-run.invariant.left ∙ ap (λ (xs : List Run). run_of xs c.args.row) end))
