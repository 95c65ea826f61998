use Rattle.std.proofs.Common.{◌+◌, arith}
use Rattle.batch.proofs.ZeroJoins.{joined_both, new_below}
use Rattle.batch.proofs.zero_rows.join.Goals as goal

pub join_after-after-requires-clause-above : goal.join_after-after-requires-clause-above
join_after-after-requires-clause-above c = λ inside.
    let number = c.runs_before-number.result in
    omega (
      arith,
      c.from.ensures,
      c.from-2.ensures,
      new_below c.args.runs.now c.args.first c.args.count number c.requires.zero c.requires.apart
          c.requires.least inside (c.runs_before-number.ensures.others number (omega arith) inside),
    )

pub returns : goal.returns
returns c =
    joined_both c.args.runs.now c.args.first c.args.count c.runs_before-number.result (c.from.result + c.from-2.result) c.join_before-before.result
    c.join_after-after.result c.requires.zero c.requires.apart c.requires.least (omega (arith, c.from.ensures, c.from-2.ensures)) c.runs_before-number.ensures
    c.join_before-before.ensures c.join_after-after.ensures
