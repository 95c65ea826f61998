use Rattle.std.proofs.Common.{arith}
use Rattle.volume_table.proofs.Admitted.{few_by, used_one_more}
use Rattle.volume_table.proofs.store.admission.first_unused.Goals as goal

pub listed : goal.listed
listed c = omega (arith, few_by _ c.most_volumes-number-end.result c.most_volumes-number-end.ensures, c.loop-number-test.true)

pub bounds-records-number : goal.bounds-records-number
bounds-records-number c = omega (arith, few_by _ c.most_volumes-number-end.result c.most_volumes-number-end.ensures, c.loop-number-test.true)

pub loop-number-preserved : goal.loop-number-preserved
loop-number-preserved c =
    used_one_more c.args.records.now c.loop-number.number c.index-records-number.result c.is_none.result
    (omega (arith, few_by _ c.most_volumes-number-end.result c.most_volumes-number-end.ensures, c.loop-number-test.true)) c.is_none.ensures c.if-is_none.false
    c.loop-number.invariant
