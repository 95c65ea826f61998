-- Each sector is added with its number.
use Rattle.std.proofs.Common.{ℕ, subst, arith}
use Rattle.extents.proofs.Versions.{table_length_most}
use Rattle.volume_table.proofs.PutTable.{AreAllBelow, all_of_version, one_more}
use Rattle.volume_table.proofs.store.saving.numbered.Goals as goal

pub loop-number-preserved : goal.loop-number-preserved
loop-number-preserved c = one_more c.loop-number.number c.args.after.now c.loop-number.sectors.items _ c.loop-number.invariant c.push.ensures.items

pub offset_bounds-after-number : goal.offset_bounds-after-number
offset_bounds-after-number c = omega (arith, c.table_length-number-end.ensures, table_length_most c.args.version)

pub bounds-after-number : goal.bounds-after-number
bounds-after-number c = omega (arith, c.table_length-number-end.ensures, table_length_most c.args.version)

pub push-requires : goal.push-requires
push-requires c = (omega arith, omega (arith, c.loop-number.invariant.long, c.table_length-number-end.ensures, table_length_most c.args.version))

pub returns : goal.returns
returns c = all_of_version c.args.version c.args.after.now c.loop-number.sectors.items
    (subst (λ (n : ℕ). AreAllBelow n c.args.after.now c.loop-number.sectors.items) (omega (arith, c.table_length-number-end.ensures)) c.loop-number.invariant)
