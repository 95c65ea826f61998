use Rattle.std.specs.Prelude.{vec_len}
use Rattle.std.proofs.Common.{refl, arith}
use Rattle.layout_map.proofs.Places.{rows_most}
use Rattle.sector_model.specs.Memory.{slots_of}
use Rattle.array_io.specs.Oracle.{entry_of}
use Rattle.array_io.proofs.Oracles.EvaluatedRows.{filled_more, same_values}
use Rattle.array_io.proofs.oracle.one_row.row_sources_in.Goals as goal

pub loop-member-preserved : goal.loop-member-preserved
loop-member-preserved c = filled_more (vec_len c.args.image.now.slots) c.args.table.now (slots_of c.args.image.now.slots.items)
    (entry_of c.last_entry_in-last.result) c.args.row
    c.loop-member.member c.loop-member.entry c.loop-member.trusted c.loop-member.own c.entry_sector_in.result c.is_trusted_in.result c.sector_at.result
    (omega (arith, c.loop-member-test.true, c.args.table.now.geometry.limits.members_most)) c.loop-member.invariant c.entry_sector_in.ensures
    c.is_trusted_in.ensures c.sector_at.ensures

pub returns-clause-values : goal.returns-clause-values
returns-clause-values c = same_values (vec_len c.args.image.now.slots) c.args.table.now (slots_of c.args.image.now.slots.items)
    (entry_of c.last_entry_in-last.result) c.args.row
    c.loop-member.member c.loop-member.entry c.loop-member.trusted c.loop-member.own c.requires c.loop-member-test.false c.last_entry_in-last.ensures
    c.loop-member.invariant

pub loop-member-init : goal.loop-member-init
loop-member-init c = record {
  long_entry = refl;
  long_trusted = refl;
  long_own = refl;
  entries = λ k below. absurd (omega (arith, below));
  trusts = λ k below. absurd (omega (arith, below));
  owns = λ k below inside. absurd (omega (arith, below));
}

pub entry_sector_in-requires-clause-last : goal.entry_sector_in-requires-clause-last
entry_sector_in-requires-clause-last c = c.last_entry_in-last.ensures

pub entry_sector_in-requires-clause-member : goal.entry_sector_in-requires-clause-member
entry_sector_in-requires-clause-member c = c.loop-member-test.true

pub bounds-entry-member : goal.bounds-entry-member
bounds-entry-member c = omega (arith, c.loop-member-test.true, c.args.table.now.geometry.limits.members_most)

pub bounds-trusted-member : goal.bounds-trusted-member
bounds-trusted-member c = omega (arith, c.loop-member-test.true, c.args.table.now.geometry.limits.members_most)

pub bounds-own-member : goal.bounds-own-member
bounds-own-member c = omega (arith, c.loop-member-test.true, c.args.table.now.geometry.limits.members_most)

pub invariant_of-result : goal.invariant_of-result
invariant_of-result c = record { limit = c.args.table.now.geometry.limits.members_most }

pub returns-clause-members : goal.returns-clause-members
returns-clause-members c = refl

pub offset_bounds-entry-member : goal.offset_bounds-entry-member
offset_bounds-entry-member c = omega (arith, c.loop-member-test.true, c.args.table.now.geometry.limits.members_most)

pub offset_bounds-own-member : goal.offset_bounds-own-member
offset_bounds-own-member c = omega (arith, c.loop-member-test.true, c.args.table.now.geometry.limits.members_most)

pub overflow_add-row : goal.overflow_add-row
overflow_add-row c = omega (arith, c.requires, rows_most c.args.table.now.geometry.limits)
