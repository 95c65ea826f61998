use Rattle.std.proofs.Common.{refl, sym, arith}
use Rattle.array_io.proofs.Marks.MarkingTable.{marked_is_table, no_position}
use Rattle.array_io.proofs.array.mark.without.Goals as goal

pub returns : goal.returns
returns c = record {
  same_id = refl;
  same_geometry = refl;
  generation = refl;
  has_states = refl;
  has_incarnations = refl;
  has_position = sym (no_position c.args.table.now c.args.dev c.args.table.now.position c.requires.of_set c.requires.others);
}

pub bounds-states-dev : goal.bounds-states-dev
bounds-states-dev c = omega (arith, c.requires.of_set, c.args.table.now.geometry.limits.members_most)

pub overflow_add-result : goal.overflow_add-result
overflow_add-result c = omega (arith, c.requires.generation)

pub invariant_of-result : goal.invariant_of-result
invariant_of-result c = record {
  id_long = c.args.table.now.id_long;
  allowed = marked_is_table c.args.table.now c.args.dev c.requires.of_set c.requires.generation c.requires.others;
}
