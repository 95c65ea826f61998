use Rattle.std.proofs.Common.{ℕ, ◌+◌, List, sym, subst, arith}
use Rattle.stripe_journal.specs.Seals.{IsSeal}
use Rattle.stripe_journal.proofs.EntryRows.{entry_rows}
use Rattle.array_io.proofs.array.commit.next_seal.Goals as goal

pub form-requires-clause-listed : goal.form-requires-clause-listed
form-requires-clause-listed c = c.requires.listed

pub invariant_of-result : goal.invariant_of-result
invariant_of-result c = record {
  allowed = subst (λ (rows : List ℕ). IsSeal (c.args.number + 1) rows) (sym c.form.ensures.rows) (record {
    number_least = omega arith;
    number_most = omega (arith, c.requires.room);
    rows = entry_rows c.args.entry.now c.requires.least;
  });
  formed = c.form.ensures.formed;
}
