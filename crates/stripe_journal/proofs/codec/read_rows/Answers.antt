use Rattle.std.proofs.Common.{◌∙◌, ap, take}
use Rattle.stripe_journal.proofs.Spellings.{rows_back}
use Rattle.stripe_journal.proofs.codec.read_rows.Goals as goal

pub returns-clause-exact : goal.returns-clause-exact
returns-clause-exact c = λ rows masks are few counted is.
    c.truncate.ensures.items ∙ ap (take c.args.count) c.from_array_in-rows.ensures.items
    ∙ rows_back rows masks c.args.held.now c.read_u32_into.new.dst c.args.count are few counted is c.read_u32_into.auto.dst c.read_u32_into.ensures
