use Rattle.std.proofs.Common.{rules}
use Rattle.batch.proofs.tests.zero_rows.add.Goals as goal

pub add-requires-clause-apart : goal.add-requires-clause-apart
add-requires-clause-apart g c = c.has_none_of.ensures.0 (search rules)
