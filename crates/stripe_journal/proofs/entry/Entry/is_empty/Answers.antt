use Rattle.std.proofs.Common.{rules}
use Rattle.stripe_journal.proofs.entry.Entry.is_empty.Goals as goal

pub returns : goal.returns
returns c = search rules
