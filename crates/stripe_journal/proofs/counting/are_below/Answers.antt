use Rattle.std.proofs.Common.{rules}
use Rattle.stripe_journal.proofs.counting.are_below.Goals as goal

pub returns : goal.returns
returns c = search rules
