use Rattle.stripe_journal.proofs.OneEntry.{a_crash_leaves_either}
use Rattle.stripe_journal.proofs.law.entry_law.Goals as goal

pub returns : goal.returns
returns c = record { either = a_crash_leaves_either }
