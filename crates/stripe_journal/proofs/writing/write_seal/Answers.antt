use Rattle.std.proofs.Common.{rules}
use Rattle.stripe_journal.proofs.writing.write_seal.Goals as goal

pub returns-clause-made : goal.returns-clause-made
returns-clause-made c = search rules
