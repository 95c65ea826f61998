use Rattle.std.proofs.lemmas.Grind.{common_steps}
use Rattle.std.proofs.Common.{arith, rules}
use Rattle.stripe_journal.proofs.entry.put_zeros.Goals as goal

pub loop-sector-preserved : goal.loop-sector-preserved
loop-sector-preserved c = search rules

pub returns-clause-others : goal.returns-clause-others
returns-clause-others c = grind (arith, common_steps)
