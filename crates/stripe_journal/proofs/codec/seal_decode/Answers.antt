use Rattle.std.proofs.Common.{rules}
use Rattle.stripe_journal.proofs.codec.seal_decode.Goals as goal

pub returns-then-eq-clause-exact : goal.returns-then-eq-clause-exact
returns-then-eq-clause-exact c = search rules

pub returns-then-eq-clause-some : goal.returns-then-eq-clause-some
returns-then-eq-clause-some c = search rules

pub returns-else-eq-clause-exact : goal.returns-else-eq-clause-exact
returns-else-eq-clause-exact c = search rules
