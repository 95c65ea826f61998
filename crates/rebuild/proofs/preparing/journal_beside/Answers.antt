use Rattle.std.proofs.Common.{rules}
use Rattle.rebuild.proofs.preparing.journal_beside.Goals as goal

pub returns-then-journal-first : goal.returns-then-journal-first
returns-then-journal-first c = search rules

pub returns-else-journal-first : goal.returns-else-journal-first
returns-else-journal-first c = search rules
