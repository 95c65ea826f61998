use Rattle.std.proofs.Common.{rules}
use Rattle.report.proofs.text.role_word.Goals as goal

pub returns-then-slot-members : goal.returns-then-slot-members
returns-then-slot-members c = search rules
