use Rattle.std.proofs.Common.{rules}
use Rattle.sector_model.proofs.memory.after_crash.flushes.Goals as goal

pub returns-in-Flushed : goal.returns-in-Flushed
returns-in-Flushed c = search rules
