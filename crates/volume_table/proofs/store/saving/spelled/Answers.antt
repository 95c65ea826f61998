use Rattle.std.proofs.Common.{rules}
use Rattle.volume_table.proofs.store.saving.spelled.Goals as goal

pub returns : goal.returns
returns c = search rules
