use Rattle.std.proofs.Common.{rules}
use Rattle.volume_table.proofs.store.listing.place_of.Goals as goal

pub returns-then-is_lt-clause-not_before : goal.returns-then-is_lt-clause-not_before
returns-then-is_lt-clause-not_before c = search rules
