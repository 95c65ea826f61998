use Rattle.std.proofs.Common.{append_assoc, rules}
use Rattle.device_files.proofs.path_of.Goals as goal

pub returns : goal.returns
returns c = search (rules, append_assoc)
