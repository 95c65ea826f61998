use Rattle.array_io.proofs.Laws.DeviceRules as rules
use Rattle.array_io.proofs.law.device_rules.a_start_is_one_of.Goals as goal

pub returns : goal.returns
returns c = rules.a_start_is_one_of
