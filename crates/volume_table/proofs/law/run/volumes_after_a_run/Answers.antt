use Rattle.volume_table.proofs.RunLemmas.{chain_keeps_volumes, each_event_stands, last_event_stands}
use Rattle.volume_table.proofs.law.run.volumes_after_a_run.Goals as goal

pub returns-clause-settled : goal.returns-clause-settled
returns-clause-settled c = chain_keeps_volumes

pub returns-clause-stands : goal.returns-clause-stands
returns-clause-stands c = each_event_stands

pub returns-clause-last : goal.returns-clause-last
returns-clause-last c = last_event_stands
