use Rattle.volume_table.proofs.EventLemmas.{after_in_parts, after_refused, events_keep}
use Rattle.volume_table.proofs.law.events.law_of_events.Goals as goal

pub returns-clause-parts : goal.returns-clause-parts
returns-clause-parts c = after_in_parts

pub returns-clause-refused : goal.returns-clause-refused
returns-clause-refused c = after_refused

pub returns-clause-limits : goal.returns-clause-limits
returns-clause-limits c = events_keep
