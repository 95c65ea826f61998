use Rattle.volume_table.proofs.FreshLemmas.{fresh_set_shows_none, fresh_set_stands_for_none}
use Rattle.volume_table.proofs.law.fresh.fresh_set_has_no_volume.Goals as goal

pub returns-clause-shows : goal.returns-clause-shows
returns-clause-shows c = fresh_set_shows_none

pub returns-clause-stands : goal.returns-clause-stands
returns-clause-stands c = fresh_set_stands_for_none
