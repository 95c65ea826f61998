use Rattle.volume_table.proofs.SetLemmas.{tables_have_one_out, slots_stay, faults_are_missing, position_is_zero, volumes_leave_set, refused_leaves_set}
use Rattle.volume_table.proofs.SetLemmas.{rebuild_goes_on, rebuild_is_counted, rebuild_goes_on_among_others, rebuild_is_counted_among_others}
use Rattle.volume_table.proofs.law.set.law_of_set_commands.Goals as goal

pub returns-clause-slots : goal.returns-clause-slots
returns-clause-slots c = slots_stay

pub returns-clause-faults : goal.returns-clause-faults
returns-clause-faults c = faults_are_missing

pub returns-clause-position : goal.returns-clause-position
returns-clause-position c = position_is_zero

pub returns-clause-volumes : goal.returns-clause-volumes
returns-clause-volumes c = volumes_leave_set

pub returns-clause-refused : goal.returns-clause-refused
returns-clause-refused c = refused_leaves_set

pub returns-clause-goes_on : goal.returns-clause-goes_on
returns-clause-goes_on c = rebuild_goes_on

pub returns-clause-counted : goal.returns-clause-counted
returns-clause-counted c = rebuild_is_counted

pub returns-clause-one_out : goal.returns-clause-one_out
returns-clause-one_out c = tables_have_one_out

pub returns-clause-goes_on_among_others : goal.returns-clause-goes_on_among_others
returns-clause-goes_on_among_others c = rebuild_goes_on_among_others

pub returns-clause-counted_among_others : goal.returns-clause-counted_among_others
returns-clause-counted_among_others c = rebuild_is_counted_among_others
