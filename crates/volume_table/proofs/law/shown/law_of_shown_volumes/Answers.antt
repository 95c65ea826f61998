use Rattle.volume_table.proofs.ReadLemmas.{absent_is_shown, length_is_shown, read_is_shown, empty_is_shown}
use Rattle.volume_table.proofs.FreeLemmas.{table_is_extent_map, free_is_not_needed}
use Rattle.volume_table.proofs.CountLemmas.{records_are_counted}
use Rattle.volume_table.proofs.ShowsLemmas.{good_names, shown_are_one, list_shows_one, write_is_shown}
use Rattle.volume_table.proofs.TableLemmas.{unused_may_change, create_is_shown, extend_is_shown, remove_is_shown, rename_is_shown, upgrade_is_shown}
use Rattle.volume_table.proofs.law.shown.law_of_shown_volumes.Goals as goal

pub returns-clause-names : goal.returns-clause-names
returns-clause-names c = good_names

pub returns-clause-one : goal.returns-clause-one
returns-clause-one c = shown_are_one

pub returns-clause-one_of_list : goal.returns-clause-one_of_list
returns-clause-one_of_list c = list_shows_one

pub returns-clause-write : goal.returns-clause-write
returns-clause-write c = write_is_shown

pub returns-clause-unused : goal.returns-clause-unused
returns-clause-unused c = unused_may_change

pub returns-clause-create : goal.returns-clause-create
returns-clause-create c = create_is_shown

pub returns-clause-extend : goal.returns-clause-extend
returns-clause-extend c = extend_is_shown

pub returns-clause-remove : goal.returns-clause-remove
returns-clause-remove c = remove_is_shown

pub returns-clause-rename : goal.returns-clause-rename
returns-clause-rename c = rename_is_shown

pub returns-clause-upgrade : goal.returns-clause-upgrade
returns-clause-upgrade c = upgrade_is_shown

pub returns-clause-counted : goal.returns-clause-counted
returns-clause-counted c = records_are_counted

pub returns-clause-map : goal.returns-clause-map
returns-clause-map c = table_is_extent_map

pub returns-clause-free : goal.returns-clause-free
returns-clause-free c = free_is_not_needed

pub returns-clause-absent : goal.returns-clause-absent
returns-clause-absent c = absent_is_shown

pub returns-clause-length : goal.returns-clause-length
returns-clause-length c = length_is_shown

pub returns-clause-read : goal.returns-clause-read
returns-clause-read c = read_is_shown

pub returns-clause-empty : goal.returns-clause-empty
returns-clause-empty c = empty_is_shown
