use Rattle.volume_table.proofs.TableSizes.{same_map}
use Rattle.volume_table.proofs.VolumeLemmas.{known_by_blocks}
use Rattle.volume_table.proofs.StepLemmas.{step_keeps, others_stay, written_is_read, write_changes_its_blocks, created_is_zero, list_is_exact, found_is_listed}
use Rattle.volume_table.proofs.StepLemmas.{created_is_listed, extended_has_zeros, read_changes_nothing, refused_changes_nothing, removed_is_gone}
use Rattle.volume_table.proofs.StepLemmas.{renamed_has_blocks, renamed_is_listed, version_stays}
use Rattle.volume_table.proofs.law.commands.law_of_commands.Goals as goal

pub returns-clause-limits : goal.returns-clause-limits
returns-clause-limits c = step_keeps

pub returns-clause-refused : goal.returns-clause-refused
returns-clause-refused c = refused_changes_nothing

pub returns-clause-read : goal.returns-clause-read
returns-clause-read c = read_changes_nothing

pub returns-clause-others : goal.returns-clause-others
returns-clause-others c = others_stay

pub returns-clause-written_is_read : goal.returns-clause-written_is_read
returns-clause-written_is_read c = written_is_read

pub returns-clause-write : goal.returns-clause-write
returns-clause-write c = write_changes_its_blocks

pub returns-clause-created : goal.returns-clause-created
returns-clause-created c = created_is_zero

pub returns-clause-exact : goal.returns-clause-exact
returns-clause-exact c = list_is_exact

pub returns-clause-listed : goal.returns-clause-listed
returns-clause-listed c = found_is_listed

pub returns-clause-created_is_listed : goal.returns-clause-created_is_listed
returns-clause-created_is_listed c = created_is_listed

pub returns-clause-extended : goal.returns-clause-extended
returns-clause-extended c = extended_has_zeros

pub returns-clause-removed : goal.returns-clause-removed
returns-clause-removed c = removed_is_gone

pub returns-clause-renamed : goal.returns-clause-renamed
returns-clause-renamed c = renamed_has_blocks

pub returns-clause-renamed_is_listed : goal.returns-clause-renamed_is_listed
returns-clause-renamed_is_listed c = renamed_is_listed

pub returns-clause-known : goal.returns-clause-known
returns-clause-known c = λ extents first second one two same version.
    same_map first second version (known_by_blocks first.volumes second.volumes one.rising two.rising same)

pub returns-clause-version : goal.returns-clause-version
returns-clause-version c = version_stays
