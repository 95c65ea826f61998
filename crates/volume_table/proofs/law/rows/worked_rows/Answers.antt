use Rattle.volume_table.proofs.WorkedRows.{smaller_extents}
use Rattle.volume_table.proofs.WorkedRows.{extend_into_new_extent, extend_keeps_and_zeroes, fill_then_no_space, largest_volume, list_rises, long_names}
use Rattle.volume_table.proofs.WorkedRows.{names_at_the_limits, one_block_too_many, reads_at_the_limits, refused_commands, rename_script, reused_is_zero}
use Rattle.volume_table.proofs.WorkedRows.{sixty_four_volumes, thirty_two_blocks, thirty_two_volumes, write_out_of_range}
use Rattle.volume_table.proofs.law.rows.worked_rows.Goals as goal

pub returns-clause-full : goal.returns-clause-full
returns-clause-full c = fill_then_no_space

pub returns-clause-smaller_extents : goal.returns-clause-smaller_extents
returns-clause-smaller_extents c = smaller_extents

pub returns-clause-one_too_many : goal.returns-clause-one_too_many
returns-clause-one_too_many c = one_block_too_many

pub returns-clause-new_extent : goal.returns-clause-new_extent
returns-clause-new_extent c = extend_into_new_extent

pub returns-clause-extend : goal.returns-clause-extend
returns-clause-extend c = extend_keeps_and_zeroes

pub returns-clause-reused : goal.returns-clause-reused
returns-clause-reused c = reused_is_zero

pub returns-clause-thirty_two_blocks : goal.returns-clause-thirty_two_blocks
returns-clause-thirty_two_blocks c = thirty_two_blocks

pub returns-clause-out_of_range : goal.returns-clause-out_of_range
returns-clause-out_of_range c = write_out_of_range

pub returns-clause-refused : goal.returns-clause-refused
returns-clause-refused c = refused_commands

pub returns-clause-largest : goal.returns-clause-largest
returns-clause-largest c = largest_volume

pub returns-clause-reads : goal.returns-clause-reads
returns-clause-reads c = reads_at_the_limits

pub returns-clause-names : goal.returns-clause-names
returns-clause-names c = names_at_the_limits

pub returns-clause-thirty_two_volumes : goal.returns-clause-thirty_two_volumes
returns-clause-thirty_two_volumes c = thirty_two_volumes

pub returns-clause-sixty_four_volumes : goal.returns-clause-sixty_four_volumes
returns-clause-sixty_four_volumes c = sixty_four_volumes

pub returns-clause-long_names : goal.returns-clause-long_names
returns-clause-long_names c = long_names

pub returns-clause-rename_script : goal.returns-clause-rename_script
returns-clause-rename_script c = rename_script

pub returns-clause-list : goal.returns-clause-list
returns-clause-list c = list_rises
