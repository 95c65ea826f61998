-- Small runs of commands are computed.
use Rattle.std.proofs.Common.{refl}
use Rattle.extents.specs.VolumeTables.{most_blocks}
use Rattle.extents.specs.Versions.{most_name_bytes, most_volumes}
use Rattle.volume_table.specs.Rows.{ExtendIntoNewExtent, ExtendKeepsAndZeroes, FillThenNoSpace, LargestVolume, ListRises, LongNames, NamesAtTheLimits}
use Rattle.volume_table.specs.Rows.{OneBlockTooMany, ReadsAtTheLimits, RefusedCommands, RenameScript, ReusedIsZero, SixtyFourVolumes, ThirtyTwoBlocks}
use Rattle.volume_table.specs.Rows.{SmallerExtents, ThirtyTwoVolumes, WriteOutOfRange}

pub fill_then_no_space : FillThenNoSpace
unfolding most_blocks most_name_bytes most_volumes
fill_then_no_space = refl

pub one_block_too_many : OneBlockTooMany
unfolding most_blocks most_name_bytes most_volumes
one_block_too_many = refl

pub smaller_extents : SmallerExtents
unfolding most_blocks most_name_bytes most_volumes
smaller_extents = (refl, refl)

pub extend_into_new_extent : ExtendIntoNewExtent
unfolding most_blocks most_name_bytes most_volumes
extend_into_new_extent = refl

pub extend_keeps_and_zeroes : ExtendKeepsAndZeroes
unfolding most_blocks most_name_bytes most_volumes
extend_keeps_and_zeroes block = refl

pub reused_is_zero : ReusedIsZero
unfolding most_blocks most_name_bytes most_volumes
reused_is_zero block = refl

pub thirty_two_blocks : ThirtyTwoBlocks
unfolding most_blocks most_name_bytes most_volumes
thirty_two_blocks block = refl

pub write_out_of_range : WriteOutOfRange
unfolding most_blocks most_name_bytes most_volumes
write_out_of_range first second = refl

pub refused_commands : RefusedCommands
unfolding most_blocks most_name_bytes most_volumes
refused_commands = refl

pub largest_volume : LargestVolume
unfolding most_blocks most_name_bytes most_volumes
largest_volume = (refl, refl, refl)

pub reads_at_the_limits : ReadsAtTheLimits
unfolding most_blocks most_name_bytes most_volumes
reads_at_the_limits = refl

pub names_at_the_limits : NamesAtTheLimits
unfolding most_blocks most_name_bytes most_volumes
names_at_the_limits = refl

pub thirty_two_volumes : ThirtyTwoVolumes
unfolding most_blocks most_name_bytes most_volumes
thirty_two_volumes = refl

pub sixty_four_volumes : SixtyFourVolumes
unfolding most_blocks most_name_bytes most_volumes
sixty_four_volumes = refl

pub long_names : LongNames
unfolding most_blocks most_name_bytes most_volumes
long_names = refl

pub rename_script : RenameScript
unfolding most_blocks most_name_bytes most_volumes
rename_script block = refl

pub list_rises : ListRises
unfolding most_blocks most_name_bytes most_volumes
list_rises = refl
