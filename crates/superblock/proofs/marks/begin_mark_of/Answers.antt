use Rattle.std.proofs.Common.{rules}
use Rattle.superblock.specs.Spelling.{begin_mark}
use Rattle.superblock.proofs.marks.begin_mark_of.Goals as goal

pub returns-in-One : goal.returns-in-One
unfolding begin_mark
returns-in-One c = search rules

pub returns-in-Two : goal.returns-in-Two
unfolding begin_mark
returns-in-Two c = search rules
