use Rattle.std.proofs.Common.{rules}
use Rattle.superblock.specs.Spelling.{end_mark}
use Rattle.superblock.proofs.marks.end_mark_of.Goals as goal

pub returns-in-One : goal.returns-in-One
unfolding end_mark
returns-in-One c = search rules

pub returns-in-Two : goal.returns-in-Two
unfolding end_mark
returns-in-Two c = search rules
