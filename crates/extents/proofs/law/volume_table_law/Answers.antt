use Rattle.extents.proofs.TableLaws.{fills, one_table, empty_is_zeros, zeros_are_empty, empty_exists}
use Rattle.extents.proofs.law.volume_table_law.Goals as goal

pub returns : goal.returns
returns c = record {
  filled = fills;
  one = one_table;
  zeros = λ format table of_format. (empty_is_zeros format table, zeros_are_empty format table of_format);
  empty = empty_exists;
}
